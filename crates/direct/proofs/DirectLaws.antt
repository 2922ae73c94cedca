-- Laws of a product that is made straight from the arrays: one term more, and factors that are read by strides.
-- Assumes nothing.
use mathlib.Core.Bool.{Bool, true, false, true≢false}
use mathlib.Core.Path.{◌≡◌, refl, sym, ap, ap₂, subst, ◌∙◌}
use mathlib.Core.Logic.{⊎_elim}
use mathlib.Core.List.{List}
use Prim.Native.Nat.{ℕ, ◌+◌, ◌-◌, ◌*◌, ◌<◌, ◌≤◌}
use native.Mathlib.Nat.{add-zero, add-mul}
use native.Mathlib.Omega.{arith}
use lib.ListN.{length, set, take, drop}
use lib.Ieee.{Float, nan}
use borrow.Rule.Slice.PartMut.{put_mid}
use Rattle.arrays.specs.Update.{Mask, update, below, entries, only, box, region}
use Rattle.arrays.specs.Fold.{fold}
use Rattle.arrays.proofs.UpdateLaws.{below_none, below-yet, below_more, below_in, below_out, below-same, lt-or-ge}
use Rattle.arrays.proofs.PartLaws.{column-room, part_then, tail_at}
use Rattle.arrays.proofs.EntryLaws.{entries-same, entries-keep, only_same, only-keep}
use Rattle.arrays.proofs.RegionLaws.{region-same, one-column}
use Rattle.floats.specs.Array.{at}
use Rattle.floats.specs.Operations.{◌⊕◌, ◌⊗◌}
use Rattle.blocks.specs.Terms.{accumulate}
use Rattle.blocks.proofs.TermLaws.{accumulate-none, accumulate-same, accumulate-split}
use Rattle.packing.specs.Factor.{Matrix, is_mirrored, is_lower, mirrored_form, index_of, entry_of, turn}
use Rattle.packing.specs.declared.Form.{Form}
use Rattle.packing.specs.declared.Form.TheVariants.{Plain, Transposed, Lower, Upper}
use Rattle.packing.proofs.FactorLaws.{by-triangle, turn_below}
use Rattle.direct.specs.Product.{partly, product, strided, row_stride, column_stride, from_row, from_column}
use Rattle.packing.proofs.PackLaws.{held}

-- ---- no terms yet

pub partly-nothing : (alpha : Float) (A B : Matrix) (down : Bool) (k i j : ℕ) (e : Float) → e ≡ partly alpha A B down k 0 i j e
unfolding partly
partly-nothing alpha A B down k i j e = sym (accumulate-none _ _ e)

-- of all entries of a mask, and of a rectangle
module _ (alpha : Float) (A B : Matrix) (down : Bool) (k ld : ℕ) (c₀ : List Float) where
  pub masked-none : (mask : Mask) → c₀ ≡ update (entries ld (only mask (partly alpha A B down k 0))) c₀
  masked-none mask = sym (entries-keep ld _ c₀ (λ i j x. only-keep mask _ i j x (sym (partly-nothing alpha A B down k i j x))))

  pub partly_none : (rows cols : ℕ) → c₀ ≡ update (region ld rows cols (partly alpha A B down k 0)) c₀
  unfolding region
  partly_none rows cols = masked-none (box rows cols)

-- ---- terms more

-- the q-th term added to the sum of those before it
pub term-more : (alpha : Float) (A B : Matrix) (down : Bool) (k q i j : ℕ) {l : ℕ} (u v e x : Float) → l ≡ turn down k q → v ≡ B l j → u ≡ A i l
    → e ≡ partly alpha A B down k q i j x → e ⊕ alpha ⊗ v ⊗ u ≡ partly alpha A B down k (q + 1) i j x
unfolding partly accumulate fold
term-more alpha A B down k q i j u v e x el ev eu ee =
    ap₂ (λ (s w : Float). s ⊕ w) ee
    (ap₂ (λ (s w : Float). alpha ⊗ s ⊗ w)
    (ev ∙ ap (λ (n : ℕ). B n j) (el ∙ ap (turn down k) (sym (add-zero q))))
    (eu ∙ ap (λ (n : ℕ). A i n) (el ∙ ap (turn down k) (sym (add-zero q)))))
    ∙ accumulate-split (λ q. alpha ⊗ B (turn down k q) j) (λ q. A i (turn down k q)) q 1 x

-- the same where the factors are read by strides
pub strided-more : (alpha : Float) (a : List Float) (ra ca : ℕ) (b : List Float) (rb : ℕ) (down : Bool) (k q i : ℕ) {l : ℕ} (x : ℕ) (e v : Float)
    → l ≡ turn down k q → x ≡ i * ra + l * ca → e ≡ partly alpha (strided a ra ca) (λ l _. at b (l * rb)) down k q i 0 v
    → e ⊕ alpha ⊗ at b (l * rb) ⊗ at a x ≡ partly alpha (strided a ra ca) (λ l _. at b (l * rb)) down k (q + 1) i 0 v
unfolding strided
strided-more alpha a ra ca b rb down k q i x e v el ex ee =
    term-more alpha (strided a ra ca) (λ l _. at b (l * rb)) down k q i 0 _ _ e v el refl (ap (at a) ex) ee

-- one element more, by its value
pub below_set : (F : ℕ → Float → Float) (l m : List Float) (i : ℕ) (v : Float) → m ≡ update (below i F) l → i < length l → v ≡ F i (at l i)
    → set m i v ≡ update (below (i + 1) F) l
below_set F l m i v em h ev =
    ap (λ (x : Float). set m i x) (ev ∙ ap (F i) (sym (below-yet nan F l m i em h)))
    ∙ below_more nan F l m i em h

pub four-set : (F : ℕ → Float → Float) (l : List Float) (e f g h : Float) → 4 ≤ length l → e ≡ F 0 (at l 0) → f ≡ F 1 (at l 1) → g ≡ F 2 (at l 2)
    → h ≡ F 3 (at l 3) → set (set (set (set l 0 e) 1 f) 2 g) 3 h ≡ update (below 4 F) l
four-set F l e f g h n e₀ e₁ e₂ e₃ =
    below_set F l _ 3 h
    (below_set F l _ 2 g (below_set F l _ 1 f (below_set F l l 0 e (below_none F l) (omega arith) e₀) (omega arith) e₁) (omega arith) e₂) (omega arith) e₃

-- ---- a column: the rows below i and then n more, whose part of the left factor is A'

pub column-part : (alpha : Float) (A A' B : Matrix) (down : Bool) (k i n : ℕ) (l m ys : List Float) → i ≤ length l
    → ((r q : ℕ) → r < n → q < k → A' r q ≡ A (i + r) q)
    → m ≡ update (below i (λ p e. product alpha A B down k p 0 e)) l
    → ys ≡ update (below n (λ r e. product alpha A' B down k r 0 e)) (take (length m - i) (drop i m))
    → put_mid i (length m - i) m ys ≡ update (below (i + n) (λ p e. product alpha A B down k p 0 e)) l
unfolding product partly
column-part alpha A A' B down k i n l m ys il same em ey =
    part_then nan i (below i F) (below n G) (below (i + n) F) l m ys il em ey
    (λ p h x. below_in i F p x h ∙ sym (below_in (i + n) F p x (omega arith)))
    (λ r h x.
    ap (below n G r) (below_out i F (i + r) x (omega arith))
    ∙ ⊎_elim
    (λ b.
    below_in n G r x b
    ∙ accumulate-same _ _ _ _ k x (λ q c. refl) (λ q c. same r (turn down k q) b (turn_below down k q c))
    ∙ sym (below_in (i + n) F (i + r) x (omega arith)))
    (λ b. below_out n G r x b ∙ sym (below_out (i + n) F (i + r) x (omega arith)))
    (lt-or-ge r n))
  where
    F : ℕ → Float → Float
    F p e = product alpha A B down k p 0 e

    G : ℕ → Float → Float
    G r e = product alpha A' B down k r 0 e

-- the part from row i on
pub rows-part : (a : List Float) (ra ca i r q : ℕ) → strided (take (length a - i * ra) (drop (i * ra) a)) ra ca r q ≡ strided a ra ca (i + r) q
unfolding strided
rows-part a ra ca i r q = tail_at (i * ra) a (r * ra + q * ca) nan ∙ ap (at a) (omega (arith, add-mul i r ra))

-- its first row
pub row-part : (a : List Float) (ra ca i r q : ℕ) → r < 1 → at (take (length a - i * ra) (drop (i * ra) a)) (q * ca) ≡ strided a ra ca (i + r) q
unfolding strided
row-part a ra ca i r q h = tail_at (i * ra) a (q * ca) nan ∙ ap (at a) (let z : i + r ≡ i = omega arith in rw z (omega arith))

-- the part of the right factor from column j on
column-from : (b : List Float) (rb cb j l : ℕ) → at (take (length b - j * cb) (drop (j * cb) b)) (l * rb) ≡ strided b rb cb l j
unfolding strided
column-from b rb cb j l = tail_at (j * cb) b (l * rb) nan ∙ ap (at b) (omega arith)

pub right-column : (alpha : Float) (A : Matrix) (b : List Float) (rb cb : ℕ) (down : Bool) (k rows j : ℕ) (w ys : List Float)
    → ys ≡ update (below rows (λ i e. product alpha A (λ l _. at (take (length b - j * cb) (drop (j * cb) b)) (l * rb)) down k i 0 e)) w
    → ys ≡ update (below rows (λ i e. product alpha A (strided b rb cb) down k i j e)) w
unfolding product partly
right-column alpha A b rb cb down k rows j w ys e =
    e
    ∙ below-same _ _ w rows
    (λ i h x. accumulate-same _ _ _ _ k x (λ q c. ap (λ (v : Float). alpha ⊗ v) (column-from b rb cb j (turn down k q))) (λ q c. refl))

-- its first column
first-column : (b : List Float) (rb cb j l c : ℕ) → c < 1 → strided (take (length b - j * cb) (drop (j * cb) b)) rb cb l c ≡ strided b rb cb l j
unfolding strided
first-column b rb cb j l c h = tail_at (j * cb) b (l * rb + c * cb) nan ∙ ap (at b) (let z : c ≡ 0 = omega arith in rw z (omega arith))

-- one column of a product, of the parts from row i₀ and from column j on
pub one-column-of : (alpha : Float) (a : List Float) (ra ca : ℕ) (b : List Float) (rb cb : ℕ) (down : Bool) (k ld rows i₀ j : ℕ) (w ys : List Float) → 0 < ld → rows ≤ ld
    → ys ≡ update (region ld rows 1 (product alpha (strided (take (length a - i₀ * ra) (drop (i₀ * ra) a)) ra ca) (strided (take (length b - j * cb) (drop (j * cb) b)) rb cb) down k)) w
    → ys ≡ update (below rows (λ i x. product alpha (strided a ra ca) (strided b rb cb) down k (i₀ + i) j x)) w
unfolding product partly
one-column-of alpha a ra ca b rb cb down k ld rows i₀ j w ys pos fit e =
    e
    ∙ region-same ld rows 1 _ _ w pos
    (λ i c hi hc x.
    accumulate-same _ _ _ _ k x
    (λ q h. ap (λ (v : Float). alpha ⊗ v) (first-column b rb cb j (turn down k q) c hc))
    (λ q h. rows-part a ra ca i₀ i (turn down k q)))
    ∙ sym (one-column nan ld pos rows (λ i x. product alpha (strided a ra ca) (strided b rb cb) down k (i₀ + i) j x) w fit)

-- ---- by the forms of the factors

pub stride-index : (form : Form) → is_mirrored form ≡ false → (ld i j : ℕ) → index_of form ld i j ≡ i * row_stride form ld + j * column_stride form ld
unfolding index_of
stride-index Plain e ld i j = omega arith
stride-index Transposed e ld i j = omega arith
stride-index Lower e ld i j = absurd (true≢false e)
stride-index Upper e ld i j = absurd (true≢false e)

-- a product with other names for its entries
pub same-product : (alpha : Float) (A A' B B' : Matrix) (down : Bool) (k ld rows cols : ℕ) (mask : Mask) (l r : List Float) → 0 < ld
    → ((i j : ℕ) → mask i j ≡ true → (i < rows) × (j < cols))
    → ((i q : ℕ) → i < rows → q < k → A i q ≡ A' i q) → ((q j : ℕ) → q < k → j < cols → B q j ≡ B' q j)
    → r ≡ update (entries ld (only mask (product alpha A B down k))) l → r ≡ update (entries ld (only mask (product alpha A' B' down k))) l
unfolding product partly
same-product alpha A A' B B' down k ld rows cols mask l r pos inside ea eb e =
    e
    ∙ entries-same ld l pos _ _
    (λ i j hi b x.
    only_same mask _ i j x _
    (λ h.
    let w = inside i j h in
    accumulate-same _ _ _ _ k x (λ q c. ap (λ (v : Float). alpha ⊗ v) (eb (turn down k q) j (turn_below down k q c) w.1))
    (λ q c. ea i (turn down k q) w.0 (turn_below down k q c))))

-- the rows of the left factor from i₀ on, by its strides
pub left-entry : (form : Form) (a : List Float) (ld i₀ : ℕ) {ra ca : ℕ} (i l : ℕ) → is_mirrored form ≡ false → ra ≡ row_stride form ld → ca ≡ column_stride form ld
    → strided (take (length a - i₀ * ra) (drop (i₀ * ra) a)) ra ca i l ≡ from_row i₀ (entry_of form a ld) i l
unfolding strided entry_of
left-entry form a ld i₀ {ra} {ca} i l h er ec =
    rows-part a ra ca i₀ i l ∙ ap (at a) (ap₂ (λ (r c : ℕ). (i₀ + i) * r + l * c) er ec ∙ sym (stride-index form h ld (i₀ + i) l))

-- the columns of the right factor from j₀ on
pub right-entry : (form : Form) (b : List Float) (ld j₀ : ℕ) {rb cb : ℕ} (l j : ℕ) → is_mirrored form ≡ false → rb ≡ row_stride form ld → cb ≡ column_stride form ld
    → strided (take (length b - j₀ * cb) (drop (j₀ * cb) b)) rb cb l j ≡ from_column j₀ (entry_of form b ld) l j
unfolding strided entry_of
right-entry form b ld j₀ {rb} {cb} l j h er ec =
    tail_at (j₀ * cb) b (l * rb + j * cb) nan ∙ ap (at b) (omega (arith, add-mul j₀ j cb))
    ∙ ap (at b) (ap₂ (λ (r c : ℕ). l * r + (j₀ + j) * c) er ec ∙ sym (stride-index form h ld l (j₀ + j)))

-- an entry of a mirrored factor as it was written out
pub written_out : (s : ℕ) (form : Form) {lower : Bool} (a : List Float) (ld ny nx i₀ j₀ : ℕ) (d₀ d : List Float) (y x : ℕ) → is_mirrored form ≡ true
    → lower ≡ is_lower form → ny ≤ s → nx * s ≤ length d₀
    → d ≡ update (region s ny nx (λ y x _. entry_of (mirrored_form lower) a ld (i₀ + y) (j₀ + x))) d₀ → y < ny → x < nx
    → entry_of Plain d s y x ≡ entry_of form a ld (i₀ + y) (j₀ + x)
unfolding entry_of index_of
written_out s form {lower} a ld ny nx i₀ j₀ d₀ d y x m e hn hl ed hy hx =
    held s ny nx (λ y x. entry_of (mirrored_form lower) a ld (i₀ + y) (j₀ + x)) d₀ d y x hn hl ed hy hx
    ∙ ap (λ (f : Form). entry_of f a ld (i₀ + y) (j₀ + x)) (ap mirrored_form e ∙ by-triangle form m)

-- the places that are read
pub left-room : (form : Form) (ld i₀ : ℕ) {ra ca len : ℕ} (i l : ℕ) → is_mirrored form ≡ false → ra ≡ row_stride form ld → ca ≡ column_stride form ld
    → index_of form ld (i₀ + i) l < len → i₀ * ra + (i * ra + l * ca) < len
left-room form ld i₀ {ra} {ca} {len} i l h er ec b =
    rw (er, ec) (omega (arith, stride-index form h ld (i₀ + i) l, add-mul i₀ i (row_stride form ld), b))

pub right-room : (form : Form) (ld j₀ : ℕ) {rb cb len : ℕ} (l j : ℕ) → is_mirrored form ≡ false → rb ≡ row_stride form ld → cb ≡ column_stride form ld
    → index_of form ld l (j₀ + j) < len → j₀ * cb + (l * rb + j * cb) < len
right-room form ld j₀ {rb} {cb} {len} l j h er ec b =
    rw (er, ec) (omega (arith, stride-index form h ld l (j₀ + j), add-mul j₀ j (column_stride form ld), b))

pub mirrored-room : (form : Form) {lower : Bool} {len : ℕ} (ld i j : ℕ) → is_mirrored form ≡ true → lower ≡ is_lower form → index_of form ld i j < len
    → index_of (mirrored_form lower) ld i j < len
mirrored-room form {lower} {len} ld i j m e h = subst (λ (f : Form). index_of f ld i j < len) (sym (ap mirrored_form e ∙ by-triangle form m)) h

-- an entry of the buffer that a mirrored factor is written out to
pub buffer-room : (s : ℕ) {len ny nx : ℕ} (i j : ℕ) → ny ≤ s → nx * s ≤ len → i < ny → j < nx → index_of Plain s i j < len
unfolding index_of
buffer-room s i j hy h hi hj = omega (arith, column-room s hj)
