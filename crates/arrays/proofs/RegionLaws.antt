-- Laws of a region, the rows below `rows` and the columns below `cols` of an array with leading dimension ld: its entries, two updates in a row,
-- and a region that grows as a column, some rows or a block are lent and come back.
-- Assumes nothing.
use mathlib.Core.Bool.{true, false}
use mathlib.Core.Path.{◌≡◌, refl, sym, ap, ap₂, subst, ◌∙◌}
use mathlib.Core.Logic.{⊎_elim}
use mathlib.Core.List.{List}
use Prim.Native.Nat.{ℕ, zero, suc, ◌+◌, ◌-◌, ◌*◌, ◌/◌, ◌%◌, ◌<◌, ◌≤◌}
use native.Mathlib.Nat.{mod-lt, div-add-mod', le-div_iff_mul-le, div-lt_iff_lt-mul, one-mul}
use native.Mathlib.Omega.{arith}
use lib.ListN.{length, get_or, take, drop, set, length-set}
use lib.Seq.{get_or-set_same, get_or-set_other}
use borrow.Rule.Slice.PartMut.{put_mid}
use Rattle.arrays.specs.Update.{EntryMap, Mask, update, below, entries, only, box, shifted, region}
use Rattle.arrays.proofs.UpdateLaws.{lt-or-ge, same_or_not, length-update, at-update, is-update, update_same, below_in, below_out}
use Rattle.arrays.proofs.EntryLaws.{entry, entries-then, entries-same, entries-keep, only-in, only_out, only-mask, box_in, box-row-out, box-column-out, shifted_in, shifted-row-out, shifted-column-out}
use Rattle.arrays.proofs.PartLaws.{block-then}

module _ {A : Type 0} (rows cols : ℕ) (f : EntryMap A) (i j : ℕ) (x : A) where
  pub boxed-in : i < rows → j < cols → only (box rows cols) f i j x ≡ f i j x
  boxed-in r c = only-in (box rows cols) f i j x (box_in rows cols i j r c)

  pub boxed-row-out : rows ≤ i → only (box rows cols) f i j x ≡ x
  boxed-row-out r = only_out (box rows cols) f i j x (box-row-out rows cols i j r)

  pub boxed-column-out : cols ≤ j → only (box rows cols) f i j x ≡ x
  boxed-column-out c = only_out (box rows cols) f i j x (box-column-out rows cols i j c)

  -- an entry that is the same whether it is in the box or not
  pub boxed : (y : A) → (i < rows → j < cols → f i j x ≡ y) → (rows ≤ i → x ≡ y) → (cols ≤ j → x ≡ y) → only (box rows cols) f i j x ≡ y
  boxed y k r c =
      ⊎_elim
      (λ hi. ⊎_elim (λ hj. boxed-in hi hj ∙ k hi hj) (λ hj. boxed-column-out hj ∙ c hj) (lt-or-ge j cols))
      (λ hi. boxed-row-out hi ∙ r hi)
      (lt-or-ge i rows)

-- an entry of a block of ni rows and nj columns from (i₀, j₀) on
blocked : {A : Type 0} (i₀ j₀ ni nj : ℕ) (g : EntryMap A) (i j : ℕ) (x y : A)
    → ((r c : ℕ) → i ≡ i₀ + r → j ≡ j₀ + c → r < ni → c < nj → g r c x ≡ y)
    → ((i₀ ≤ i → i < i₀ + ni → j₀ ≤ j → j < j₀ + nj → ⊥) → x ≡ y)
    → shifted i₀ j₀ (only (box ni nj) g) i j x ≡ y
blocked {A} i₀ j₀ ni nj g i j x y inside outside =
    ⊎_elim
    (λ (r : i < i₀). shifted-row-out i₀ j₀ G i j x r ∙ outside (λ u v w z. omega arith))
    (λ r. ⊎_elim
    (λ (c : j < j₀). shifted-column-out i₀ j₀ G i j x c ∙ outside (λ u v w z. omega arith))
    (λ c. here (i - i₀) (j - j₀) (omega arith) (omega arith))
    (lt-or-ge j j₀))
    (lt-or-ge i i₀)
  where
    G : EntryMap A
    G = only (box ni nj) g

    here : (r c : ℕ) → i ≡ i₀ + r → j ≡ j₀ + c → shifted i₀ j₀ G i j x ≡ y
    here r c er ec =
        ap (λ (n : ℕ). shifted i₀ j₀ G n j x) er ∙ ap (λ (n : ℕ). shifted i₀ j₀ G (i₀ + r) n x) ec ∙ shifted_in i₀ j₀ G r c x
        ∙ boxed ni nj g r c x y (λ hr hc. inside r c er ec hr hc) (λ hr. outside (λ u v w z. omega arith)) (λ hc. outside (λ u v w z. omega arith))

module _ {A : Type 0} (ld rows cols : ℕ) where
  pub region-at : (f : EntryMap A) (i j : ℕ) (x : A) → i < ld → i < rows → j < cols → region ld rows cols f (j * ld + i) x ≡ f i j x
  unfolding region
  region-at f i j x h r c = entry ld (only (box rows cols) f) i j (j * ld + i) x h refl ∙ boxed-in rows cols f i j x r c

  pub region-keep : (f : EntryMap A) (l : List A) → ((i j : ℕ) → i < rows → j < cols → (x : A) → f i j x ≡ x) → l ≡ update (region ld rows cols f) l
  unfolding region
  region-keep f l h = sym (entries-keep ld (only (box rows cols) f) l (λ i j x. boxed rows cols f i j x x (λ r c. h i j r c x) (λ r. refl) (λ c. refl)))

  -- two regions whose entries agree
  pub region-same : (f g : EntryMap A) (l : List A) → 0 < ld → ((i j : ℕ) → i < rows → j < cols → (x : A) → f i j x ≡ g i j x)
      → update (region ld rows cols f) l ≡ update (region ld rows cols g) l
  unfolding region
  region-same f g l pos h =
      entries-same ld l pos (only (box rows cols) f) (only (box rows cols) g)
      (λ i j hi b x.
      boxed rows cols f i j x _
      (λ r c. h i j r c x ∙ sym (boxed-in rows cols g i j x r c))
      (λ r. sym (boxed-row-out rows cols g i j x r))
      (λ c. sym (boxed-column-out rows cols g i j x c)))

  -- two updates of the same region, one after the other
  pub region-then : (f g h : EntryMap A) (l m r : List A) → 0 < ld → m ≡ update (region ld rows cols f) l → r ≡ update (region ld rows cols g) m
      → ((i j : ℕ) → i < rows → j < cols → (x : A) → g i j (f i j x) ≡ h i j x) → r ≡ update (region ld rows cols h) l
  unfolding region
  region-then f g h l m r pos em er e =
      er ∙ ap (update (entries ld (only (box rows cols) g))) em
      ∙ entries-then ld l pos (only (box rows cols) f) (only (box rows cols) g) (only (box rows cols) h)
      (λ i j hi b x.
      boxed rows cols g i j _ _
      (λ r c. ap (g i j) (boxed-in rows cols f i j x r c) ∙ e i j r c x ∙ sym (boxed-in rows cols h i j x r c))
      (λ r. boxed-row-out rows cols f i j x r ∙ sym (boxed-row-out rows cols h i j x r))
      (λ c. boxed-column-out rows cols f i j x c ∙ sym (boxed-column-out rows cols h i j x c)))

-- a region of no rows, or of no columns
pub region-no-rows : {A : Type 0} (ld cols : ℕ) (f : EntryMap A) (l : List A) → l ≡ update (region ld 0 cols f) l
region-no-rows ld cols f l = region-keep ld 0 cols f l (λ i j r c x. let z : ⊥ = omega arith in absurd z)

pub region-no-columns : {A : Type 0} (ld rows : ℕ) (f : EntryMap A) (l : List A) → l ≡ update (region ld rows 0 f) l
region-no-columns ld rows f l = region-keep ld rows 0 f l (λ i j r c x. let z : ⊥ = omega arith in absurd z)

module _ {A : Type 0} (d : A) (ld : ℕ) (pos : 0 < ld) where
  -- a region of one column is the elements below `rows`
  pub one-column : (rows : ℕ) (f : ℕ → A → A) (l : List A) → rows ≤ ld → update (below rows f) l ≡ update (region ld rows 1 (λ i j x. f i x)) l
  unfolding region entries
  one-column rows f l rl =
      update_same (below rows f) (entries ld (only (box rows 1) (λ i j x. f i x))) l
      (λ p b x.
      ⊎_elim
      (λ (r : p < rows).
      let k : p < ld = omega arith in
      below_in rows f p x r
      ∙ sym (entry ld (only (box rows 1) (λ i j x. f i x)) p 0 p x k (omega arith) ∙ boxed-in rows 1 (λ i j x. f i x) p 0 x r (omega arith)))
      (λ r.
      below_out rows f p x r
      ∙ ⊎_elim
      (λ (k : p < ld). sym (entry ld (only (box rows 1) (λ i j x. f i x)) p 0 p x k (omega arith) ∙ boxed-row-out rows 1 (λ i j x. f i x) p 0 x r))
      (λ k.
      let one : 1 ≤ p / ld = (le-div_iff_mul-le pos).1 (rw one-mul k) in
      sym (boxed-column-out rows 1 (λ i j x. f i x) (p % ld) (p / ld) x one))
      (lt-or-ge p ld))
      (lt-or-ge p rows))

  -- all rows of the first columns are the first elements
  pub all-columns : (cols : ℕ) (f : EntryMap A) (l : List A) → update (region ld ld cols f) l ≡ update (below (cols * ld) (entries ld f)) l
  unfolding region entries
  all-columns cols f l =
      update_same _ _ l
      (λ p _ x.
      ⊎_elim
      (λ (h : p < cols * ld). boxed-in ld cols f (p % ld) (p / ld) x (mod-lt p pos) ((div-lt_iff_lt-mul pos).1 h) ∙ sym (below_in (cols * ld) _ p x h))
      (λ h. boxed-column-out ld cols f (p % ld) (p / ld) x ((le-div_iff_mul-le pos).1 h) ∙ sym (below_out (cols * ld) _ p x h))
      (lt-or-ge p (cols * ld)))

  -- a block of ni rows and nj columns, from entry (i₀, j₀) on, that was lent and came back: m is the array before, l as a loop began
  pub region-block : (i₀ j₀ ni nj rows cols a : ℕ) (f g h : EntryMap A) (l m ys : List A)
      → a ≡ j₀ * ld + i₀ → i₀ + ni ≤ rows → rows ≤ ld → j₀ + nj ≤ cols → a ≤ length l
      → m ≡ update (region ld rows cols f) l
      → ys ≡ update (region ld ni nj g) (take (length m - a) (drop a m))
      → ((i j : ℕ) → i < ni → j < nj → (x : A) → g i j (f (i₀ + i) (j₀ + j) x) ≡ h (i₀ + i) (j₀ + j) x)
      → ((i j : ℕ) → i < rows → j < cols → (i₀ ≤ i → i < i₀ + ni → j₀ ≤ j → j < j₀ + nj → ⊥) → (x : A) → f i j x ≡ h i j x)
      → put_mid a (length m - a) m ys ≡ update (region ld rows cols h) l
  unfolding region
  region-block i₀ j₀ ni nj rows cols a f g h l m ys ea hi hr hj al em ey inside outside =
      block-then d ld i₀ j₀ a F G H l m ys pos (omega arith) ea al em ey
      (λ i j w x. boxed-row-out ni nj g i j x (omega arith))
      (λ i j il b x.
      blocked i₀ j₀ ni nj g i j (F i j x) (H i j x)
      (λ r c er ec hr hc.
      ap (g r c) (boxed-in rows cols f i j x (omega arith) (omega arith))
      ∙ subst (λ (k : ℕ). g r c (f k j x) ≡ h k j x) (sym er) (subst (λ (k : ℕ). g r c (f (i₀ + r) k x) ≡ h (i₀ + r) k x) (sym ec) (inside r c hr hc x))
      ∙ sym (boxed-in rows cols h i j x (omega arith) (omega arith)))
      (λ out.
      boxed rows cols f i j x (H i j x)
      (λ r c. outside i j r c out x ∙ sym (boxed-in rows cols h i j x r c))
      (λ r. sym (boxed-row-out rows cols h i j x r))
      (λ c. sym (boxed-column-out rows cols h i j x c))))
    where
      F : EntryMap A
      F = only (box rows cols) f

      G : EntryMap A
      G = only (box ni nj) g

      H : EntryMap A
      H = only (box rows cols) h

  -- the next column: those before it are done
  pub region-column : (rows j : ℕ) (f : EntryMap A) (l m ys : List A) → rows ≤ ld → j * ld ≤ length l
      → m ≡ update (region ld rows j f) l
      → ys ≡ update (below rows (λ i x. f i j x)) (take (length m - j * ld) (drop (j * ld) m))
      → put_mid (j * ld) (length m - j * ld) m ys ≡ update (region ld rows (j + 1) f) l
  unfolding region
  region-column rows j f l m ys rl jl em ey =
      block-then d ld 0 j (j * ld) F G H l m ys pos (omega arith) (omega arith) jl em
      (ey ∙ one-column rows (λ i x. f i j x) (take (length m - j * ld) (drop (j * ld) m)) rl)
      (λ i c w x. boxed-row-out rows 1 (λ i _ x. f i j x) i c x (omega arith))
      (λ i c il b x.
      blocked 0 j rows 1 (λ i _ x. f i j x) i c (F i c x) (H i c x)
      (λ r q er ec hr hq.
      let e : i ≡ r = omega arith in
      let k : c ≡ j = omega arith in
      ap (λ (y : A). f r j y) (boxed-column-out rows j f i c x (omega arith))
      ∙ sym (boxed-in rows (j + 1) f i c x (omega arith) (omega arith) ∙ ap (λ (n : ℕ). f n c x) e ∙ ap (λ (n : ℕ). f r n x) k))
      (λ out.
      boxed rows j f i c x (H i c x)
      (λ r q. sym (boxed-in rows (j + 1) f i c x r (omega arith)))
      (λ r. sym (boxed-row-out rows (j + 1) f i c x r))
      (λ q. ⊎_elim
      (λ (r : i < rows). sym (boxed-column-out rows (j + 1) f i c x (⊎_elim (λ (u : c < j + 1). absurd (out (omega arith) (omega arith) q (omega arith))) (λ u. u) (lt-or-ge c (j + 1)))))
      (λ r. sym (boxed-row-out rows (j + 1) f i c x r))
      (lt-or-ge i rows))))
    where
      F : EntryMap A
      F = only (box rows j) f

      G : EntryMap A
      G = only (box rows 1) (λ i _ x. f i j x)

      H : EntryMap A
      H = only (box rows (j + 1)) f

  -- a turn of a loop that goes down two columns at a time: l is the array as the loop began, m as it is now
  pub two-more : (i : ℕ) (f : EntryMap A) (l m : List A) → i < ld → ld + i < length l → m ≡ update (region ld i 2 f) l
      → set (set m i (f i 0 (get_or m i d))) (ld + i) (f i 1 (get_or m (ld + i) d)) ≡ update (region ld (i + 1) 2 f) l
  unfolding region entries
  two-more i f l m il b e =
      is-update d (region ld (i + 1) 2 f) l (set (set m i v) (ld + i) w) (length-set (set m i v) (ld + i) w ∙ length-set m i v ∙ ml)
      (λ p h.
      ⊎_elim
      (λ (z : i ≡ p). subst (λ (k : ℕ). get_or (set (set m i v) (ld + i) w) k d ≡ region ld (i + 1) 2 f k (get_or l k d)) z first)
      (λ z. ⊎_elim
      (λ (y : ld + i ≡ p). subst (λ (k : ℕ). get_or (set (set m i v) (ld + i) w) k d ≡ region ld (i + 1) 2 f k (get_or l k d)) y second)
      (λ y. other p h z y)
      (same_or_not (ld + i) p))
      (same_or_not i p))
    where
      v : A
      v = f i 0 (get_or m i d)

      w : A
      w = f i 1 (get_or m (ld + i) d)

      ml : length m ≡ length l
      ml = ap length e ∙ length-update (region ld i 2 f) l

      old : (p : ℕ) → p < length l → get_or m p d ≡ region ld i 2 f p (get_or l p d)
      old p h = ap (λ (k : List A). get_or k p d) e ∙ at-update (region ld i 2 f) l p d h

      -- row i, in column j, was not done before and is done now
      before : (j p : ℕ) → p ≡ j * ld + i → p < length l → get_or m p d ≡ get_or l p d
      before j p ep h =
          old p h ∙ entry ld (only (box i 2) f) i j p (get_or l p d) il ep ∙ boxed-row-out i 2 f i j (get_or l p d) (omega arith)

      now-done : (j p : ℕ) → p ≡ j * ld + i → j < 2 → (x : A) → region ld (i + 1) 2 f p x ≡ f i j x
      now-done j p ep h x = entry ld (only (box (i + 1) 2) f) i j p x il ep ∙ boxed-in (i + 1) 2 f i j x (omega arith) h

      first : get_or (set (set m i v) (ld + i) w) i d ≡ region ld (i + 1) 2 f i (get_or l i d)
      first =
          get_or-set_other (set m i v) (ld + i) i w d (λ z. omega arith)
          ∙ get_or-set_same m i v d (omega (arith, ml))
          ∙ ap (f i 0) (before 0 i (omega arith) (omega arith))
          ∙ sym (now-done 0 i (omega arith) (omega arith) (get_or l i d))

      second : get_or (set (set m i v) (ld + i) w) (ld + i) d ≡ region ld (i + 1) 2 f (ld + i) (get_or l (ld + i) d)
      second =
          get_or-set_same (set m i v) (ld + i) w d (omega (arith, ml, length-set m i v))
          ∙ ap (f i 1) (before 1 (ld + i) (omega arith) b)
          ∙ sym (now-done 1 (ld + i) (omega arith) (omega arith) (get_or l (ld + i) d))

      other : (p : ℕ) → p < length l → (i ≡ p → ⊥) → (ld + i ≡ p → ⊥) → get_or (set (set m i v) (ld + i) w) p d ≡ region ld (i + 1) 2 f p (get_or l p d)
      other p h n1 n2 =
          let r : ℕ = p % ld in
          let c : ℕ = p / ld in
          let ep : p ≡ c * ld + r = sym (div-add-mod' p ld) in
          get_or-set_other (set m i v) (ld + i) p w d (λ z. n2 (sym z)) ∙ get_or-set_other m i p v d (λ z. n1 (sym z)) ∙ old p h
          ∙ boxed i 2 f r c (get_or l p d) (region ld (i + 1) 2 f p (get_or l p d))
          (λ hr hc. sym (boxed-in (i + 1) 2 f r c (get_or l p d) (omega arith) hc))
          (λ hr. ⊎_elim
          (λ (hc : c < 2). sym (boxed-row-out (i + 1) 2 f r c (get_or l p d) (later r c p ep hr hc n1 n2)))
          (λ hc. sym (boxed-column-out (i + 1) 2 f r c (get_or l p d) hc))
          (lt-or-ge c 2))
          (λ hc. sym (boxed-column-out (i + 1) 2 f r c (get_or l p d) hc))
        where
          later : (r c p : ℕ) → p ≡ c * ld + r → i ≤ r → c < 2 → (i ≡ p → ⊥) → (ld + i ≡ p → ⊥) → i + 1 ≤ r
          later r zero p ep hr hc n1 n2 = ⊎_elim (λ (k : i < r). omega arith) (λ k. absurd (n1 (omega arith))) (lt-or-ge i r)
          later r (suc zero) p ep hr hc n1 n2 = ⊎_elim (λ (k : i < r). omega arith) (λ k. absurd (n2 (omega arith))) (lt-or-ge i r)
          later r (suc (suc c)) p ep hr hc n1 n2 = omega arith

  -- the next n columns: those before them are done
  pub region-columns : (rows j n : ℕ) (f : EntryMap A) (l m ys : List A) → rows ≤ ld → j * ld ≤ length l
      → m ≡ update (region ld rows j f) l
      → ys ≡ update (region ld rows n (λ i c x. f i (j + c) x)) (take (length m - j * ld) (drop (j * ld) m))
      → put_mid (j * ld) (length m - j * ld) m ys ≡ update (region ld rows (j + n) f) l
  unfolding region
  region-columns rows j n f l m ys rl jl em ey =
      block-then d ld 0 j (j * ld) F (only (box rows n) (λ i c x. f i (j + c) x)) H l m ys pos (omega arith) (omega arith) jl em ey
      (λ i c w x. boxed-row-out rows n (λ i c x. f i (j + c) x) i c x (omega arith))
      (λ i c il b x.
      blocked 0 j rows n (λ i c x. f i (j + c) x) i c (F i c x) (H i c x)
      (λ r q er ec hr hq.
      let e : i ≡ r = omega arith in
      ap (λ (y : A). f r (j + q) y) (boxed-column-out rows j f i c x (omega arith))
      ∙ sym (boxed-in rows (j + n) f i c x (omega arith) (omega arith) ∙ ap (λ (k : ℕ). f k c x) e ∙ ap (λ (k : ℕ). f r k x) ec))
      (λ out.
      boxed rows j f i c x (H i c x)
      (λ r q. sym (boxed-in rows (j + n) f i c x r (omega arith)))
      (λ r. sym (boxed-row-out rows (j + n) f i c x r))
      (λ q. ⊎_elim
      (λ (r : i < rows).
      sym (boxed-column-out rows (j + n) f i c x (⊎_elim (λ (u : c < j + n). absurd (out (omega arith) (omega arith) q (omega arith))) (λ u. u) (lt-or-ge c (j + n)))))
      (λ r. sym (boxed-row-out rows (j + n) f i c x r))
      (lt-or-ge i rows))))
    where
      F : EntryMap A
      F = only (box rows j) f

      H : EntryMap A
      H = only (box rows (j + n)) f

  -- a turn of a loop along the first row: l is the array as the loop began, m as it is now
  pub row_more : (j : ℕ) (f : EntryMap A) (l m : List A) (v : A) → j * ld < length l → m ≡ update (region ld 1 j f) l → ((x : A) → f 0 j x ≡ v)
      → set m (j * ld) v ≡ update (region ld 1 (j + 1) f) l
  unfolding region entries
  row_more j f l m v b e h =
      is-update d (region ld 1 (j + 1) f) l (set m (j * ld) v) (length-set m (j * ld) v ∙ ml)
      (λ p k.
      ⊎_elim
      (λ (z : j * ld ≡ p). subst (λ (n : ℕ). get_or (set m (j * ld) v) n d ≡ region ld 1 (j + 1) f n (get_or l n d)) z here)
      (λ z. other p k z)
      (same_or_not (j * ld) p))
    where
      ml : length m ≡ length l
      ml = ap length e ∙ length-update (region ld 1 j f) l

      here : get_or (set m (j * ld) v) (j * ld) d ≡ region ld 1 (j + 1) f (j * ld) (get_or l (j * ld) d)
      here =
          get_or-set_same m (j * ld) v d (omega (arith, ml)) ∙ sym (h (get_or l (j * ld) d))
          ∙ sym (entry ld (only (box 1 (j + 1)) f) 0 j (j * ld) (get_or l (j * ld) d) pos (omega arith)
          ∙ boxed-in 1 (j + 1) f 0 j (get_or l (j * ld) d) (omega arith) (omega arith))

      other : (p : ℕ) → p < length l → (j * ld ≡ p → ⊥) → get_or (set m (j * ld) v) p d ≡ region ld 1 (j + 1) f p (get_or l p d)
      other p k z =
          let r : ℕ = p % ld in
          let c : ℕ = p / ld in
          let ep : p ≡ c * ld + r = sym (div-add-mod' p ld) in
          get_or-set_other m (j * ld) p v d (λ y. z (sym y)) ∙ ap (λ (n : List A). get_or n p d) e ∙ at-update (region ld 1 j f) l p d k
          ∙ boxed 1 j f r c (get_or l p d) (region ld 1 (j + 1) f p (get_or l p d))
          (λ hr hc. sym (boxed-in 1 (j + 1) f r c (get_or l p d) hr (omega arith)))
          (λ hr. sym (boxed-row-out 1 (j + 1) f r c (get_or l p d) hr))
          (λ hc. ⊎_elim
          (λ (hr : r < 1). sym (boxed-column-out 1 (j + 1) f r c (get_or l p d) (later r c p ep hr hc z)))
          (λ hr. sym (boxed-row-out 1 (j + 1) f r c (get_or l p d) hr))
          (lt-or-ge r 1))
        where
          later : (r c p : ℕ) → p ≡ c * ld + r → r < 1 → j ≤ c → (j * ld ≡ p → ⊥) → j + 1 ≤ c
          later r c p ep hr hc z =
              ⊎_elim
              (λ (k : j < c). omega arith)
              (λ k. let q : j ≡ c = omega arith in let y : j * ld ≡ c * ld = ap (λ (n : ℕ). n * ld) q in absurd (z (omega arith)))
              (lt-or-ge j c)

  -- n rows, from row i₀ on, of column j more: the masks are those before and after
  pub mask-column : (i₀ j n a : ℕ) (before after : Mask) (f : EntryMap A) (l m ys : List A) → i₀ + n ≤ ld → a ≡ j * ld + i₀ → a ≤ length l
      → m ≡ update (entries ld (only before f)) l
      → ys ≡ update (below n (λ i x. f (i₀ + i) j x)) (take (length m - a) (drop a m))
      → ((i : ℕ) → i < n → before (i₀ + i) j ≡ false)
      → ((i : ℕ) → i < n → after (i₀ + i) j ≡ true)
      → ((i c : ℕ) → (i₀ ≤ i → i < i₀ + n → c ≡ j → ⊥) → before i c ≡ after i c)
      → put_mid a (length m - a) m ys ≡ update (entries ld (only after f)) l
  unfolding region
  mask-column i₀ j n a before after f l m ys hn ea al em ey old new rest =
      block-then d ld i₀ j a (only before f) (only (box n 1) g) (only after f) l m ys pos (omega arith) ea al em
      (ey ∙ one-column n (λ i x. f (i₀ + i) j x) (take (length m - a) (drop a m)) (omega arith))
      (λ i c w x. boxed-row-out n 1 g i c x (omega arith))
      (λ i c il b x.
      blocked i₀ j n 1 g i c (only before f i c x) (only after f i c x)
      (λ r q er ec hr hq.
      let k : c ≡ j = omega arith in
      ap (f (i₀ + r) j) (only_out before f i c x (ap₂ before er k ∙ old r hr))
      ∙ sym (only-in after f i c x (ap₂ after er k ∙ new r hr) ∙ ap₂ (λ (s t : ℕ). f s t x) er k))
      (λ out. only-mask before after f i c x (rest i c (λ u v w. out u v (omega arith) (omega arith)))))
    where
      g : EntryMap A
      g i c x = f (i₀ + i) j x

  -- the next n rows: those before them are done
  pub region-rows : (i n cols : ℕ) (f : EntryMap A) (l m ys : List A) → i + n ≤ ld → i ≤ length l
      → m ≡ update (region ld i cols f) l
      → ys ≡ update (region ld n cols (λ r j x. f (i + r) j x)) (take (length m - i) (drop i m))
      → put_mid i (length m - i) m ys ≡ update (region ld (i + n) cols f) l
  unfolding region
  region-rows i n cols f l m ys nl il em ey =
      block-then d ld i 0 i F G H l m ys pos (omega arith) (omega arith) il em ey
      (λ r c w x. boxed-row-out n cols (λ r j x. f (i + r) j x) r c x (omega arith))
      (λ r c rl b x.
      blocked i 0 n cols (λ r j x. f (i + r) j x) r c (F r c x) (H r c x)
      (λ r' c' er ec hr hc.
      let k : c ≡ c' = omega arith in
      ap (λ (y : A). f (i + r') c' y) (boxed-row-out i cols f r c x (omega arith))
      ∙ sym (boxed-in (i + n) cols f r c x (omega arith) (omega arith) ∙ ap (λ (q : ℕ). f q c x) er ∙ ap (λ (q : ℕ). f (i + r') q x) k))
      (λ out.
      boxed i cols f r c x (H r c x)
      (λ hr hc. sym (boxed-in (i + n) cols f r c x (omega arith) hc))
      (λ hr. ⊎_elim
      (λ (hc : c < cols). sym (boxed-row-out (i + n) cols f r c x (⊎_elim (λ (u : r < i + n). absurd (out hr u (omega arith) (omega arith))) (λ u. u) (lt-or-ge r (i + n)))))
      (λ hc. sym (boxed-column-out (i + n) cols f r c x hc))
      (lt-or-ge c cols))
      (λ hc. sym (boxed-column-out (i + n) cols f r c x hc))))
    where
      F : EntryMap A
      F = only (box i cols) f

      G : EntryMap A
      G = only (box n cols) (λ r j x. f (i + r) j x)

      H : EntryMap A
      H = only (box (i + n) cols) f
