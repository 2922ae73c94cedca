-- The part of a triangle that lies in some of its columns: it grows by columns, and its columns are a diagonal block and a rectangle.
-- Assumes nothing.
use mathlib.Core.Bool.{Bool, true, false, not, ◌&&◌, and-false, and_comm, true≢false}
use mathlib.Core.Path.{◌≡◌, refl, sym, ap, ◌∙◌}
use mathlib.Core.Logic.{⊎_elim, ◌⊎◌, inl, inr}
use mathlib.Core.List.{List}
use Prim.Native.Nat.{ℕ, ◌+◌, ◌-◌, ◌*◌, ◌<◌, ◌≤◌}
use native.Mathlib.Nat.{zero-add}
use native.Mathlib.Omega.{arith}
use lib.Dec.{leb, ltb}
use lib.ListN.{length, take, drop}
use borrow.Rule.Slice.PartMut.{put_mid}
use borrow.Author.Tests.{ltb-true, leb-true, lt-ltb, le-ltb, le-leb, lt-leb}
use Rattle.std.specs.Prelude.{if◌then◌else◌}
use Rattle.arrays.specs.Update.{EntryMap, update, below, entries, only, box, region, trapezoid, corner}
use Rattle.arrays.proofs.Tests.{and_left, and_right}
use Rattle.arrays.proofs.UpdateLaws.{lt-or-ge, same_or_not, below-same}
use Rattle.arrays.proofs.EntryLaws.{box_in, box-row-out, box-column-out}
use Rattle.arrays.proofs.RegionLaws.{mask-column}
use Rattle.arrays.proofs.MaskLaws.{moved, is-moved, moved_in, moved_out, joined, apart, lent-mask, nothing-done, mask-alone}

-- ---- its entries

pub record Within (lower : Bool) (from rows cols i j : ℕ) : Type 0 where
  pub row : i < rows
  pub column : j < cols
  pub low : lower ≡ true → from + j ≤ i
  pub up : lower ≡ false → i ≤ from + j

pub is-box : (rows cols i j : ℕ) → box rows cols i j ≡ true → (i < rows) × (j < cols)
unfolding box
is-box rows cols i j h = (ltb-true _ _ (and_left (ltb i rows) _ h), ltb-true _ _ (and_right (ltb i rows) _ h))

module _ (from rows cols i j : ℕ) where
  pub within : (lower : Bool) → trapezoid lower from rows cols i j ≡ true → Within lower from rows cols i j
  unfolding trapezoid
  within true h =
      let b = is-box rows cols i j (and_left (box rows cols i j) _ h) in
      record { row = b.0; column = b.1; low = λ e. leb-true _ _ (and_right (box rows cols i j) _ h); up = λ e. absurd (true≢false e) }
  within false h =
      let b = is-box rows cols i j (and_left (box rows cols i j) _ h) in
      record { row = b.0; column = b.1; low = λ e. absurd (true≢false (sym e)); up = λ e. leb-true _ _ (and_right (box rows cols i j) _ h) }

  pub inside : (lower : Bool) → Within lower from rows cols i j → trapezoid lower from rows cols i j ≡ true
  unfolding trapezoid
  inside true w = rw (box_in rows cols i j w.row w.column) (le-leb (from + j) i (w.low refl))
  inside false w = rw (box_in rows cols i j w.row w.column) (le-leb i (from + j) (w.up refl))

  pub row_out : (lower : Bool) → rows ≤ i → trapezoid lower from rows cols i j ≡ false
  unfolding trapezoid
  row_out lower h = rw (box-row-out rows cols i j h)

  pub column-out : (lower : Bool) → cols ≤ j → trapezoid lower from rows cols i j ≡ false
  unfolding trapezoid
  column-out lower h = rw (box-column-out rows cols i j h)

-- rows and columns change places, and the triangles too
pub box-across : (rows cols i j : ℕ) → box rows cols i j ≡ box cols rows j i
unfolding box
box-across rows cols i j = and_comm (ltb i rows) (ltb j cols)

pub corner-across : (lower : Bool) (rows cols i j : ℕ) → corner lower rows cols i j ≡ corner (not lower) cols rows j i
unfolding trapezoid
corner-across true rows cols i j = rw (zero-add i, zero-add j) (ap (λ (b : Bool). b && leb j i) (box-across rows cols i j))
corner-across false rows cols i j = rw (zero-add i, zero-add j) (ap (λ (b : Bool). b && leb i j) (box-across rows cols i j))

-- no columns at all
pub none_yet : {A : Type 0} (lower : Bool) (from n ld : ℕ) (f : EntryMap A) (l : List A) → l ≡ update (entries ld (only (trapezoid lower from n 0) f)) l
none_yet lower from n ld f l = nothing-done ld (trapezoid lower from n 0) f l (λ i j. column-out from n 0 i j lower (omega arith))

-- ---- columns more

module _ (lower : Bool) (from n j g h : ℕ) (eg : g ≡ from + j) (i c : ℕ) where
  pub columns-apart : trapezoid lower from n j i c ≡ true → moved 0 j (trapezoid lower g n h) i c ≡ false
  columns-apart = apart _ _ (λ u v. omega (arith, (within from n j i c lower u).column, (is-moved 0 j _ i c v).column))

  pub columns-join : trapezoid lower from n (j + h) i c ≡ (if trapezoid lower from n j i c then true else moved 0 j (trapezoid lower g n h) i c)
  columns-join =
      joined _ _ _
      (λ u.
      let p = within from n j i c lower u in
      inside from n (j + h) i c lower (record { row = p.row; column = omega (arith, p.column); low = p.low; up = p.up }))
      (λ v.
      let q = is-moved 0 j _ i c v in
      let p = within g n h (i - 0) (c - j) lower q.inside in
      inside from n (j + h) i c lower
      (record {
        row = omega (arith, p.row);
        column = omega (arith, p.column, q.column);
        low = λ e. omega (arith, p.low e, q.column);
        up = λ e. omega (arith, p.up e, q.column);
      }))
      (λ w.
      let p = within from n (j + h) i c lower w in
      ⊎_elim
      (λ (b : c < j). inl (inside from n j i c lower (record { row = p.row; column = b; low = p.low; up = p.up })))
      (λ (b : j ≤ c).
      inr (moved_in 0 j _ i c (omega arith) b
      (inside g n h (i - 0) (c - j) lower
      (record {
        row = omega (arith, p.row);
        column = omega (arith, p.column);
        low = λ e. omega (arith, p.low e);
        up = λ e. omega (arith, p.up e);
      }))))
      (lt-or-ge c j))

-- h columns more, of which the first is column g of the matrix
pub columns-more : {A : Type 0} (d : A) (lower : Bool) (F G : EntryMap A) (ld from n j g h a : ℕ) (l m ys : List A) → g ≡ from + j → 0 < ld → n ≤ ld → a ≡ j * ld → a ≤ length l
    → m ≡ update (entries ld (only (trapezoid lower from n j) F)) l
    → ys ≡ update (entries ld (only (trapezoid lower g n h) G)) (take (length m - a) (drop a m))
    → ((i c : ℕ) (x : A) → G i c x ≡ F i (j + c) x)
    → put_mid a (length m - a) m ys ≡ update (entries ld (only (trapezoid lower from n (j + h)) F)) l
columns-more d lower F G ld from n j g h a l m ys eg pos fit ea al em ey same =
    lent-mask d ld pos 0 j a (trapezoid lower from n j) (trapezoid lower g n h) (trapezoid lower from n (j + h)) F G l m ys
    (omega arith) (omega arith) al em ey
    (λ i c h x. same i c x ∙ ap (λ (p : ℕ). F p (j + c) x) (sym (zero-add i)))
    (λ i c w. row_out g n h i c lower (omega arith))
    (columns-apart lower from n j g h eg)
    (columns-join lower from n j g h eg)

-- ---- one column more, column g of the matrix

-- Its rows in the triangle are `rows` ones, from `top` on.
abbrev pub Inside : Bool → ℕ → ℕ → ℕ → ℕ → Type 0
Inside lower n g top rows = (top ≡ (if lower then g else 0)) × (rows ≡ (if lower then n - g else g + 1))

pub rows-room : (lower : Bool) (n g top rows : ℕ) → Inside lower n g top rows → g < n → top + rows ≤ n
rows-room true n g top rows e h = omega arith
rows-room false n g top rows e h = omega arith

pub rows-some : (lower : Bool) (n g top rows : ℕ) → Inside lower n g top rows → g < n → 0 < rows
rows-some true n g top rows e h = omega arith
rows-some false n g top rows e h = omega arith

module _ (from n j g top rows : ℕ) (eg : g ≡ from + j) (within-n : g < n) where
  rows_in : (lower : Bool) → Inside lower n g top rows → (i : ℕ) → i < rows → trapezoid lower from n (j + 1) (top + i) j ≡ true
  unfolding trapezoid
  rows_in true e i b = rw (box_in n (j + 1) (top + i) j (omega arith) (omega arith), le-leb (from + j) (top + i) (omega arith))
  rows_in false e i b = rw (box_in n (j + 1) (top + i) j (omega arith) (omega arith), le-leb (top + i) (from + j) (omega arith))

  rows_out : (lower : Bool) → Inside lower n g top rows → (i : ℕ) → (top ≤ i → i < top + rows → ⊥) → trapezoid lower from n (j + 1) i j ≡ false
  unfolding trapezoid
  rows_out true e i out =
      ⊎_elim
      (λ (b : i < g). rw (lt-leb (from + j) i (omega arith), and-false))
      (λ b. row_out from n (j + 1) i j true (⊎_elim (λ (z : i < n). absurd (out (omega arith) (omega arith))) (λ z. z) (lt-or-ge i n)))
      (lt-or-ge i g)
  rows_out false e i out =
      ⊎_elim
      (λ (b : i < g + 1). absurd (out (omega arith) (omega arith)))
      (λ b. rw (lt-leb i (from + j) (omega arith), and-false))
      (lt-or-ge i (g + 1))

  -- it does not change the mask elsewhere
  same-elsewhere : (lower : Bool) (i c : ℕ) → (c ≡ j → ⊥) → trapezoid lower from n j i c ≡ trapezoid lower from n (j + 1) i c
  unfolding trapezoid box
  same-elsewhere lower i c h =
      ⊎_elim
      (λ (b : c < j). rw (lt-ltb c j b, lt-ltb c (j + 1) (omega arith)))
      (λ b. let k : j + 1 ≤ c = ⊎_elim (λ (z : j < c). omega arith) (λ z. absurd (h (omega arith))) (lt-or-ge j c) in rw (le-ltb c j b, le-ltb c (j + 1) k))
      (lt-or-ge c j)

  pub column-more : {A : Type 0} (d : A) (lower : Bool) (F : EntryMap A) (f : ℕ → A → A) (ld a : ℕ) (l m ys : List A) → Inside lower n g top rows → 0 < ld → n ≤ ld
      → a ≡ j * ld + top → a ≤ length l
      → m ≡ update (entries ld (only (trapezoid lower from n j) F)) l
      → ys ≡ update (below rows f) (take (length m - a) (drop a m))
      → ((i : ℕ) (x : A) → f i x ≡ F (top + i) j x)
      → put_mid a (length m - a) m ys ≡ update (entries ld (only (trapezoid lower from n (j + 1)) F)) l
  column-more d lower F f ld a l m ys e pos fit ea al em ey same =
      mask-column d ld pos top j rows a (trapezoid lower from n j) (trapezoid lower from n (j + 1)) F l m ys
      (omega (arith, rows-room lower n g top rows e within-n)) ea al em
      (ey ∙ below-same _ _ (take (length m - a) (drop a m)) rows (λ i b x. same i x))
      (λ i b. column-out from n j (top + i) j lower (omega arith))
      (λ i b. rows_in lower e i b)
      (λ i c out. ⊎_elim
      (λ (h : c ≡ j). column-out from n j i c lower (omega arith) ∙ sym (ap (trapezoid lower from n (j + 1) i) h ∙ rows_out lower e i (λ v w. out v w h)))
      (λ h. same-elsewhere lower i c h)
      (same_or_not c j))

-- ---- some columns: the diagonal block, and the rectangle below or above it

module _ (n g h top rows : ℕ) (within-n : g + h ≤ n) where
  pub rest-fits : (lower : Bool) → top ≡ (if lower then g + h else 0) → rows ≡ (if lower then n - (g + h) else g) → top + rows ≤ n
  rest-fits true et er = omega arith
  rest-fits false et er = omega arith

  pub rest-apart : (lower : Bool) → top ≡ (if lower then g + h else 0) → rows ≡ (if lower then n - (g + h) else g) → (i c : ℕ)
      → moved g 0 (corner lower h h) i c ≡ true → moved top 0 (box rows h) i c ≡ false
  rest-apart lower et er i c =
      apart _ _
      (λ u v.
      let p = is-moved g 0 (corner lower h h) i c u in
      let w = within 0 h h (i - g) (c - 0) lower p.inside in
      let q = is-moved top 0 (box rows h) i c v in
      let b = is-box rows h (i - top) (c - 0) q.inside in
      go lower et er i p.row w.row q.row b.0)
    where
      go : (lower : Bool) → top ≡ (if lower then g + h else 0) → rows ≡ (if lower then n - (g + h) else g) → (i : ℕ)
          → g ≤ i → i - g < h → top ≤ i → i - top < rows → ⊥
      go true et er i hg hh ht hr = omega arith
      go false et er i hg hh ht hr = omega arith

  pub rest-join : (lower : Bool) → top ≡ (if lower then g + h else 0) → rows ≡ (if lower then n - (g + h) else g) → (i c : ℕ)
      → trapezoid lower g n h i c ≡ (if moved g 0 (corner lower h h) i c then true else moved top 0 (box rows h) i c)
  rest-join lower et er i c =
      joined _ _ _
      (λ u.
      let q = is-moved g 0 (corner lower h h) i c u in
      let p = within 0 h h (i - g) (c - 0) lower q.inside in
      inside g n h i c lower
      (record {
        row = omega (arith, p.row, q.row);
        column = omega (arith, p.column);
        low = λ e. omega (arith, p.low e, q.row);
        up = λ e. omega (arith, p.up e, q.row);
      }))
      (λ v.
      let q = is-moved top 0 (box rows h) i c v in
      let b = is-box rows h (i - top) (c - 0) q.inside in
      inside g n h i c lower (rest lower et er i c q.row b.0 (omega (arith, b.1))))
      (λ w.
      let p = within g n h i c lower w in
      ⊎_elim
      (λ u. inl (moved_in g 0 (corner lower h h) i c u.0 (omega arith)
      (inside 0 h h (i - g) (c - 0) lower
      (record {
        row = omega (arith, u.0, u.1);
        column = omega (arith, p.column);
        low = λ e. omega (arith, p.low e);
        up = λ e. omega (arith, p.up e, u.0);
      }))))
      (λ v. inr (moved_in top 0 (box rows h) i c v.0 (omega arith) (box_in rows h (i - top) (c - 0) v.1 (omega (arith, p.column)))))
      (either lower et er i c p))
    where
      rest : (lower : Bool) → top ≡ (if lower then g + h else 0) → rows ≡ (if lower then n - (g + h) else g) → (i c : ℕ)
          → top ≤ i → i - top < rows → c < h → Within lower g n h i c
      rest true et er i c ht hr hc = record { row = omega arith; column = hc; low = λ e. omega arith; up = λ e. absurd (true≢false e) }
      rest false et er i c ht hr hc = record { row = omega arith; column = hc; low = λ e. absurd (true≢false (sym e)); up = λ e. omega arith }

      either : (lower : Bool) → top ≡ (if lower then g + h else 0) → rows ≡ (if lower then n - (g + h) else g) → (i c : ℕ)
          → Within lower g n h i c → ((g ≤ i) × (i < g + h)) ⊎ ((top ≤ i) × (i - top < rows))
      either true et er i c p =
          ⊎_elim (λ (b : i < g + h). inl (omega (arith, p.low refl), b)) (λ (b : g + h ≤ i). inr (omega arith, omega (arith, p.row))) (lt-or-ge i (g + h))
      either false et er i c p =
          ⊎_elim (λ (b : i < g). inr (omega arith, omega arith)) (λ (b : g ≤ i). inl (b, omega (arith, p.up refl, p.column))) (lt-or-ge i g)

  module _ {A : Type 0} (d : A) (lower : Bool) (F D : EntryMap A) (ld : ℕ) (l q : List A) (et : top ≡ (if lower then g + h else 0))
      (er : rows ≡ (if lower then n - (g + h) else g)) (pos : 0 < ld) (fit : n ≤ ld) (room : n ≤ length l)
      (eq : q ≡ update (entries ld (only (corner lower h h) D)) (take (length l - g) (drop g l)))
      (same : (i j : ℕ) (x : A) → D i j x ≡ F (g + i) j x) where
    diagonal : put_mid g (length l - g) l q ≡ update (entries ld (only (moved g 0 (corner lower h h)) F)) l
    diagonal =
        lent-mask d ld pos g 0 g (λ i j. false) (corner lower h h) (moved g 0 (corner lower h h)) _ _ l l q
        (omega arith) (omega arith) (omega arith) (nothing-done ld (λ i j. false) _ l (λ i j. refl)) eq
        (λ i j h x. same i j x ∙ ap (λ (c : ℕ). F (g + i) c x) (sym (zero-add j)))
        (λ i j w. row_out 0 h h i j lower (omega arith))
        (λ i j e. absurd (true≢false (sym e)))
        (λ i j. refl)

    -- there are no rows beside the diagonal block
    pub diagonal-alone : rows ≡ 0
        → put_mid g (length l - g) l q ≡ update (entries ld (only (trapezoid lower g n h) F)) l
    diagonal-alone z =
        diagonal
        ∙ mask-alone ld pos F l (moved g 0 (corner lower h h)) (moved top 0 (box rows h)) (trapezoid lower g n h)
        (rest-join lower et er) (λ i j. moved_out top 0 (box rows h) i j (box-row-out rows h _ _ (omega arith)))

    pub diagonal-and-rest : (G : EntryMap A) (m ys : List A) → m ≡ put_mid g (length l - g) l q
        → ys ≡ update (region ld rows h G) (take (length m - top) (drop top m))
        → ((i j : ℕ) (x : A) → G i j x ≡ F (top + i) j x)
        → put_mid top (length m - top) m ys ≡ update (entries ld (only (trapezoid lower g n h) F)) l
    unfolding region
    diagonal-and-rest G m ys em ey there =
        let f = rest-fits lower et er in
        lent-mask d ld pos top 0 top (moved g 0 (corner lower h h)) (box rows h) (trapezoid lower g n h) _ _ l m ys
        (omega arith) (omega arith) (omega arith) (em ∙ diagonal) ey
        (λ i j h x. there i j x ∙ ap (λ (c : ℕ). F (top + i) c x) (sym (zero-add j)))
        (λ i j w. box-row-out rows h i j (omega arith))
        (rest-apart lower et er)
        (rest-join lower et er)
