-- A strip as a routine makes it: the part of the output that starts at the strip's first column, or row, is lent and comes back.
-- Assumes nothing.
use Prim.Native.Nat.{ℕ, ◌+◌, ◌-◌, ◌*◌, ◌≤◌, ◌<◌}
use mathlib.Core.Path.{◌≡◌, refl, sym, ap, ap₂, ◌∙◌}
use mathlib.Core.Bool.{true, false, ◌&&◌, and-true, and-false}
use mathlib.Core.Logic.{⊎_elim}
use mathlib.Core.List.{List, ◌++◌}
use native.Mathlib.Nat.{zero-add}
use native.Mathlib.Omega.{arith}
use lib.Dec.{ltb}
use lib.ListN.{length, take, drop}
use lib.Ieee.{Float, nan}
use borrow.Author.Tests.{ltb-true, lt-ltb, le-ltb, le-leb, lt-leb}
use Rattle.arrays.specs.Update.{EntryMap, Mask, update, entries, only, box, region, shifted}
use Rattle.arrays.proofs.Tests.{and_left, and_right, by-test}
use Rattle.arrays.proofs.UpdateLaws.{lt-or-ge}
use Rattle.arrays.proofs.EntryLaws.{only-in, only_out, shifted_in, shifted-row-out, shifted-column-out}
use Rattle.arrays.proofs.PartLaws.{lent-block}
use Rattle.definitions.specs.Call.{ld_output, in_triangle, in_output, cuts_rows, cut, writes}
use Rattle.definitions.specs.Element.{value, array_b, strip}
use Rattle.definitions.specs.declared.Call.{Call}

module _ (c : Call) (a b : List Float) (from to : ℕ) where
  -- the part from entry (i₀, j₀) on; its map acts on the entries of a mask, which are those that the strip writes
  lent : (i₀ j₀ x : ℕ) (mask : Mask) (g : EntryMap Float) (l ys : List Float) → 0 < ld_output c → i₀ ≤ ld_output c → x ≡ j₀ * ld_output c + i₀ → x ≤ length l
      → ys ≡ update (entries (ld_output c) (only mask g)) (drop x l)
      → ((i j : ℕ) → ld_output c ≤ i₀ + i → mask i j ≡ false)
      → ((i j : ℕ) → i₀ + i < ld_output c → mask i j ≡ writes c from to (i₀ + i) (j₀ + j))
      → ((i j : ℕ) → i < i₀ → writes c from to i j ≡ false)
      → ((i j : ℕ) → j < j₀ → writes c from to i j ≡ false)
      → ((i j : ℕ) → mask i j ≡ true → (y : Float) → g i j y ≡ value c.routine c a (array_b c b l) (i₀ + i) (j₀ + j) y)
      → take x l ++ ys ≡ strip c a b from to l
  unfolding strip
  lent i₀ j₀ x mask g l ys pos il ex xl ey wide same above left-of values =
      lent-block nan (ld_output c) i₀ j₀ x (only mask g) (only (writes c from to) val) l ys pos il ex xl ey
      (λ i j w y. only_out mask g i j y (wide i j w))
      (λ i j hi _ y.
      ⊎_elim
      (λ q. shifted-row-out i₀ j₀ (only mask g) i j y q ∙ sym (only_out (writes c from to) val i j y (above i j q)))
      (λ q. ⊎_elim
      (λ r. shifted-column-out i₀ j₀ (only mask g) i j y r ∙ sym (only_out (writes c from to) val i j y (left-of i j r)))
      (λ r. inside i j (i - i₀) (j - j₀) y hi (omega arith) (omega arith))
      (lt-or-ge j j₀))
      (lt-or-ge i i₀))
    where
      val : EntryMap Float
      val = value c.routine c a (array_b c b l)

      inside : (i j r q : ℕ) (y : Float) → i < ld_output c → i ≡ i₀ + r → j ≡ j₀ + q → shifted i₀ j₀ (only mask g) i j y ≡ only (writes c from to) val i j y
      inside i j r q y hi er eq =
          ap₂ (λ (i j : ℕ). shifted i₀ j₀ (only mask g) i j y) er eq ∙ shifted_in i₀ j₀ (only mask g) r q y
          ∙ by-test (mask r q)
          (λ m. only-in mask g r q y m ∙ values r q m y ∙ sym (only-in (writes c from to) val (i₀ + r) (j₀ + q) y (sym (same r q (omega arith)) ∙ m)))
          (λ m. only_out mask g r q y m ∙ sym (only_out (writes c from to) val (i₀ + r) (j₀ + q) y (sym (same r q (omega arith)) ∙ m)))
          ∙ sym (ap₂ (λ (i j : ℕ). only (writes c from to) val i j y) er eq)

-- ---- strips that cut columns

module _ (c : Call) (a b : List Float) (from cols : ℕ) (cuts : cuts_rows c.routine c.side ≡ false) (within : from + cols ≤ c.n) where
  -- the entries of the part that a strip of columns writes
  abbrev pub columns_mask : Mask
  columns_mask i j = box c.m cols i j && in_triangle c.routine c.uplo i (from + j)

  column-cut : (i j : ℕ) → cut c i j ≡ j
  unfolding cut
  column-cut i j = rw cuts

  columns-written : (i j : ℕ) → columns_mask i j ≡ writes c from (from + cols) i (from + j)
  unfolding writes in_output box
  columns-written i j =
      rw (column-cut i (from + j))
      (⊎_elim
      (λ (h : j < cols).
      rw (lt-ltb j cols h, lt-ltb (from + j) c.n (omega arith), lt-ltb (from + j) (from + cols) (omega arith), le-leb from (from + j) (omega arith)) (sym (and-true _)))
      (λ h. rw (le-ltb j cols h, le-ltb (from + j) (from + cols) (omega arith), and-false, and-false, and-false) refl)
      (lt-or-ge j cols))

  not-from : (i j : ℕ) → j < from → writes c from (from + cols) i j ≡ false
  unfolding writes
  not-from i j h = rw (column-cut i j, lt-leb from j h, and-false)

  -- The part from the strip's first column on, and the columns before it, are the array after the strip.
  pub strip-of-columns : (x : ℕ) (g : EntryMap Float) (l ys : List Float) → 0 < ld_output c → c.m ≤ ld_output c → x ≡ from * ld_output c → x ≤ length l
      → ys ≡ update (entries (ld_output c) (only columns_mask g)) (drop x l)
      → ((i j : ℕ) → i < c.m → j < cols → (y : Float) → g i j y ≡ value c.routine c a (array_b c b l) i (from + j) y)
      → take x l ++ ys ≡ strip c a b from (from + cols) l
  unfolding box
  strip-of-columns x g l ys pos ml ex xl ey values =
      lent c a b from (from + cols) 0 from x columns_mask g l ys pos (omega arith) (omega arith) xl ey
      (λ i j w. rw (le-ltb i c.m (omega arith)))
      (λ i j hi. columns-written i j ∙ ap (λ (n : ℕ). writes c from (from + cols) n (from + j)) (sym (zero-add i)))
      (λ i j w. absurd (let f : ⊥ = omega arith in f))
      not-from
      (λ i j m y.
      let k = and_left (box c.m cols i j) _ m in
      values i j (ltb-true _ _ (and_left (ltb i c.m) _ k)) (ltb-true _ _ (and_right (ltb i c.m) _ k)) y
      ∙ ap (λ (n : ℕ). value c.routine c a (array_b c b l) n (from + j) y) (sym (zero-add i)))

  -- the same for a routine that writes all of the strip's rectangle
  pub strip-of-box : (x : ℕ) (g : EntryMap Float) (l ys : List Float) → ((i j : ℕ) → in_triangle c.routine c.uplo i j ≡ true)
      → 0 < ld_output c → c.m ≤ ld_output c → x ≡ from * ld_output c → x ≤ length l
      → ys ≡ update (region (ld_output c) c.m cols g) (drop x l)
      → ((i j : ℕ) → i < c.m → j < cols → (y : Float) → g i j y ≡ value c.routine c a (array_b c b l) i (from + j) y)
      → take x l ++ ys ≡ strip c a b from (from + cols) l
  unfolding region
  strip-of-box x g l ys all pos ml ex xl ey values =
      strip-of-columns x g l ys pos ml ex xl (ey ∙ ap (λ (k : Mask). update (entries (ld_output c) (only k g)) (drop x l)) (λ t i j. whole i j t)) values
    where
      whole : (i j : ℕ) → box c.m cols i j ≡ (box c.m cols i j && in_triangle c.routine c.uplo i (from + j))
      whole i j = rw (all i (from + j)) (sym (and-true _))

-- ---- strips that cut rows

module _ (c : Call) (a b : List Float) (from rows : ℕ) (cuts : cuts_rows c.routine c.side ≡ true) (all : (i j : ℕ) → in_triangle c.routine c.uplo i j ≡ true)
    (within : from + rows ≤ c.m) where
  row_cut : (i j : ℕ) → cut c i j ≡ i
  unfolding cut
  row_cut i j = rw cuts

  rows_written : (i j : ℕ) → box rows c.n i j ≡ writes c from (from + rows) (from + i) j
  unfolding writes in_output box
  rows_written i j =
      rw (row_cut (from + i) j, all (from + i) j)
      (⊎_elim
      (λ (h : i < rows).
      rw (lt-ltb i rows h, lt-ltb (from + i) c.m (omega arith), lt-ltb (from + i) (from + rows) (omega arith), le-leb from (from + i) (omega arith), and-true, and-true) refl)
      (λ h. rw (le-ltb i rows h, le-ltb (from + i) (from + rows) (omega arith), and-false, and-false) refl)
      (lt-or-ge i rows))

  not-above : (i j : ℕ) → i < from → writes c from (from + rows) i j ≡ false
  unfolding writes
  not-above i j h = rw (row_cut i j, lt-leb from i h, and-false)

  -- The part from the strip's first row on, and what stands before it, are the array after the strip.
  pub strip-of-rows : (g : EntryMap Float) (l ys : List Float) → 0 < ld_output c → c.m ≤ ld_output c → from ≤ length l
      → ys ≡ update (region (ld_output c) rows c.n g) (drop from l)
      → ((i j : ℕ) → i < rows → j < c.n → (y : Float) → g i j y ≡ value c.routine c a (array_b c b l) (from + i) j y)
      → take from l ++ ys ≡ strip c a b from (from + rows) l
  unfolding region box
  strip-of-rows g l ys pos ml xl ey values =
      lent c a b from (from + rows) from 0 from (box rows c.n) g l ys pos (omega arith) (omega arith) xl ey
      (λ i j w. rw (le-ltb i rows (omega arith)))
      (λ i j hi. rows_written i j ∙ ap (λ (n : ℕ). writes c from (from + rows) (from + i) n) (sym (zero-add j)))
      not-above
      (λ i j w. absurd (let f : ⊥ = omega arith in f))
      (λ i j m y.
      values i j (ltb-true _ _ (and_left (ltb i rows) _ m)) (ltb-true _ _ (and_right (ltb i rows) _ m)) y
      ∙ ap (λ (n : ℕ). value c.routine c a (array_b c b l) (from + i) n y) (sym (zero-add j)))
