-- The part of C from a strip's first column on, in whose part of the triangle products are added to their start, is the strip of SYRK or SYR2K.
-- Assumes nothing.
use Prim.Native.Nat.{ℕ, ◌+◌, ◌*◌, ◌≤◌, ◌<◌}
use mathlib.Core.Path.{◌≡◌, sym, ap, ap₂, ◌∙◌}
use mathlib.Core.Bool.{Bool, false, ◌&&◌}
use mathlib.Core.List.{List}
use native.Mathlib.Omega.{arith}
use lib.Ieee.{Float}
use Rattle.arrays.specs.Update.{EntryMap, Mask, update, entries, only, box, trapezoid}
use Rattle.arrays.proofs.Tests.{if-false}
use Rattle.definitions.specs.Number.{is_zero}
use Rattle.definitions.specs.Storage.{inside}
use Rattle.definitions.specs.Call.{in_place, ld_output, in_triangle, cuts_rows, start_only, stored_as}
use Rattle.definitions.specs.Element.{Product, accumulated, value, array_b, StripOf}
use Rattle.definitions.specs.declared.Routine.{Routine}
use Rattle.definitions.specs.declared.Transpose.{Transpose}
use Rattle.definitions.specs.declared.Transpose.TheVariants.{No, Yes}
use Rattle.definitions.specs.declared.Triangle.{Triangle}
use Rattle.definitions.specs.declared.Triangle.TheVariants.{Lower, Upper}
use Rattle.definitions.specs.declared.Call.{Call}
use Rattle.definitions.proofs.Fits.{Room, entry-inside}
use Rattle.definitions.proofs.Parts.{strip-of-columns}
use Rattle.packing.specs.declared.Form.{Form}
use Rattle.packing.specs.Factor.{index_of}
use Rattle.forms.specs.Forms.{op_form}
use Rattle.forms.proofs.Rooms.{op-inside, some-term}
use Rattle.rank_update.specs.Options.{is_lower, transposed_form}

-- an entry of the transpose of op(A), where op(A) is p by q
transposed-inside : (t : Transpose) (ld p q len : ℕ) → Room len ld (stored_as t p q) → (l j : ℕ) → l < q → j < p → index_of (transposed_form t) ld l j < len
unfolding stored_as index_of
transposed-inside No ld p q len h l j hl hj = entry-inside ld p q len h j l hj hl
transposed-inside Yes ld p q len h l j hl hj = entry-inside ld q p len h l j hl hj

-- op(A) and its transpose are read within the array of A, and so are those of B: p and q are their forms
pub record Reads (p q : Form) (ld n k len : ℕ) : Type 0 where
  pub left : (i l : ℕ) → i < n → l < k → index_of p ld i l < len
  pub right : (l j : ℕ) → l < k → j < n → index_of q ld l j < len

pub reads : (c : Call) (p q : Form) (ld len : ℕ) → p ≡ op_form c.transa → q ≡ transposed_form c.transa → is_zero c.alpha ≡ false
    → (start_only c ≡ false → Room len ld (stored_as c.transa c.n c.k)) → Reads p q ld c.n c.k len
reads c p q ld len ep eq z room = record {
  left = λ i l hi hl. rw ep (op-inside c.transa ld c.n c.k len (room (some-term c l z hl)) i l hi hl);
  right = λ l j hl hj. rw eq (transposed-inside c.transa ld c.n c.k len (room (some-term c l z hl)) l j hl hj);
}

triangle-is : (t : Triangle) (lower : Bool) (from n cols i j : ℕ) → lower ≡ is_lower t → trapezoid lower from n cols i j ≡ (box n cols i j && inside t i (from + j))
unfolding trapezoid inside
triangle-is Lower lower from n cols i j e = rw e
triangle-is Upper lower from n cols i j e = rw e

module _ (c : Call) (a b : List Float) (from cols : ℕ) (f : Routine) (e : c.routine ≡ f) (writes-c : in_place f ≡ false)
    (half : (i j : ℕ) → in_triangle f c.uplo i j ≡ inside c.uplo i j) (square : c.m ≡ c.n) where
  not-in-place : in_place c.routine ≡ false
  not-in-place = ap in_place e ∙ writes-c

  cuts-columns : cuts_rows c.routine c.side ≡ false
  unfolding cuts_rows
  cuts-columns = rw not-in-place

  ld-is : ld_output c ≡ c.ldc
  unfolding ld_output
  ld-is = if-false (in_place c.routine) c.ldb c.ldc not-in-place

  b-is : (l : List Float) → array_b c b l ≡ b
  unfolding array_b
  b-is l = if-false (in_place c.routine) l b not-in-place

  mask_is : (lower : Bool) → lower ≡ is_lower c.uplo → (i j : ℕ)
      → trapezoid lower from c.n cols i j ≡ (box c.m cols i j && in_triangle c.routine c.uplo i (from + j))
  mask_is lower el i j =
      triangle-is c.uplo lower from c.n cols i j el
      ∙ ap₂ (λ (n : ℕ) (t : Bool). box n cols i j && t) (sym square)
      (sym (ap (λ (f : Routine). in_triangle f c.uplo i (from + j)) e ∙ half i (from + j)))

  pub strip-is : (lower : Bool) → lower ≡ is_lower c.uplo → (ps : List Product)
      → ((i j : ℕ) (x : Float) → value f c a b i j x ≡ accumulated c c.k ps i j x)
      → 0 < c.n → c.n ≤ c.ldc → from + cols ≤ c.n → (old ys : List Float)
      → ys ≡ update (entries c.ldc (only (trapezoid lower from c.n cols) (λ i j x. accumulated c c.k ps i (from + j) x))) old
      → StripOf c a b from (from + cols) (from * c.ldc) old ys
  strip-is lower el ps values some nl within old ys ey l xl eo =
      strip-of-columns c a b from cols cuts-columns within (from * c.ldc) g l ys
      (omega (arith, ld-is)) (omega (arith, ld-is)) (ap (λ (n : ℕ). from * n) (sym ld-is)) xl
      (ey
      ∙ ap (λ (k : Mask). update (entries c.ldc (only k g)) old) (λ t i j. mask_is lower el i j t)
      ∙ ap₂ (λ (n : ℕ) (o : List Float). update (entries n (only (λ i j. box c.m cols i j && in_triangle c.routine c.uplo i (from + j)) g)) o) (sym ld-is) eo)
      (λ i j hi hj y.
      sym (values i (from + j) y)
      ∙ sym (ap (λ (f : Routine). value f c a (array_b c b l) i (from + j) y) e ∙ ap (λ (xs : List Float). value f c a xs i (from + j) y) (b-is l)))
    where
      g : EntryMap Float
      g i j x = accumulated c c.k ps i (from + j) x
