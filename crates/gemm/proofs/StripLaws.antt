-- The part of C from a strip's first column on, in which a product is added to its start, is the strip of GEMM or SYMM.
-- Assumes nothing.
use Prim.Native.Nat.{ℕ, ◌+◌, ◌*◌, ◌≤◌, ◌<◌}
use mathlib.Core.Path.{◌≡◌, sym, ap, ap₂, ◌∙◌}
use mathlib.Core.Bool.{true, false}
use mathlib.Core.List.{List}
use native.Mathlib.Omega.{arith}
use lib.Ieee.{Float}
use Rattle.arrays.specs.Update.{EntryMap, update, region}
use Rattle.arrays.proofs.Tests.{if-false}
use Rattle.definitions.specs.Call.{in_place, ld_output, in_triangle, cuts_rows}
use Rattle.definitions.specs.Element.{value, array_b, StripOf}
use Rattle.definitions.specs.declared.Routine.{Routine}
use Rattle.definitions.specs.declared.Call.{Call}
use Rattle.definitions.proofs.Parts.{strip-of-box}
use Rattle.packing.specs.Factor.{entry_of}
use Rattle.direct.specs.Product.{from_column, product, partly}
use Rattle.packing.specs.declared.Form.{Form}
use Rattle.gemm.specs.Sum.{summed}

module _ (c : Call) (a b : List Float) (from cols : ℕ) (f : Routine) (e : c.routine ≡ f) (writes-c : in_place f ≡ false)
    (all : (i j : ℕ) → in_triangle f c.uplo i j ≡ true) where
  not-in-place : in_place c.routine ≡ false
  not-in-place = ap in_place e ∙ writes-c

  cuts-columns : cuts_rows c.routine c.side ≡ false
  unfolding cuts_rows
  cuts-columns = rw not-in-place

  ld-is : ld_output c ≡ c.ldc
  unfolding ld_output
  ld-is = if-false (in_place c.routine) c.ldb c.ldc not-in-place

  b-is : (l : List Float) → array_b c b l ≡ b
  unfolding array_b
  b-is l = if-false (in_place c.routine) l b not-in-place

  -- the factors are held in the arrays p and q, and all terms of their product are the routine's value
  pub strip-is : (fa : Form) (p : List Float) (ldp : ℕ) (fb : Form) (q : List Float) (ldq k : ℕ)
      → ((i j : ℕ) (x : Float) → value f c a b i j x ≡ summed c.alpha c.beta (entry_of fa p ldp) (entry_of fb q ldq) k i j x)
      → 0 < c.m → c.m ≤ c.ldc → from + cols ≤ c.n → (old ys : List Float)
      → ys ≡ update (region c.ldc c.m cols (summed c.alpha c.beta (entry_of fa p ldp) (from_column from (entry_of fb q ldq)) k)) old
      → StripOf c a b from (from + cols) (from * c.ldc) old ys
  unfolding summed product partly
  strip-is fa p ldp fb q ldq k values some ml within old ys ey l xl eo =
      strip-of-box c a b from cols cuts-columns within (from * c.ldc) g l ys
      (λ i j. ap (λ (f : Routine). in_triangle f c.uplo i j) e ∙ all i j)
      (omega (arith, ld-is)) (omega (arith, ld-is)) (ap (λ (n : ℕ). from * n) (sym ld-is)) xl
      (ey ∙ ap₂ (λ (n : ℕ) (o : List Float). update (region n c.m cols g) o) (sym ld-is) eo)
      (λ i j hi hj y.
      sym (values i (from + j) y)
      ∙ sym (ap (λ (f : Routine). value f c a (array_b c b l) i (from + j) y) e ∙ ap (λ (xs : List Float). value f c a xs i (from + j) y) (b-is l)))
    where
      g : EntryMap Float
      g = summed c.alpha c.beta (entry_of fa p ldp) (from_column from (entry_of fb q ldq)) k
