-- A law of the f64 operations.
-- Assumes nothing.
use mathlib.Core.Bool.{Bool, true, false, cond}
use mathlib.Core.Path.{◌≡◌, refl, ap}
use Prim.Native.Nat.{◌*◌}
use native.Mathlib.Nat.{mul_comm}
use lib.Dec.{eqb}
use lib.Ieee.{Float, nan, inf, fin, binary64, round, mul, unlike, up, down}
use Rattle.floats.specs.Operations.{◌⊗◌}

unlike-comm : (s t : Bool) → unlike s t ≡ unlike t s
unlike-comm true true = refl
unlike-comm true false = refl
unlike-comm false true = refl
unlike-comm false false = refl

-- the factors of a product may change places
pub ⊗-comm : (x y : Float) → x ⊗ y ≡ y ⊗ x
unfolding mul
⊗-comm nan nan = refl
⊗-comm nan (inf t) = refl
⊗-comm nan (fin t n d) = refl
⊗-comm (inf s) nan = refl
⊗-comm (inf s) (inf t) = ap inf (unlike-comm s t)
⊗-comm (inf s) (fin t n d) = ap (λ (u : Bool). cond (eqb n 0) nan (inf u)) (unlike-comm s t)
⊗-comm (fin s m e) nan = refl
⊗-comm (fin s m e) (inf t) = ap (λ (u : Bool). cond (eqb m 0) nan (inf u)) (unlike-comm s t)
⊗-comm (fin s m e) (fin t n d) = λ i. round binary64 (unlike-comm s t i) (mul_comm (m * up e) (n * up d) i) (mul_comm (down e) (down d) i)
