-- The factor of a scalar's case is the scalar itself, unless it is zero.
-- Assumes nothing.
use Prim.Native.Nat.{ℕ, zero, suc, ◌*◌, ◌%◌, ◌^◌, ◌<◌}
use mathlib.Core.Path.{◌≡◌, refl, sym, ap, ap₂, ◌∙◌}
use mathlib.Core.Bool.{Bool, true, false, ◌||◌, beq, true≢false}
use native.Mathlib.Nat.{suc-mul}
use native.Mathlib.Numerals.{one-add}
use native.Mathlib.Omega.{arith}
use lib.Dec.{T, eqb}
use lib.IntN.{ℤ, pos, negsuc}
use lib.Ieee.{Float, nan, inf, fin, binary64, eq, fits, up, down}
use lib.Ieee.Fits.{down_pos}
use lib.Pow.{pow-lt, pow-add}
use borrow.Author.Tests.{eqb-true, ne_eqb}
use Rattle.arrays.proofs.Tests.{and_left, and_right, if-true, if-false, by-test}
use Rattle.floats.specs.Operations.{0f, 1f}
use Rattle.definitions.specs.Number.{scalar, is_zero, factor}
use Rattle.definitions.specs.declared.Scalar.TheVariants.{Zero, One}

-- the sign of a number that equals 1
positive : (s : Bool) (a : ℕ) → 0 < a → (beq s false || eqb a 0) ≡ true → s ≡ false
positive false a h e = refl
positive true a h e = absurd (true≢false (sym e ∙ ne_eqb a 0 (λ z. omega arith)))

-- what it is to equal 1
equal : (s : Bool) (m : ℕ) (e : ℤ) → eq (fin s m e) 1f ≡ true → (m * up e * 1 ≡ 1 * 1 * down e) × ((beq s false || eqb (m * up e * 1) 0) ≡ true)
unfolding eq
equal s m e h = (eqb-true (m * up e * 1) (1 * 1 * down e) (and_left (eqb (m * up e * 1) (1 * 1 * down e)) _ h), and_right (eqb (m * up e * 1) (1 * 1 * down e)) _ h)

-- 1.0 is written in one way: its significand m is odd, and m * up e / down e is 1
one-is : (s : Bool) (m : ℕ) (e : ℤ) → T (fits binary64 (fin s m e)) → eq (fin s m e) 1f ≡ true → fin s m e ≡ 1f
unfolding fits
one-is s zero e f h = absurd (let z : ⊥ = omega (arith, (equal s zero e h).0, down_pos e) in z)
one-is s (suc m) (pos zero) f h =
    let q = equal s (suc m) (pos zero) h in
    ap₂ (λ (s : Bool) (n : ℕ). fin s n (pos 0)) (positive s (suc m * 1 * 1) (omega arith) q.1) (omega (arith, q.0))
one-is s (suc m) (pos (suc k)) f h =
    absurd (let z : ⊥ = omega (arith, (equal s (suc m) (pos (suc k)) h).0, suc-mul m (2 ^ suc k), pow-lt {i = 0} {j = suc k} (omega arith)) in z)
one-is s (suc m) (negsuc k) f h =
    let even : 2 ^ suc k ≡ 2 ^ 1 * 2 ^ k = ap (λ (n : ℕ). 2 ^ n) (sym (one-add k)) ∙ pow-add 2 1 k in
    by-test (eqb (suc m % 2) 1)
    (λ odd. absurd (let z : ⊥ = omega (arith, eqb-true (suc m % 2) 1 odd, (equal s (suc m) (negsuc k) h).0) in z))
    (λ odd. absurd (rw odd at f))

equals-one : (x : Float) → T (fits binary64 x) → eq x 1f ≡ true → x ≡ 1f
unfolding eq
equals-one nan f h = absurd (true≢false (sym h))
equals-one (inf s) f h = absurd (true≢false (sym h))
equals-one (fin s m e) f h = one-is s m e f h

-- Of any f64 but the two zeros.
pub factor-is : (x : Float) → T (fits binary64 x) → is_zero (scalar x) ≡ false → factor (scalar x) ≡ x
unfolding scalar factor
factor-is x f h =
    by-test (eq x 0f)
    (λ z. absurd (true≢false (sym (ap is_zero (if-true (eq x 0f) Zero _ z)) ∙ h)))
    (λ z. by-test (eq x 1f)
    (λ o. ap factor (if-false (eq x 0f) Zero _ z ∙ if-true (eq x 1f) One _ o) ∙ sym (equals-one x f o))
    (λ o. ap factor (if-false (eq x 0f) Zero _ z ∙ if-false (eq x 1f) One _ o)))
