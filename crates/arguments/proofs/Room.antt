-- The elements that an array of a shape needs, and products of sizes.
-- Assumes nothing.
use mathlib.Core.Path.{◌≡◌, refl}
use Prim.Native.Nat.{ℕ, zero, suc, ◌≤◌, ◌<◌, ◌*◌, ◌+◌, ◌-◌}
use native.Mathlib.Nat.{mul-le-mul}
use native.Mathlib.Omega.{arith}
use Rattle.definitions.specs.Storage.{needed}

-- Two numbers of 32 bits have a product of 64 bits, and room for a third to be added.
pub product-fits : (x y : ℕ) → x ≤ 4294967295 → y ≤ 4294967295 → x * y ≤ 4294967295 * 4294967295
product-fits x y h k = mul-le-mul h k

pub needed-empty : (ld p q : ℕ) → q ≡ 0 → 0 ≡ needed ld p q
unfolding needed
needed-empty ld zero zero e = refl
needed-empty ld (suc p) zero e = refl
needed-empty ld p (suc q) e = let f : ⊥ = omega arith in absurd f

pub needed-is : (ld p q : ℕ) → 0 < p → 0 < q → ld * (q - 1) + p ≡ needed ld p q
unfolding needed
needed-is ld (suc p) (suc q) hp hq = let e : suc q - 1 ≡ q = omega arith in rw e
needed-is ld zero q hp hq = let f : ⊥ = omega arith in absurd f
needed-is ld (suc p) zero hp hq = let f : ⊥ = omega arith in absurd f
