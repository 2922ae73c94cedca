-- The tests of a call that passed.
-- Assumes nothing.
use mathlib.Core.Path.{◌≡◌, refl}
use mathlib.Core.Bool.{Bool, true, false, not, ◌||◌}
use mathlib.Core.List.{List}
use Prim.Native.Nat.{ℕ, ◌*◌, ◌≤◌}
use native.Mathlib.Omega.{arith}
use lib.Dec.{ltb, eqb}
use lib.IntN.{ℤ}
use lib.ListN.{length}
use borrow.Author.Tests.{ltb-false, eqb-true, not-false}
use Rattle.std.specs.Prelude.{if◌then◌else◌}
use Rattle.arrays.proofs.Tests.{or_left, or_right}
use Rattle.definitions.specs.Check.{nat, 'L', 'U', is}
use Rattle.integer_solve.specs.Equations.{bad_order, bad_length, zero_diagonal, refusal}

pub order-within : (n : ℤ) → bad_order n ≡ false → nat n ≤ 64
unfolding bad_order
order-within n h = ltb-false 64 (nat n) (or_right (ltb (nat n) 1) (ltb 64 (nat n)) h)

pub lengths-fit : (n a b x : ℕ) → bad_length n a b x ≡ false → (a ≡ n * n) × (b ≡ n) × (x ≡ n)
unfolding bad_length
lengths-fit n a b x h =
    let u = not (eqb a (n * n)) in
    let v = not (eqb b n) in
    let w = not (eqb x n) in (
      eqb-true a (n * n) (not-false (eqb a (n * n)) (or_left u v (or_left (u || v) w h))),
      eqb-true b n (not-false (eqb b n) (or_right u v (or_left (u || v) w h))),
      eqb-true x n (not-false (eqb x n) (or_right (u || v) w h)),
    )

all_pass : (p q r : Bool) → ◌≡◌ {A = ℕ} (if p then 39 else if q then 40 else if r then 41 else 0) 0 → (p ≡ false) × (q ≡ false) × (r ≡ false)
all_pass true q r h = absurd (omega arith)
all_pass false true r h = absurd (omega arith)
all_pass false false true h = absurd (omega arith)
all_pass false false false h = (refl, refl, refl)

-- a call that is not refused passes the three tests
pub passed : (uplo n : ℤ) (a : List ℤ) (b x : ℕ) → refusal uplo n a b x ≡ 0
    → ((bad_order n || not (is 'L' uplo || is 'U' uplo)) ≡ false) × (bad_length (nat n) (length a) b x ≡ false) × (zero_diagonal (nat n) a ≡ false)
unfolding refusal
passed uplo n a b x h = all_pass _ _ _ h
