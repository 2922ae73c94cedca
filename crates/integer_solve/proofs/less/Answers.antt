-- `less`: neither the term, which is a product of words, nor the difference leaves its width.
use mathlib.Core.Path.{refl}
use Prim.Native.Nat.{◌≤◌}
use native.Mathlib.Omega.{arith}
use lib.IntN.{nat_abs, ◌-ℤ◌, ◌*ℤ◌}
use mir.Syntax.{w64}
use mir.Val.{SFits}
use mir.ValLaws.{to_z-of_z}
use Rattle.integer_solve.specs.Elimination.{term}
use Rattle.integer_solve.proofs.Integers.{mag-abs}
use Rattle.integer_solve.proofs.Words.{same-64, term-size, less-size}
use Rattle.integer_solve.proofs.less.Goals as goal
use Rattle.integer_solve.proofs.less.Goals.{Start}

small : (c : Start) → nat_abs (c.args.u *ℤ c.args.x) ≤ term
small c =
    term-size c.args.u c.args.x c.ranges.u.sfits c.ranges.x.sfits

product : (c : Start) → SFits w64 (c.args.u *ℤ c.args.x)
product c =
    let small : nat_abs (c.args.u *ℤ c.args.x) ≤ term = term-size c.args.u c.args.x c.ranges.u.sfits c.ranges.x.sfits in
    record { sfits = omega (arith, small, mag-abs (c.args.u *ℤ c.args.x)) }

difference : (c : Start) → SFits w64 (c.args.s -ℤ c.args.u *ℤ c.args.x)
difference c =
    let small : nat_abs (c.args.u *ℤ c.args.x) ≤ term = term-size c.args.u c.args.x c.ranges.u.sfits c.ranges.x.sfits in
    let z = c.args.s -ℤ c.args.u *ℤ c.args.x in
    record { sfits = omega (arith, mag-abs z, less-size c.args.s (c.args.u *ℤ c.args.x) small) }

pub overflow_sub-result : goal.overflow_sub-result
overflow_sub-result c =
    rw (same-64 c.args.u c.ranges.u.sfits, same-64 c.args.x c.ranges.x.sfits, to_z-of_z w64 _ (product (goal.at.overflow_sub-result c).Start), to_z-of_z w64 c.args.s c.ranges.s) (difference (goal.at.overflow_sub-result c).Start)

pub returns : goal.returns
returns c =
    rw (same-64 c.args.u c.ranges.u.sfits, same-64 c.args.x c.ranges.x.sfits, to_z-of_z w64 _ (product (goal.at.returns c).Start), to_z-of_z w64 c.args.s c.ranges.s, to_z-of_z w64 _ (difference (goal.at.returns c).Start))
    (refl, less-size c.args.s (c.args.u *ℤ c.args.x) (small (goal.at.returns c).Start))
