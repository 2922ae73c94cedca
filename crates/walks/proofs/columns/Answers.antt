-- `walks::columns` meets its contract: its part of the triangle is the small triangle on the diagonal and the rectangle beside it.
use Prim.Native.Nat.{ℕ, ◌≤◌, ◌<◌, ◌+◌, ◌*◌}
use mathlib.Core.Path.{refl}
use native.Mathlib.Omega.{arith}
use lib.Ieee.{nan}
use lib.ListN.{length}
use Rattle.arrays.proofs.PartLaws.{column-room}
use Rattle.arrays.proofs.TrapezoidLaws.{rest-fits, diagonal-and-rest}
use Rattle.walks.proofs.WalkLaws.{packed-rows}
use Rattle.walks.proofs.columns.Goals as goal
use Rattle.walks.proofs.columns.Goals.{After-pick-rows}

-- the rows beside the small triangle are within the columns
record Parts (j h top rows order ld lc lu : ℕ) : Type 0 where
  rest : top + rows ≤ order
  within : j + h ≤ order
  leading : order ≤ ld
  small : order ≤ 64
  some : 0 < h
  room : h * ld + order ≤ lc + ld
  column : 0 * ld + ld ≤ h * ld
  buffer : order ≤ lu

parts : (c : After-pick-rows) → Parts c.args.j c.args.h c.pick-top.result c.pick-rows.result c.args.order c.args.ld (length c.args.c.now) (length c.args.u.now)
parts c =
    record {
      rest = rest-fits _ c.args.j c.args.h _ _ (omega arith) c.args.lower c.pick-top.ensures c.pick-rows.ensures;
      within = omega arith;
      leading = omega arith;
      small = omega arith;
      some = omega arith;
      room = omega arith;
      column = column-room _ (omega arith);
      buffer = omega arith;
    }

pub returns : goal.returns
returns c =
    let p = parts (goal.at.returns c).After-pick-rows in
    diagonal-and-rest _ _ _ _ _ (omega (arith, p)) nan _ _ _ _ _ _ c.pick-top.ensures c.pick-rows.ensures (omega (arith, p)) (omega (arith, p)) (omega (arith, p)) c.walks.ensures (λ i c x. packed-rows _ _ _ _ i c x)
    _ _ _ refl c.block.ensures (λ i c x. packed-rows _ _ _ _ i c x)
