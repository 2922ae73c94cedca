-- `rank_update::start_part` makes the start of each element of the strip's part of the triangle: the columns below j are done.
use Prim.Native.Nat.{ℕ, ◌≤◌, ◌+◌, ◌*◌}
use mathlib.Core.Path.{refl}
use native.Mathlib.Omega.{arith}
use lib.Ieee.{nan}
use lib.ListN.{length}
use Rattle.arrays.proofs.PartLaws.{column-room}
use Rattle.arrays.proofs.TrapezoidLaws.{none_yet, rows-room, column-more}
use Rattle.rank_update.proofs.start_part.Goals as goal
use Rattle.rank_update.proofs.start_part.Goals.{After-pick-rows}

-- in a turn: rows from `top` on of column j
record Turn (j top rows n ld lc : ℕ) : Type 0 where
  rows_fit : top + rows ≤ n
  leading : n ≤ ld
  column : j * ld + n ≤ lc

turn : (c : After-pick-rows) → Turn c.loop-j.j c.pick-top.result c.pick-rows.result c.args.part.n c.args.part.ld (length c.loop-j.c)
turn c =
    record {
      rows_fit = rows-room c.args.part.lower _ _ _ _ (c.pick-top.ensures, c.pick-rows.ensures) (omega arith);
      leading = omega arith;
      column = omega (arith, column-room c.args.part.ld c.loop-j-test.true);
    }

pub loop-j-init : goal.loop-j-init
loop-j-init c = none_yet _ _ _ _ _ _

pub loop-j-preserved : goal.loop-j-preserved
loop-j-preserved c =
    let t = turn (goal.at.loop-j-preserved c).After-pick-rows in
    column-more _ _ _ _ _ _ refl (omega arith) nan _ _ _ _ _ _ _ _ (c.pick-top.ensures, c.pick-rows.ensures) (omega arith) (omega arith) refl (omega (arith, t)) c.loop-j.invariant c.column.ensures (λ i x. refl)
