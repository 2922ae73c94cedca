-- `walks::walk` meets its contract: the columns below j are done, and their passes are counted.
use Prim.Native.Nat.{◌≤◌, ◌<◌, ◌+◌, ◌*◌}
use mathlib.Core.Path.{◌≡◌}
use native.Mathlib.Omega.{arith}
use Rattle.arrays.proofs.PartLaws.{column-room}
use Rattle.blocks.proofs.TermLaws.{at-once-some}
use Rattle.arrays.proofs.TrapezoidLaws.{Inside, rows-room, none_yet}
use Rattle.walks.proofs.WalkLaws.{corner-next, counted_none, counted-more, counted-all}
use Rattle.walks.proofs.walk.Goals as goal
use Rattle.walks.proofs.walk.Goals.{After-pick-rows}

-- in a turn: the rows that are walked are those of the triangle
inside : (c : After-pick-rows) → Inside c.args.lower c.args.order c.loop-j.j c.pick-first.result c.pick-rows.result
inside c = (c.pick-first.ensures, c.pick-rows.ensures)

-- and they are within the block, the column within c, and there are terms
room : (c : After-pick-rows) → (c.pick-first.result + c.pick-rows.result ≤ c.args.order) × (c.loop-j.j * c.args.ld + c.args.ld ≤ c.args.order * c.args.ld) × (0 < c.args.terms)
room c = (rows-room c.args.lower _ _ _ _ (inside c) c.loop-j-test.true, column-room _ c.loop-j-test.true, at-once-some c.requires.at_once.0)

pub loop-j-init : goal.loop-j-init
loop-j-init c = (omega arith, counted_none c.args.lower c.args.order, none_yet _ _ _ _ _ _)

pub loop-j-preserved : goal.loop-j-preserved
loop-j-preserved c =
    let fits = inside (goal.at.loop-j-preserved c).After-pick-rows in
    let fits2 = room (goal.at.loop-j-preserved c).After-pick-rows in
    let e = corner-next c.args.lower _ _ _ _ _ _ _ _ _ _ _ (omega arith) (omega arith) c.loop-j-test.true fits (omega arith) c.loop-j.invariant.2 c.axpys-count.ensures.1 in
    let n = c.axpys-count.ensures.0 in
    (omega (arith, n), rw n (counted-more c.args.lower _ _ _ _ _ fits c.loop-j-test.true c.loop-j.invariant.1), e)

pub returns : goal.returns
returns c = let e : c.loop-j.j ≡ c.args.order = omega arith in (counted-all c.args.lower _ _ (rw e at c.loop-j.invariant.1), rw e at c.loop-j.invariant.2)
