-- `singles` meets its contract: the lines below l are done.
use mathlib.Core.Path.{◌≡◌, refl}
use Prim.Native.Nat.{◌-◌, ◌*◌, ◌≤◌}
use lib.ListN.{length}
use Rattle.arrays.proofs.PartLaws.{tail-length}
use Rattle.lines.specs.Lines.{Room}
use Rattle.elements.proofs.SumLaws.{lines-room, no_lines, lines_more}
use native.Mathlib.Omega.{arith}
use Rattle.elements.proofs.singles.Goals as goal
use Rattle.elements.proofs.singles.Goals.{In-loop-l}

-- the part from line l on
room : (c : In-loop-l) → (c.loop-l.l * c.pick-across.result ≤ length c.loop-l.b) × Room c.args.g.left c.args.g.ld c.args.g.m 1 (length c.loop-l.b - c.loop-l.l * c.pick-across.result)
room c =
    let kept : length c.loop-l.b ≡ length c.args.b.now = omega arith in
    lines-room c.args.g.left c.args.g.ld c.args.g.m c.args.g.lines c.loop-l.l 1 (length c.loop-l.b) (omega arith) (omega arith) (omega arith) c.pick-across.ensures refl (rw kept c.requires.0)

pub loop-l-init : goal.loop-l-init
loop-l-init c = no_lines _ _ _ _ _ _ _ _ _ _ _

pub single-requires : goal.single-requires
single-requires c = (rw tail-length (room (goal.at.single-requires c).In-loop-l).1, c.requires.1, c.requires.2, c.requires.3)

pub loop-l-preserved : goal.loop-l-preserved
loop-l-preserved c =
    lines_more _ _ _ _ _ _ _ _ _ _ c.args.g.lines c.loop-l.l 1 c.args.b.now c.loop-l.b _ c.requires.1 (omega arith) (omega arith) (λ k h. (c.requires.3 k h).0) c.pick-across.ensures refl c.requires.0 c.loop-l.invariant c.single.ensures
