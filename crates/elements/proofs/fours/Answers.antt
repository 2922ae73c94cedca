-- `fours` meets its contract: the lines below l are done, four in a turn.
use mathlib.Core.Path.{◌≡◌, refl}
use Prim.Native.Nat.{ℕ, ◌+◌, ◌-◌, ◌*◌, ◌≤◌, ◌<◌}
use lib.ListN.{length}
use Rattle.arrays.proofs.PartLaws.{tail-length}
use Rattle.lines.specs.Lines.{Room}
use Rattle.elements.proofs.SumLaws.{lines-room, no_lines, lines_more}
use native.Mathlib.Omega.{arith}
use Rattle.elements.proofs.fours.Goals as goal
use Rattle.elements.proofs.fours.Goals.{At-loop-l}

-- the part from line l on
room : (c : At-loop-l) → (n : ℕ) → 0 < n → c.loop-l.l + n ≤ c.args.g.lines → (c.loop-l.l * c.pick-across.result ≤ length c.loop-l.b) × Room c.args.g.left c.args.g.ld c.args.g.m n (length c.loop-l.b - c.loop-l.l * c.pick-across.result)
room c n h k =
    let kept : length c.loop-l.b ≡ length c.args.b.now = omega arith in
    lines-room c.args.g.left c.args.g.ld c.args.g.m c.args.g.lines c.loop-l.l n (length c.loop-l.b) (omega arith) h k c.pick-across.ensures refl (rw kept c.requires.0)

pub loop-l-init : goal.loop-l-init
loop-l-init c = (omega arith, no_lines _ _ _ _ _ _ _ _ _ _ _)

pub four-requires : goal.four-requires
four-requires c = (rw tail-length (room (goal.at.four-requires c).At-loop-l 4 (omega arith) (omega arith)).1, c.requires.1, c.requires.2, c.requires.3)

pub loop-l-preserved : goal.loop-l-preserved
loop-l-preserved c =
    let e = lines_more _ _ _ _ _ _ _ _ _ _ c.args.g.lines c.loop-l.l 4 c.args.b.now c.loop-l.b _ c.requires.1 (omega arith) (omega arith) (λ k h. (c.requires.3 k h).0) c.pick-across.ensures refl c.requires.0 c.loop-l.invariant.1 c.four.ensures in
    (omega arith, e)

pub returns : goal.returns
returns c =
    let e : c.loop-l.l + (c.args.g.lines - c.loop-l.l) ≡ c.args.g.lines = omega arith in
    rw e at (lines_more _ _ _ _ _ _ _ _ _ _ c.args.g.lines c.loop-l.l (c.args.g.lines - c.loop-l.l) c.args.b.now c.loop-l.b _ c.requires.1 (omega arith) (omega arith) (λ k h. (c.requires.3 k h).0) c.pick-across.ensures refl c.requires.0 c.loop-l.invariant.1 c.singles.ensures)
