-- `block::block` meets its contract: the columns below j are done, two in a turn.
use Prim.Native.Nat.{◌≤◌, ◌-◌}
use mathlib.Core.Path.{◌≡◌}
use Rattle.arrays.specs.Update.{update, region}
use Rattle.blocks.specs.Terms.{packed}
use Rattle.blocks.proofs.block.block.Given as goal

abbrev pub invariant-loop-j : goal.invariant-loop-j
invariant-loop-j l = (l.j ≤ l.area.cols) × (l.c ≡ update (region l.area.ld l.area.rows l.j (packed l.terms l.u l.t)) l.initial.c)

abbrev pub decreases-loop-j : goal.decreases-loop-j
decreases-loop-j l = l.area.cols - l.j
