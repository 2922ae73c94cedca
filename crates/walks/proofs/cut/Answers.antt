-- `walks::cut` meets its contract: the columns before the next piece are done.
use Prim.Native.Nat.{ℕ, ◌≤◌, ◌<◌, ◌+◌, ◌*◌}
use mathlib.Core.Path.{refl, sym, ◌∙◌}
use native.Mathlib.Nat.{zero-add}
use native.Mathlib.Omega.{arith}
use lib.Ieee.{nan}
use lib.ListN.{length}
use Rattle.arrays.proofs.PartLaws.{tail-length, columns-room, column-room}
use Rattle.arrays.proofs.PieceLaws.{turn, last}
use Rattle.arrays.proofs.TrapezoidLaws.{none_yet, columns-more}
use Rattle.blocks.proofs.TermLaws.{packed-columns}
use Rattle.walks.proofs.cut.Goals as goal
use Rattle.walks.proofs.cut.Goals.{In-Some}

-- in a turn: h columns from the j-th on
record Columns (j h order ld lc : ℕ) : Type 0 where
  some : 0 < h
  within : j + h ≤ order
  leading : order ≤ ld
  room : j * ld + h * ld + order ≤ lc + ld
  column : 0 * ld + ld ≤ h * ld

columns : (c : In-Some) → Columns c.in-Some.j c.in-Some.h c.args.order c.args.ld (length c.loop-j.c)
columns c =
    let t = turn c.next.ensures.steps c.in-Some.is in
    let some : 0 < c.in-Some.h = omega arith in
    let within : c.in-Some.j + c.in-Some.h ≤ c.args.order = omega arith in
    record {
      some = some;
      within = within;
      leading = omega arith;
      room = omega (arith, columns-room c.args.ld c.in-Some.j c.in-Some.h within);
      column = column-room _ some;
    }

pub loop-j-init : goal.loop-j-init
loop-j-init c = rw c.into_iter-j-iterator.ensures.into_iter_gives (omega arith, tt, c.of-j-items.ensures.1, c.of-j-items.ensures.2, rw c.of-j-items.ensures.0 (none_yet _ _ _ _ _ _))

pub columns-requires : goal.columns-requires
columns-requires c = simp tail-length (omega (arith, columns (goal.at.columns-requires c).In-Some))

pub loop-j-preserved : goal.loop-j-preserved
loop-j-preserved c =
    let t = turn c.next.ensures.steps c.in-Some.is in
    let s = columns (goal.at.loop-j-preserved c).In-Some in (
      omega arith,
      tt,
      omega arith,
      omega arith,
      rw (t.next) (columns-more nan _ _ _ _ _ _ _ _ _ _ _ _ _ (sym (zero-add _)) (omega arith) (omega arith) refl (omega arith) (rw (sym t.first) at c.loop-j.invariant.4) c.columns.ensures (λ i q x. packed-columns _ _ _ _ i q x)),
    )

pub returns : goal.returns
returns c = let all = last c.next.ensures.steps c.in-None.is ∙ c.loop-j.invariant.2 in rw all at c.loop-j.invariant.4
