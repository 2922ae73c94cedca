-- `triangles::square` meets its contract: the rows before the next piece are done.
use Prim.Native.Nat.{ℕ, ◌≤◌, ◌<◌, ◌+◌, ◌*◌}
use mathlib.Core.Bool.{false}
use mathlib.Core.Path.{sym, ap, ◌∙◌}
use native.Mathlib.Omega.{arith}
use lib.ListN.{length}
use Rattle.arrays.proofs.PartLaws.{column-room}
use Rattle.arrays.proofs.PieceLaws.{turn, last}
use Rattle.packing.specs.Factor.{entry_of, along}
use Rattle.packing.proofs.FactorLaws.{upward, up_from}
use Rattle.triangles.proofs.SlabLaws.{no_rows, slab-more}
use Rattle.triangles.proofs.square.Goals as goal
use Rattle.triangles.proofs.square.Goals.{In-Some}

-- in a turn: h rows from the x-th on
record Rows (x h order ld lc : ℕ) : Type 0 where
  some : 0 < h
  few : h ≤ 64
  within : x + h ≤ order
  fit : order ≤ ld
  room : order * ld + order ≤ lc + ld
  column : 0 * ld + ld ≤ order * ld

rows : (c : In-Some) → Rows c.in-Some.x c.in-Some.h c.args.order c.args.ld (length c.loop-x.c)
rows c =
    let t = turn c.next.ensures.steps c.in-Some.is in
    record {
      some = omega arith;
      few = omega arith;
      within = omega arith;
      fit = omega arith;
      room = omega arith;
      column = column-room _ (omega arith);
    }

pub loop-x-init : goal.loop-x-init
loop-x-init c = rw c.into_iter-x-iterator.ensures.into_iter_gives (omega arith, tt, c.of-x-items.ensures.1, c.of-x-items.ensures.2, rw c.of-x-items.ensures.0 (no_rows _ _ _ _ _))

pub pack-requires : goal.pack-requires
pack-requires c =
    let fits = rows (goal.at.pack-requires c).In-Some in (
      omega arith,
      omega arith,
      omega arith,
      omega arith,
      upward _ _ (omega arith),
      c.requires.terms_nonzero.3,
      λ y x hy hx. rw (up_from c.args.i0 c.in-Some.x y) (c.requires.by_index (c.in-Some.x + y) x (omega arith) hx),
    )

pub loop-x-preserved : goal.loop-x-preserved
loop-x-preserved c =
    let t = turn c.next.ensures.steps c.in-Some.is in
    let n = rows (goal.at.loop-x-preserved c).In-Some in
    let a = c.args in (
      omega arith,
      tt,
      omega arith,
      omega arith,
      rw t.next
          (slab-more _ _ _ _ _ _ _ _ _ _ _ _ _ _ (omega (arith, n)) (omega (arith, n)) (omega (arith, n)) (omega (arith, n)) (omega arith) c.pack.ensures
          (λ y z. ap (λ (k : ℕ). entry_of a.a.form a.a.cells.now a.a.ld k (along false a.term z)) (up_from a.i0 c.in-Some.x y))
          (rw (sym t.first) at c.loop-x.invariant.4) c.row.ensures),
    )

pub returns : goal.returns
returns c = let all = last c.next.ensures.steps c.in-None.is ∙ c.loop-x.invariant.2 in (rw all at c.loop-x.invariant.4, c.loop-x.auto.u)
