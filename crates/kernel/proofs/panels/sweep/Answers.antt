-- `panels::sweep` meets its contract: the rows before the next piece are done.
use Prim.Native.Nat.{ℕ, ◌≤◌, ◌<◌, ◌+◌, ◌*◌}
use mathlib.Core.Path.{sym, ap, ◌∙◌}
use native.Mathlib.Omega.{arith}
use lib.ListN.{length}
use Rattle.arrays.proofs.PartLaws.{column-room}
use Rattle.arrays.proofs.PieceLaws.{turn, last}
use Rattle.arrays.proofs.RegionLaws.{region-no-rows}
use Rattle.packing.specs.Factor.{entry_of, along}
use Rattle.packing.proofs.FactorLaws.{upward, up_from}
use Rattle.kernel.proofs.PanelLaws.{rows_more}
use Rattle.kernel.proofs.panels.sweep.Goals as goal
use Rattle.kernel.proofs.panels.sweep.Goals.{In-Some}

-- in a turn: h rows from the i-th on
record Rows (i h rows ld cols lc : ℕ) : Type 0 where
  some : 0 < h
  few : h ≤ 64
  within : i + h ≤ rows
  fit : rows ≤ ld
  room : cols * ld + rows ≤ lc + ld
  column : 0 * ld + ld ≤ cols * ld

rows : (c : In-Some) → Rows c.in-Some.i c.in-Some.h c.args.area.rows c.args.area.ld c.args.area.cols (length c.loop-i.c)
rows c =
    let t = turn c.next.ensures.steps c.in-Some.is in
    record {
      some = omega arith;
      few = omega arith;
      within = omega arith;
      fit = omega arith;
      room = omega arith;
      column = column-room _ (omega arith);
    }

pub loop-i-init : goal.loop-i-init
loop-i-init c = rw c.into_iter-i-iterator.ensures.into_iter_gives (omega arith, tt, c.of-i-items.ensures.1, c.of-i-items.ensures.2, rw c.of-i-items.ensures.0 (region-no-rows _ _ _ _))

pub pack-requires : goal.pack-requires
pack-requires c =
    let fits = rows (goal.at.pack-requires c).In-Some in (
      omega arith,
      omega arith,
      omega arith,
      omega arith,
      upward _ _ (omega arith),
      c.requires.terms_nonzero.6,
      λ y x hy hx. rw (up_from c.args.i0 c.in-Some.i y) (c.requires.by_index (c.in-Some.i + y) x (omega arith) hx),
    )

pub loop-i-preserved : goal.loop-i-preserved
loop-i-preserved c =
    let t = turn c.next.ensures.steps c.in-Some.is in
    let n = rows (goal.at.loop-i-preserved c).In-Some in (
      omega arith,
      tt,
      omega arith,
      omega arith,
      rw t.next
          (rows_more _ _ _ _ _ _ _ _ _ _ _ _ _ (omega arith) (omega (arith, n)) (omega (arith, n)) (omega (arith, n)) (omega arith) c.pack.ensures
          (λ y x. ap (λ (k : ℕ). entry_of c.args.a.form c.args.a.cells.now c.args.a.ld k (along c.args.terms.down c.args.terms.from x)) (up_from c.args.i0 c.in-Some.i y))
          (rw (sym t.first) at c.loop-i.invariant.4) c.block.ensures),
    )

pub returns : goal.returns
returns c = let all = last c.next.ensures.steps c.in-None.is ∙ c.loop-i.invariant.2 in (rw all at c.loop-i.invariant.4, c.loop-i.auto.u)
