-- `panels::panels` meets its contract: the terms before the next piece are done.
use Prim.Native.Nat.{ℕ, ◌≤◌, ◌<◌, ◌+◌, ◌*◌}
use mathlib.Core.Path.{refl, sym, ap, ◌∙◌}
use native.Mathlib.Omega.{arith}
use lib.ListN.{length}
use Rattle.arrays.proofs.PieceLaws.{turn, last}
use Rattle.arrays.proofs.UpdateLaws.{length-update}
use Rattle.direct.specs.Product.{product}
use Rattle.packing.proofs.FactorLaws.{upward, along-up, turn_below, turn_along, panel-indices}
use Rattle.direct.proofs.DirectLaws.{partly_none}
use Rattle.kernel.proofs.PanelLaws.{panel-next}
use Rattle.kernel.proofs.panels.panels.Goals as goal
use Rattle.kernel.proofs.panels.panels.Goals.{In-Some}

-- in a turn: n terms from the l-th on
record Terms (l n k r ld cols lt : ℕ) : Type 0 where
  some : 0 < n
  few : n ≤ 64
  within : l + n ≤ k
  block : n ≤ r
  machine : k < 18446744073709551616
  leading : 0 < ld
  buffer : cols * 64 ≤ lt

terms : (c : In-Some) → Terms c.in-Some.l c.in-Some.n c.args.p.terms c.args.r c.args.area.ld c.args.area.cols (length c.loop-l.t)
terms c =
    let t = turn c.next.ensures.steps c.in-Some.is in
    record {
      some = omega arith;
      few = omega arith;
      within = omega arith;
      block = omega arith;
      machine = omega arith;
      leading = omega arith;
      buffer = omega arith;
    }

pub loop-l-init : goal.loop-l-init
loop-l-init c = rw c.into_iter-l-iterator.ensures.into_iter_gives (omega arith, tt, c.of-l-items.ensures.1, c.of-l-items.ensures.2, rw c.of-l-items.ensures.0 (partly_none _ _ _ _ _ _ _ _ _))

pub pack-requires : goal.pack-requires
pack-requires c =
    let fits = terms (goal.at.pack-requires c).In-Some in (
      omega arith,
      omega arith,
      omega arith,
      omega arith,
      panel-indices _ _ _ _ (omega arith) (omega arith) (omega arith) c.turn_of.ensures.0,
      upward _ _ (omega arith),
      λ y x hy hx.
          rw (turn_along c.args.down c.args.p.terms c.in-Some.l y c.turn_of.ensures.0, along-up c.args.j0 x refl)
          (c.requires.by_index.1 _ x (turn_below c.args.down c.args.p.terms (c.in-Some.l + y) (omega arith)) hx),
    )

pub sweep-requires : goal.sweep-requires
sweep-requires c =
    let fits = terms (goal.at.sweep-requires c).In-Some in
    let e = ap length c.scale.ensures ∙ length-update _ _ ∙ ap length c.pack.ensures ∙ length-update _ _ in record {
      room = omega arith;
      cols_nonzero = omega (arith, e);
      terms_nonzero = (
        omega arith,
        omega arith,
        omega arith,
        omega arith,
        omega arith,
        omega arith,
        panel-indices _ _ _ _ (omega arith) (omega arith) (omega arith) c.turn_of.ensures.0,
      );
      by_index = λ i q hi hq.
          rw (turn_along c.args.down c.args.p.terms c.in-Some.l q c.turn_of.ensures.0)
          (c.requires.by_index.0 i _ hi (turn_below c.args.down c.args.p.terms (c.in-Some.l + q) (omega arith)));
    }

pub loop-l-preserved : goal.loop-l-preserved
loop-l-preserved c =
    let t = turn c.next.ensures.steps c.in-Some.is in
    let n = terms (goal.at.loop-l-preserved c).In-Some in (
      omega arith,
      tt,
      omega arith,
      omega arith,
      rw t.next
          (panel-next _ _ _ _ _ _ _ _ _ _ _ _ _ _ _ _ _ _ _ _ (omega (arith, n)) (omega (arith, n)) (omega (arith, n)) c.turn_of.ensures.0
          (rw (sym t.first) at c.loop-l.invariant.4) c.pack.ensures c.scale.ensures c.sweep.ensures.0),
    )

pub returns : goal.returns
unfolding product
returns c = let all = last c.next.ensures.steps c.in-None.is ∙ c.loop-l.invariant.2 in rw all at c.loop-l.invariant.4
