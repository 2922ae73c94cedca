-- `triangles::by_panels` meets its contract: the terms before the next piece are done.
use Prim.Native.Nat.{ℕ, ◌≤◌, ◌<◌, ◌+◌, ◌*◌}
use mathlib.Core.Path.{refl, sym, ap, ◌∙◌}
use native.Mathlib.Omega.{arith}
use lib.ListN.{length}
use Rattle.arrays.proofs.PieceLaws.{turn, last}
use Rattle.arrays.proofs.UpdateLaws.{length-update}
use Rattle.packing.proofs.FactorLaws.{upward, along-up, turn_up}
use Rattle.direct.specs.Product.{product}
use Rattle.direct.proofs.DirectLaws.{masked-none}
use Rattle.kernel.proofs.PanelLaws.{masked-next}
use Rattle.arrays.proofs.TrapezoidLaws.{within}
use Rattle.triangles.proofs.by_panels.Goals as goal
use Rattle.triangles.proofs.by_panels.Goals.{In-Some}

-- in a turn: q terms from the l-th on
record Terms (l q k from cols n ld lc lu lt : ℕ) : Type 0 where
  some : 0 < q
  few : q ≤ 64
  within-k : l + q ≤ k
  machine : k < 18446744073709551616
  some-columns : 0 < cols
  within-n : from + cols ≤ n
  machine-n : n < 18446744073709551616
  fit : n ≤ ld
  room : cols * ld + n ≤ lc + ld
  buffer-u : 4096 ≤ lu
  buffer-t : cols * 64 ≤ lt

terms : (c : In-Some) → Terms c.in-Some.l c.in-Some.n c.args.p.terms c.args.part.from c.args.part.cols c.args.part.n c.args.part.ld (length c.loop-l.c) (length c.loop-l.u) (length c.loop-l.t)
terms c =
    let t = turn c.next.ensures.steps c.in-Some.is in
    record {
      some = omega arith;
      few = omega arith;
      within-k = omega arith;
      machine = omega arith;
      some-columns = omega arith;
      within-n = omega arith;
      machine-n = omega arith;
      fit = omega arith;
      room = omega arith;
      buffer-u = omega arith;
      buffer-t = omega arith;
    }

pub loop-l-init : goal.loop-l-init
loop-l-init c = rw c.into_iter-l-iterator.ensures.into_iter_gives (omega arith, tt, c.of-l-items.ensures.1, c.of-l-items.ensures.2, rw c.of-l-items.ensures.0 (masked-none _ _ _ _ _ _ _ _))

pub pack-requires : goal.pack-requires
pack-requires c =
    let n = terms (goal.at.pack-requires c).In-Some in
    let l = c.in-Some.l in (
      omega (arith, n),
      omega (arith, n),
      omega (arith, n),
      omega (arith, n),
      upward _ _ (omega (arith, n)),
      upward _ _ (omega (arith, n)),
      λ y x hy hx. rw (along-up l y refl, along-up c.args.part.from x refl) (c.requires.by_index.1 (l + y) (c.args.part.from + x) (omega (arith, n)) (omega (arith, n))),
    )

pub panel-requires : goal.panel-requires
panel-requires c =
    let n = terms (goal.at.panel-requires c).In-Some in
    let l = c.in-Some.l in
    let e = ap length c.scale.ensures ∙ length-update _ _ ∙ ap length c.pack.ensures ∙ length-update _ _ in record {
      room = omega (arith, n);
      r_nonzero = omega (arith, n, e);
      terms_nonzero = (omega (arith, n), omega (arith, n), upward _ _ (omega (arith, n)));
      by_index = λ i q hi hq. rw (along-up l q refl) (c.requires.by_index.0 i (l + q) hi (omega (arith, n)));
    }

pub loop-l-preserved : goal.loop-l-preserved
loop-l-preserved c =
    let t = turn c.next.ensures.steps c.in-Some.is in
    let n = terms (goal.at.loop-l-preserved c).In-Some in (
      omega arith,
      tt,
      omega arith,
      omega arith,
      rw t.next
          (masked-next _ _ (λ i j h. (within _ _ _ i j _ h).column) _ _ _ _ _ _ _ _ _ _ _ _ _ _ _ _ _ _ (omega (arith, n)) (omega (arith, n)) (omega (arith, n)) (sym (turn_up _ _ refl))
          (rw (sym t.first) at c.loop-l.invariant.4) c.pack.ensures c.scale.ensures c.panel.ensures.0),
    )

pub returns : goal.returns
unfolding product
returns c = let all = last c.next.ensures.steps c.in-None.is ∙ c.loop-l.invariant.2 in rw all at c.loop-l.invariant.4
