-- `sum_element` meets its contract: the terms beside the element are those that it has besides its own.
use Rattle.packing.specs.Factor.{along}
use Rattle.packing.proofs.FactorLaws.{upward}
use Rattle.forms.specs.Forms.{op_matrix}
use Rattle.lines.proofs.TriangleLaws.{run_room}
use Rattle.trmm_diagonal.proofs.DiagonalLaws.{diagonal-index}
use Rattle.trmm.proofs.ElementLaws.{element-summed}
use native.Mathlib.Omega.{arith}
use Rattle.trmm.proofs.sum_element.Goals as goal

pub pivot-w-requires : goal.pivot-w-requires
pivot-w-requires c = omega (arith, diagonal-index c.args.by.a.t c.args.by.a.ld c.args.i, c.requires.by_index _ _ c.requires.i_lt_m c.requires.i_lt_m)

pub element-requires : goal.element-requires
unfolding along
element-requires c = let args = c.args in
    let room = run_room args.by.after _ args.i _ _ c.pick-lo.ensures c.pick-count.ensures c.requires.i_lt_m in record {
      room = (c.requires.room, c.requires.i_lt_m, upward _ _ (omega (arith, room)), λ k h. omega (arith, room));
      by_index = c.requires.by_index;
    }

pub returns : goal.returns
returns c = let args = c.args in
    element-summed args.g.left args.by.alpha args.by.diag (op_matrix args.by.a) args.i args.by.after args.g.m c.requires.i_lt_m c.pivot-w.ensures c.start_of.ensures c.end_of.ensures c.pick-lo.ensures c.pick-count.ensures args.g.ld args.g.lines args.b.now _ c.element.ensures
