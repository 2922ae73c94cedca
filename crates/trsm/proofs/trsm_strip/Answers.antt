-- `trsm_strip` makes the strip that the definition of TRSM gives, on either side, and reports the zero that it gives.
use mathlib.Core.Bool.{true, false}
use mathlib.Core.Path.{refl, ◌∙◌}
use lib.ListN.{length}
use mir.Syntax.{w32}
use mir.ValLaws.{to_z-of_z}
use Rattle.definitions.specs.Call.{by_side, in_place}
use Rattle.definitions.specs.declared.Routine.TheVariants.{Trsm}
use Rattle.definitions.specs.declared.Side.TheVariants.{Left, Right}
use Rattle.lines.proofs.StripLaws.{LinesFit, left-fits, right-fits}
use Rattle.trsm.proofs.WayLaws.{way-left, way-right}
use Rattle.trsm.proofs.StripLaws.{left_is, right_is}
use Rattle.trsm.proofs.ReportLaws.{zero-small, zero-reported}
use native.Mathlib.Omega.{arith}
use Rattle.trsm.proofs.trsm_strip.Goals as goal
use Rattle.trsm.proofs.trsm_strip.Goals.{In-Left, In-Right}

fits-left : (c : In-Left) → LinesFit c.args.call true c.args.from c.args.call.m c.args.lines c.args.call.n (length c.args.a.now) (length c.args.b.now)
unfolding in_place
fits-left c =
    left-fits Trsm refl c.args.call (length c.args.a.now) (length c.args.b.now) _ c.args.from c.args.lines c.requires.by_index.1 (omega (arith, c.requires.lines_nonzero)) (omega (arith, c.requires.lines_nonzero)) c.in-Left.is

fits-right : (c : In-Right) → LinesFit c.args.call false c.args.from c.args.call.n c.args.lines c.args.call.m (length c.args.a.now) (length c.args.b.now)
unfolding in_place
fits-right c =
    right-fits Trsm refl c.args.call (length c.args.a.now) (length c.args.b.now) _ c.args.from c.args.lines c.requires.by_index.1 (omega (arith, c.requires.lines_nonzero)) (omega (arith, c.requires.lines_nonzero)) c.in-Right.is

pub solve_lines-requires : goal.solve_lines-requires
solve_lines-requires c =
    let k = fits-left (goal.at.solve_lines-requires c).In-Left in record {
      m_nonzero = (k.some, omega (arith, c.requires.lines_nonzero), omega (arith, c.requires.lines_nonzero), omega (arith, c.requires.lines_nonzero), omega (arith, c.requires.lines_nonzero));
      room = k.room;
      j_in_bounds = k.reads;
    }

pub report-requires : goal.report-requires
unfolding by_side
report-requires c = zero-small c.args.call Left c.in-Left.is c.args.a.now _ _ c.requires.by_index.1 _ _ c.solve_lines.ensures.1 (omega (arith, c.well_formed)) (fits-left (goal.at.report-requires c).In-Left).reads

pub solve_lines-requires-in-Right : goal.solve_lines-requires-in-Right
solve_lines-requires-in-Right c =
    let k = fits-right (goal.at.solve_lines-requires-in-Right c).In-Right in record {
      m_nonzero = (k.some, omega (arith, c.requires.lines_nonzero), omega (arith, c.requires.lines_nonzero), omega (arith, c.requires.lines_nonzero), omega (arith, c.requires.lines_nonzero));
      room = k.room;
      j_in_bounds = k.reads;
    }

pub report-requires-in-Right : goal.report-requires-in-Right
unfolding by_side
report-requires-in-Right c = zero-small c.args.call Right c.in-Right.is c.args.a.now _ _ c.requires.by_index.1 _ _ c.solve_lines-in-Right.ensures.1 (omega (arith, c.well_formed)) (fits-right (goal.at.report-requires-in-Right c).In-Right).reads

pub returns-in-Left : goal.returns-in-Left
unfolding by_side
returns-in-Left c =
    let g = c.args in
    let k = fits-left (goal.at.returns-in-Left c).In-Left in (
      λ b. left_is g.call g.a.now b g.from g.lines _ g.b.now _ c.requires.by_index.1.routine-is (way-left g.call.transa g.call.uplo c.op_lower-low.ensures c.in-Left.is) k.some-rows k.fit c.in-Left.is k.within c.solve_lines.ensures.0,
      to_z-of_z w32 c.report.result (record { sfits = c.report.type_inv }) ∙ c.report.ensures ∙ zero-reported g.call Left c.in-Left.is g.a.now _ _ c.requires.by_index.1 _ c.solve_lines.ensures.1,
    )

pub returns-in-Right : goal.returns-in-Right
unfolding by_side
returns-in-Right c =
    let g = c.args in
    let k = fits-right (goal.at.returns-in-Right c).In-Right in (
      λ b. right_is g.call g.a.now b g.from g.lines _ g.b.now _ c.requires.by_index.1.routine-is (way-right g.call.transa g.call.uplo c.op_lower-low.ensures c.in-Right.is) k.some-rows k.fit c.in-Right.is k.within c.solve_lines-in-Right.ensures.0,
      to_z-of_z w32 c.report-in-Right.result (record { sfits = c.report-in-Right.type_inv }) ∙ c.report-in-Right.ensures ∙ zero-reported g.call Right c.in-Right.is g.a.now _ _ c.requires.by_index.1 _ c.solve_lines-in-Right.ensures.1,
    )
