-- `trmm::trmm_strip` makes the strip that TRMM's definition gives.
use mathlib.Core.Path.{refl}
use lib.ListN.{length}
use Rattle.definitions.specs.Call.{in_place}
use Rattle.definitions.specs.declared.Routine.TheVariants.{Trmm}
use Rattle.lines.proofs.StripLaws.{left-fits, right-fits}
use Rattle.trmm.proofs.StripLaws.{strip-left, strip-right}
use Rattle.trmm.proofs.trmm_strip.Goals as goal

pub multiply_lines-requires : goal.multiply_lines-requires
unfolding in_place
multiply_lines-requires c =
    let g = c.args in
    let f = c.requires.by_index.1 in
    let p = c.requires.lines_nonzero in
    let k = left-fits Trmm refl g.call (length g.a.now) (length g.b.now) _ g.from g.lines f p.0 p.2 c.in-Left.is in record {
      m_nonzero = (k.some, p.0, p.1, p.3, p.4);
      room = k.room;
      j_in_bounds = k.reads;
    }

pub multiply_lines-requires-in-Right : goal.multiply_lines-requires-in-Right
unfolding in_place
multiply_lines-requires-in-Right c =
    let g = c.args in
    let f = c.requires.by_index.1 in
    let p = c.requires.lines_nonzero in
    let k = right-fits Trmm refl g.call (length g.a.now) (length g.b.now) _ g.from g.lines f p.0 p.2 c.in-Right.is in record {
      m_nonzero = (k.some, p.0, p.1, p.3, p.4);
      room = k.room;
      j_in_bounds = k.reads;
    }

pub returns-in-Left : goal.returns-in-Left
unfolding in_place
returns-in-Left c =
    let g = c.args in
    let f = c.requires.by_index.1 in
    let p = c.requires.lines_nonzero in
    let k = left-fits Trmm refl g.call (length g.a.now) (length g.b.now) _ g.from g.lines f p.0 p.2 c.in-Left.is in
    λ b. strip-left g.call g.from g.lines _ _ f.routine-is g.a.now b _ c.op_lower-low.ensures g.b.now _ c.in-Left.is k c.multiply_lines.ensures

pub returns-in-Right : goal.returns-in-Right
unfolding in_place
returns-in-Right c =
    let g = c.args in
    let f = c.requires.by_index.1 in
    let p = c.requires.lines_nonzero in
    let k = right-fits Trmm refl g.call (length g.a.now) (length g.b.now) _ g.from g.lines f p.0 p.2 c.in-Right.is in
    λ b. strip-right g.call g.from g.lines _ _ f.routine-is g.a.now b _ c.op_lower-low.ensures g.b.now _ c.in-Right.is k c.multiply_lines-in-Right.ensures
