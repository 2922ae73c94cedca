-- `matrices` are those of the record's routine.
use mathlib.Core.Path.{ap, ◌∙◌}
use Rattle.records.specs.Judgement.{sheet_in, part_at, matrices_of}
use Rattle.records.proofs.Record.matrices.Goals as goal

pub returns : goal.returns
unfolding matrices_of
returns c = λ i. record {
  out = (c.part.ensures ∙ ap (part_at (sheet_in c.args.self.sheet) c.args.self.p) c.output.ensures.0) i;
  a = c.part-2.ensures i;
  b = (c.part-3.ensures ∙ ap (part_at (sheet_in c.args.self.sheet) c.args.self.p) c.second.ensures.0) i;
}
