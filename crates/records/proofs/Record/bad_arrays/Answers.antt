-- `bad_arrays` tests the words of the array numbers.
use mathlib.Core.Path.{ap, ◌∙◌}
use Rattle.definitions.specs.Sheet.{field}
use Rattle.records.specs.Judgement.{sheet_in, bad_numbers}
use Rattle.records.proofs.Judgements.{word-is, numbers-are}
use Rattle.records.proofs.Record.bad_arrays.Goals as goal

pub returns : goal.returns
returns c =
    let t = sheet_in c.args.self.sheet in
    let p = c.args.self.p in
    let out = word-is c.word-out.result _ c.word-out.type_inv (c.word-out.ensures ∙ ap (field t p) c.output.ensures.0) in
    let a = word-is c.word-a.result _ c.word-a.type_inv c.word-a.ensures in
    let b = word-is c.word-b.result _ c.word-b.type_inv (c.word-b.ensures ∙ ap (field t p) c.second.ensures.0) in
    c.bad_numbers.ensures ∙ (λ i. bad_numbers (out i) (a i) (b i)) ∙ numbers-are t p c.args.routine
