-- `bad_offsets` tests the words of the offsets.
use Prim.Native.Nat.{◌+◌}
use mathlib.Core.Path.{ap, ◌∙◌}
use mathlib.Core.Bool.{◌||◌}
use Rattle.definitions.specs.Sheet.{field}
use Rattle.records.specs.Judgement.{sheet_in, sizes, bad_offset}
use Rattle.records.proofs.Judgements.{word-is, offsets_are}
use Rattle.records.proofs.Record.bad_offsets.Goals as goal

pub returns : goal.returns
returns c =
    let t = sheet_in c.args.self.sheet in
    let p = c.args.self.p in
    let size = sizes c.args.lengths in
    let o = c.output-o.ensures.0 in
    let s = c.second-s.ensures.0 in
    let out = word-is c.word.result _ c.word.type_inv (c.word.ensures ∙ ap (field t p) o) in
    let out' = word-is c.word-2.result _ c.word-2.type_inv (c.word-2.ensures ∙ ap (λ n. field t p (n + 1)) o) in
    let a = word-is c.word-3.result _ c.word-3.type_inv c.word-3.ensures in
    let a' = word-is c.word-4.result _ c.word-4.type_inv c.word-4.ensures in
    let b = word-is c.word-5.result _ c.word-5.type_inv (c.word-5.ensures ∙ ap (field t p) s) in
    let b' = word-is c.word-6.result _ c.word-6.type_inv (c.word-6.ensures ∙ ap (λ n. field t p (n + 1)) s) in
    let x = c.bad_offset-out.ensures ∙ (λ i. bad_offset size (out i) (out' i)) in
    let y = c.bad_offset-a.ensures ∙ (λ i. bad_offset size (a i) (a' i)) in
    let z = c.bad_offset-b.ensures ∙ (λ i. bad_offset size (b i) (b' i)) in
    (λ i. x i || (y i || z i)) ∙ offsets_are t p size c.args.routine
