-- `judge` goes through the tests of a record in their order.
use Prim.Native.Nat.{◌^◌, ◌<◌}
use mathlib.Core.Path.{◌≡◌, sym, ap, ap₂, subst, ◌∙◌}
use mathlib.Core.Option.{some}
use native.Mathlib.Omega.{arith}
use Rattle.definitions.specs.Check.{call_of, checked}
use Rattle.definitions.specs.Sheet.{field, routine_of}
use Rattle.records.specs.Judgement.{sheet_in, settled, extent_of}
use Rattle.records.specs.declared.Judged.{Judged}
use Rattle.records.proofs.Judgements.{word-is, judged-31, judged-32, judged-33, judged-direct, extent-small}
use Rattle.records.proofs.Record.judge.Goals as goal
use Rattle.records.proofs.Record.judge.Goals.{In-Some}

routine-is : (c : In-Some) → routine_of (field (sheet_in c.args.self.sheet) c.args.self.p 0) ≡ some c.in-Some.f
routine-is c = ap routine_of (sym (word-is c.word.result _ c.word.type_inv c.word.ensures)) ∙ c.in-Some.ensures

pub returns-in_default : goal.returns-in_default
unfolding extent_of
returns-in_default c =
    (judged-31 (sheet_in c.args.self.sheet) c.args.self.p _ (ap routine_of (sym (word-is c.word.result _ c.word.type_inv c.word.ensures)) ∙ c.in_default.ensures), omega arith)

pub returns-then-bad_arrays : goal.returns-then-bad_arrays
unfolding extent_of
returns-then-bad_arrays c =
    (judged-32 (sheet_in c.args.self.sheet) c.args.self.p _ _ (routine-is (goal.at.returns-then-bad_arrays c).In-Some) (sym c.bad_arrays.ensures ∙ c.if-bad_arrays.true), omega arith)

pub returns-then-bad_offsets : goal.returns-then-bad_offsets
unfolding extent_of
returns-then-bad_offsets c = (
  judged-33 (sheet_in c.args.self.sheet) c.args.self.p _ _ (routine-is (goal.at.returns-then-bad_offsets c).In-Some)
      (sym c.bad_arrays.ensures ∙ c.if-bad_arrays.false) (sym c.bad_offsets.ensures ∙ c.if-bad_offsets.true),
  omega arith,
)

pub returns : goal.returns
returns c =
    let w = word-is c.word-2.result _ c.word-2.type_inv c.word-2.ensures in
    let r = word-is c.word-3.result _ c.word-3.type_inv c.word-3.ensures in
    let g = c.args_of-g.ensures.0 in (
      c.settled.ensures
          ∙ ap₂ settled (c.check-answer.ensures ∙ (λ i. checked (w i) (r i) (g i))) (c.call_of.ensures ∙ ap call_of g)
          ∙ judged-direct (sheet_in c.args.self.sheet) c.args.self.p _ _ (routine-is (goal.at.returns c).In-Some)
          (sym c.bad_arrays.ensures ∙ c.if-bad_arrays.false) (sym c.bad_offsets.ensures ∙ c.if-bad_offsets.false),
      subst (λ (v : Judged). extent_of v < 2 ^ 31) (sym (c.settled.ensures ∙ ap₂ settled c.check-answer.ensures c.call_of.ensures))
          (extent-small _ _ _ c.args_of-g.ensures.1 c.args_of-g.ensures.2),
    )
