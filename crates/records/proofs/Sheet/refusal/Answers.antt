-- `refusal` goes through the tests of a run in their order.
use mathlib.Core.Path.{◌≡◌, sym, ◌∙◌}
use mathlib.Core.Bool.{true, false, not}
use native.Mathlib.Omega.{arith}
use borrow.Author.Tests.{not-false}
use mir.Syntax.{w32}
use mir.ValLaws.{to_z-of_z}
use Rattle.definitions.specs.Sheet.{sound}
use Rattle.definitions.specs.Run.{bad_cursor}
use Rattle.records.specs.Judgement.{sheet_in, arrays_in}
use Rattle.records.proofs.Trailer.{sound-long, long-enough, refused-34, refused-35, refused-36, not-refused}
use Rattle.records.proofs.Sheet.refusal.Goals as goal
use Rattle.records.proofs.Sheet.refusal.Goals.{After-bad_cursor, Else-bad_trailer}

trailer : (c : Else-bad_trailer) → not (sound (sheet_in c.args.self)) ≡ false
trailer c = sym c.bad_trailer.ensures ∙ c.if-bad_trailer.false

sound-is : (c : Else-bad_trailer) → sound (sheet_in c.args.self) ≡ true
sound-is c = not-false _ (sym c.bad_trailer.ensures ∙ c.if-bad_trailer.false)

cursor-is : (c : After-bad_cursor) → c.bad_cursor.result ≡ bad_cursor (sheet_in c.args.self) (arrays_in c.args.arrays) c.args.p c.args.s
cursor-is c =
    c.bad_cursor.ensures ∙ (λ i. bad_cursor (sheet_in c.args.self) (arrays_in c.args.arrays) (to_z-of_z w32 c.args.p c.ranges.p i) (to_z-of_z w32 c.args.s c.ranges.s i))

pub returns-then-bad_trailer : goal.returns-then-bad_trailer
returns-then-bad_trailer c =
    (refused-34 (sheet_in c.args.self) (arrays_in c.args.arrays) c.args.answers.now c.args.p c.args.s (sym c.bad_trailer.ensures ∙ c.if-bad_trailer.true), omega arith, omega arith)

pub too_short-requires : goal.too_short-requires
too_short-requires c = sound-long (sheet_in c.args.self) (sound-is (goal.at.too_short-requires c).Else-bad_trailer)

pub returns-then-too_short : goal.returns-then-too_short
returns-then-too_short c = (
  refused-35 (sheet_in c.args.self) (arrays_in c.args.arrays) c.args.answers.now c.args.p c.args.s (trailer (goal.at.returns-then-too_short c).Else-bad_trailer)
      (sym c.too_short.ensures ∙ c.if-too_short.true),
  omega arith,
  omega arith,
)

pub bad_cursor-requires : goal.bad_cursor-requires
bad_cursor-requires c = record {
  sound = sound-is (goal.at.bad_cursor-requires c).Else-bad_trailer;
  scalars = (long-enough (sheet_in c.args.self) c.args.answers.now (sym c.too_short.ensures ∙ c.if-too_short.false)).1;
}

pub returns-then-bad_cursor : goal.returns-then-bad_cursor
returns-then-bad_cursor c =
    let at = goal.at.returns-then-bad_cursor c in (
      refused-36 (sheet_in c.args.self) (arrays_in c.args.arrays) c.args.answers.now c.args.p c.args.s (trailer at.Else-bad_trailer)
          (sym c.too_short.ensures ∙ c.if-too_short.false) (sym (cursor-is at.After-bad_cursor) ∙ c.if-bad_cursor.true),
      omega arith,
      omega arith,
    )

pub returns : goal.returns
returns c =
    let at = goal.at.returns c in
    not-refused (sheet_in c.args.self) (arrays_in c.args.arrays) c.args.answers.now c.args.p c.args.s (trailer at.Else-bad_trailer)
    (sym c.too_short.ensures ∙ c.if-too_short.false) (sym (cursor-is at.After-bad_cursor) ∙ c.if-bad_cursor.false)
