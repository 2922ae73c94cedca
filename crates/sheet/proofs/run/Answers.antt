-- `run` is the run of the definitions.
use mathlib.Core.Path.{◌≡◌, sym, ap, ◌∙◌}
use lib.IntN.{negsuc}
use native.Mathlib.Omega.{arith}
use mir.Syntax.{w32}
use mir.Val.{to_z, of_z}
use mir.ValLaws.{to_z-of_z, to_z_pos}
use Rattle.definitions.specs.Check.{nat}
use Rattle.definitions.specs.Run.{begin, after, steps_made, zero_reported, run_refusal}
use Rattle.records.specs.Judgement.{sheet_of, arrays_of}
use Rattle.records.proofs.Judgements.{word_small}
use Rattle.sheet.specs.Lent.{ran_of}
use Rattle.sheet.proofs.Ends.{passed, run-refused, run-goes, placed_at}
use Rattle.sheet.proofs.run.Goals as goal
use Rattle.sheet.proofs.run.Goals.{After-size, After-size-2, In_default, Start}

cursor-is : (c : Start) → run_refusal (sheet_of c.args.sheet.now c.args.scalars.now) (arrays_of c.args.x.now c.args.y.now c.args.z.now) c.args.answers.now (to_z w32 (of_z w32 c.args.p)) (to_z w32 (of_z w32 c.args.s)) ≡ run_refusal (sheet_of c.args.sheet.now c.args.scalars.now) (arrays_of c.args.x.now c.args.y.now c.args.z.now) c.args.answers.now c.args.p c.args.s
cursor-is c = λ i. run_refusal (sheet_of c.args.sheet.now c.args.scalars.now) (arrays_of c.args.x.now c.args.y.now c.args.z.now) c.args.answers.now (to_z-of_z w32 c.args.p c.ranges.p i) (to_z-of_z w32 c.args.s c.ranges.s i)

none : (c : In_default) → run_refusal (sheet_of c.args.sheet.now c.args.scalars.now) (arrays_of c.args.x.now c.args.y.now c.args.z.now) c.args.answers.now c.args.p c.args.s ≡ 0
none c = sym (λ i. run_refusal (sheet_of c.args.sheet.now c.args.scalars.now) (arrays_of c.args.x.now c.args.y.now c.args.z.now) c.args.answers.now (to_z-of_z w32 c.args.p c.ranges.p i) (to_z-of_z w32 c.args.s c.ranges.s i)) ∙ c.in_default.ensures

p-is : (c : After-size) → c.size.result ≡ nat c.args.p
p-is c = c.size.ensures ∙ ap nat (to_z-of_z w32 c.args.p c.ranges.p)

s-is : (c : After-size-2) → c.size-2.result ≡ nat c.args.s
s-is c = c.size-2.ensures ∙ ap nat (to_z-of_z w32 c.args.s c.ranges.s)

pub returns-in-Some : goal.returns-in-Some
returns-in-Some c =
    let r = c.in-Some.ensures in
    (λ i. ran_of (record { number = to_z_pos w32 c.in-Some.number (omega (arith, r.2)) i; p = to_z-of_z w32 c.args.p c.ranges.p i; s = to_z-of_z w32 c.args.s c.ranges.s i; steps = 0; zero = negsuc 0 })
    (arrays_of c.args.x.now c.args.y.now c.args.z.now) c.args.answers.now)
    ∙ run-refused (sheet_of c.args.sheet.now c.args.scalars.now) (arrays_of c.args.x.now c.args.y.now c.args.z.now) c.args.answers.now c.args.p c.args.s c.args.budget _ (r.0 ∙ cursor-is (goal.at.returns-in-Some c).Start) r.1

pub go-went-requires-clause-sound : goal.go-went-requires-clause-sound
go-went-requires-clause-sound c =
    let h = passed (sheet_of c.args.sheet.now c.args.scalars.now) (arrays_of c.args.x.now c.args.y.now c.args.z.now) c.args.answers.now c.args.p c.args.s (none (goal.at.go-went-requires-clause-sound c).In_default) in
    (h.trailer, h.long)

pub go-went-requires-clause-placed : goal.go-went-requires-clause-placed
go-went-requires-clause-placed c =
    let at = goal.at.go-went-requires-clause-placed c in (
      placed_at (sheet_of c.args.sheet.now c.args.scalars.now) (arrays_of c.args.x.now c.args.y.now c.args.z.now) c.args.answers.now c.args.p c.args.s _ _ (p-is at.After-size) (s-is at.After-size-2) (passed (sheet_of c.args.sheet.now c.args.scalars.now) (arrays_of c.args.x.now c.args.y.now c.args.z.now) c.args.answers.now c.args.p c.args.s (none at.In_default)).cursor,
      omega (arith, c.size-2.ensures, word_small c.args.s c.ranges.s.sfits),
    )

pub returns : goal.returns
returns c =
    let at = goal.at.returns c in
    let t = sheet_of c.args.sheet.now c.args.scalars.now in
    let q = p-is at.After-size in
    let u = s-is at.After-size-2 in
    let w = c.go-went.ensures in
    run-goes (sheet_of c.args.sheet.now c.args.scalars.now) (arrays_of c.args.x.now c.args.y.now c.args.z.now) c.args.answers.now c.args.p c.args.s c.args.budget _ _ _ _ _ _ _ _ (to_z_pos w32 c.go-went.result.cursor.p w.3) (to_z_pos w32 c.go-went.result.cursor.s w.4) (none at.In_default)
    (w.0 ∙ (λ i. after t c.args.budget (begin (arrays_of c.args.x.now c.args.y.now c.args.z.now) c.args.answers.now (q i) (u i))))
    (w.1 ∙ (λ i. steps_made t c.args.budget (begin (arrays_of c.args.x.now c.args.y.now c.args.z.now) c.args.answers.now (q i) (u i))))
    (to_z-of_z w32 c.number_of.result (record { sfits = c.number_of.type_inv }) ∙ c.number_of.ensures ∙ w.2 ∙ (λ i. zero_reported t c.args.budget (begin (arrays_of c.args.x.now c.args.y.now c.args.z.now) c.args.answers.now (q i) (u i))))
