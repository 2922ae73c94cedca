-- `go` makes the steps one after the other: after each the machine has made as many.
use Prim.Native.Nat.{◌+◌, ◌*◌}
use mathlib.Core.Path.{ap}
use native.Mathlib.Omega.{arith}
use Rattle.definitions.specs.Sheet.{records, act}
use Rattle.definitions.specs.Run.{begin, after, steps_made, zero_reported}
use Rattle.definitions.proofs.Records.{act-stable}
use Rattle.records.specs.Judgement.{sheet_in, arrays_of}
use Rattle.records.proofs.Trailer.{sound-long, sound-room, long-enough}
use Rattle.sheet.proofs.Steps.{running-start, running-step, running-full, running-done, small-below}
use Rattle.sheet.proofs.go.Goals as goal

pub index-index-requires : goal.index-index-requires
index-index-requires c = sound-long (sheet_in c.args.sheet) c.requires.sound.0

pub count-count-requires : goal.count-count-requires
count-count-requires c = sound-long (sheet_in c.args.sheet) c.requires.sound.0

pub loop-steps-init : goal.loop-steps-init
loop-steps-init c = (running-start (records (sheet_in c.args.sheet)) (act (sheet_in c.args.sheet)) (act-stable (sheet_in c.args.sheet)) c.args.budget (begin (arrays_of c.args.x.now c.args.y.now c.args.z.now) c.args.answers.now c.args.from.p c.args.from.s) c.requires.placed.0, c.requires.placed.1)

pub returns-then-count-cursor : goal.returns-then-count-cursor
unfolding begin after steps_made zero_reported
returns-then-count-cursor c =
    let i = c.loop-steps.invariant.0 in
    let n = c.count-count.ensures in
    let h = running-done (records (sheet_in c.args.sheet)) (act (sheet_in c.args.sheet)) (act-stable (sheet_in c.args.sheet)) c.args.budget (begin (arrays_of c.args.x.now c.args.y.now c.args.z.now) c.args.answers.now c.args.from.p c.args.from.s) c.loop-steps.steps c.loop-steps.zero (begin (arrays_of c.loop-steps.x c.loop-steps.y c.loop-steps.z) c.loop-steps.answers c.loop-steps.cursor.p c.loop-steps.cursor.s) i (omega (arith, c.if-count-cursor.true, n.0)) in
    (h.0, h.1, h.2, omega (arith, i.placed.within, n), c.loop-steps.invariant.1, small-below _ _ _ i.small (omega (arith, n)))

pub invariant_of-here : goal.invariant_of-here
invariant_of-here c =
    let t = sheet_in c.args.sheet in
    let room = sound-room t (sound-long t c.requires.sound.0) c.requires.sound.0 in
    let long = long-enough t _ c.requires.sound.1 in
    let n = c.count-count.ensures.0 in
    let b = c.if-count-cursor.false in record {
      placed = (ap (λ i. i + 20 * c.loop-steps.cursor.p) c.index-index.ensures.0, omega (arith, c.index-index.ensures.0, n, b, room), omega (arith, n, b, long.1));
    }

pub step-next-requires-clause-answer : goal.step-next-requires-clause-answer
step-next-requires-clause-answer c =
    omega (arith, c.count-count.ensures.0, c.if-count-cursor.false, (long-enough (sheet_in c.args.sheet) _ c.requires.sound.1).0, c.loop-steps.auto.answers)

pub step-next-requires-clause-s_bound : goal.step-next-requires-clause-s_bound
unfolding begin
step-next-requires-clause-s_bound c = (λ z. (c.loop-steps.invariant.0.placed.at-strip z).1, c.loop-steps.invariant.1)

pub loop-steps-preserved : goal.loop-steps-preserved
unfolding begin
loop-steps-preserved c = (
  running-step (records (sheet_in c.args.sheet)) (act (sheet_in c.args.sheet)) (act-stable (sheet_in c.args.sheet)) c.args.budget (begin (arrays_of c.args.x.now c.args.y.now c.args.z.now) c.args.answers.now c.args.from.p c.args.from.s) c.loop-steps.steps c.loop-steps.zero _ _ (begin (arrays_of c.loop-steps.x c.loop-steps.y c.loop-steps.z) c.loop-steps.answers c.loop-steps.cursor.p c.loop-steps.cursor.s) _ c.loop-steps.invariant.0 c.loop-steps-test.true
      (omega (arith, c.if-count-cursor.false, c.count-count.ensures.0)) c.step-next.ensures.0 c.step-next.ensures.1 c.or-zero.ensures,
  c.step-next.ensures.2,
)

pub returns : goal.returns
unfolding begin after steps_made zero_reported
returns c =
    let i = c.loop-steps.invariant.0 in
    let n = c.count-count.ensures in
    let h = running-full (records (sheet_in c.args.sheet)) (act (sheet_in c.args.sheet)) (act-stable (sheet_in c.args.sheet)) c.args.budget (begin (arrays_of c.args.x.now c.args.y.now c.args.z.now) c.args.answers.now c.args.from.p c.args.from.s) c.loop-steps.steps c.loop-steps.zero (begin (arrays_of c.loop-steps.x c.loop-steps.y c.loop-steps.z) c.loop-steps.answers c.loop-steps.cursor.p c.loop-steps.cursor.s) i c.loop-steps-test.false in
    (h.0, h.1, h.2, omega (arith, i.placed.within, n), c.loop-steps.invariant.1, small-below _ _ _ i.small (omega (arith, n)))
