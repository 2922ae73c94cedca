-- `step` does what the tests of its record come to.
use Prim.Native.Nat.{suc, ◌+◌, ◌*◌, ◌^◌, ◌<◌}
use mathlib.Core.Path.{refl, ap, subst, ◌∙◌}
use mathlib.Core.Bool.{not}
use lib.IntN.{ℤ}
use lib.ListN.{set}
use mir.Syntax.{w32}
use mir.ValLaws.{to_z_pos}
use Rattle.definitions.specs.Call.{extent}
use Rattle.definitions.specs.Check.{negative}
use Rattle.definitions.specs.Sheet.{width_of}
use Rattle.definitions.specs.Run.{begin}
use Rattle.definitions.proofs.Strips.{strips-positive}
use Rattle.records.specs.Judgement.{sheet_in, arrays_of, extent_of}
use Rattle.records.specs.declared.Judged.{Judged}
use Rattle.records.proofs.Acts.{Known, number_small, step-rejected, rejected-counts, accepted-step, accepted-strips, none-act, work-act, none-known, none-strip, none-reports, work-known, work-ready, work-begins, strip-small}
use Rattle.sheet.proofs.Strips.{record-lends, record-strip, record-zero}
use Rattle.sheet.proofs.Steps.{strip-now, next_small}
use native.Mathlib.Omega.{arith}
use Rattle.sheet.proofs.step.Goals as goal
use Rattle.sheet.proofs.step.Goals.{In-NoWork, In-Work}

idle : (c : In-NoWork) → Known (sheet_in c.args.here.sheet) c.args.here.p (arrays_of c.args.x.now c.args.y.now c.args.z.now) c.judge.result c.judge.ensures.0 c.in-NoWork.call
idle c = none-known (sheet_in c.args.here.sheet) c.args.here.p (arrays_of c.args.x.now c.args.y.now c.args.z.now) c.judge.result c.judge.ensures.0 _ c.in-NoWork.is

known : (c : In-Work) → Known (sheet_in c.args.here.sheet) c.args.here.p (arrays_of c.args.x.now c.args.y.now c.args.z.now) c.judge.result c.judge.ensures.0 c.in-Work.call
known c = work-known (sheet_in c.args.here.sheet) c.args.here.p (arrays_of c.args.x.now c.args.y.now c.args.z.now) c.judge.result c.judge.ensures.0 _ c.in-Work.is

-- strip s begins below the extent
begins : (c : In-Work) → c.args.s * width_of (sheet_in c.args.here.sheet) c.args.here.p < extent c.in-Work.call
begins c =
    let wide = (work-known (sheet_in c.args.here.sheet) c.args.here.p (arrays_of c.args.x.now c.args.y.now c.args.z.now) c.judge.result c.judge.ensures.0 _ c.in-Work.is).wide.0 in
    work-begins (sheet_in c.args.here.sheet) c.args.here.p (arrays_of c.args.x.now c.args.y.now c.args.z.now) c.judge.result c.judge.ensures.0 _ _ _ c.in-Work.is wide
    (strip-now c.args.s _ _ c.requires.s_bound.0 (accepted-strips (sheet_in c.args.here.sheet) c.args.here.p (arrays_of c.args.x.now c.args.y.now c.args.z.now) c.judge.result c.judge.ensures.0 _ _ refl (work-act (sheet_in c.args.here.sheet) c.args.here.p (arrays_of c.args.x.now c.args.y.now c.args.z.now) c.judge.result c.judge.ensures.0 _ c.in-Work.is)) (strips-positive _ _ wide))

pub overflow_cast-answers : goal.overflow_cast-answers
overflow_cast-answers c = record {
  sfits = omega (arith, number_small (sheet_in c.args.here.sheet) c.args.here.p (arrays_of c.args.x.now c.args.y.now c.args.z.now) c.judge.result c.judge.ensures.0 _ c.in-Rejected.is);
}

pub strips-n-requires : goal.strips-n-requires
strips-n-requires c = omega (arith, c.width.ensures, (idle (goal.at.strips-n-requires c).In-NoWork).wide)

pub strips-n-requires-in-Work : goal.strips-n-requires-in-Work
strips-n-requires-in-Work c = omega (arith, c.width-in-Work.ensures, (known (goal.at.strips-n-requires-in-Work c).In-Work).wide)

pub work-zero-requires-clause-lends : goal.work-zero-requires-clause-lends
work-zero-requires-clause-lends c =
    let k = known (goal.at.work-zero-requires-clause-lends c).In-Work in
    record-lends (sheet_in c.args.here.sheet) c.args.here.p (arrays_of c.args.x.now c.args.y.now c.args.z.now) _ c.in-Work.call k.accepts k.call-is (work-ready (sheet_in c.args.here.sheet) c.args.here.p (arrays_of c.args.x.now c.args.y.now c.args.z.now) c.judge.result c.judge.ensures.0 _ c.in-Work.is)

pub work-zero-requires-clause-width : goal.work-zero-requires-clause-width
work-zero-requires-clause-width c =
    let at = goal.at.work-zero-requires-clause-width c in
    ((known at.In-Work).wide.0, (known at.In-Work).wide.1, begins at.In-Work)

pub work-zero-requires-clause-block : goal.work-zero-requires-clause-block
work-zero-requires-clause-block c = (known (goal.at.work-zero-requires-clause-block c).In-Work).blocks

pub returns-in-Rejected : goal.returns-in-Rejected
returns-in-Rejected c =
    let small = number_small (sheet_in c.args.here.sheet) c.args.here.p (arrays_of c.args.x.now c.args.y.now c.args.z.now) c.judge.result c.judge.ensures.0 _ c.in-Rejected.is in (
      ap (λ (z : ℤ). begin (arrays_of c.args.x.now c.args.y.now c.args.z.now) (set c.args.answers.now c.args.here.p z) (c.args.here.p + 1) 0) (to_z_pos w32 c.in-Rejected.number (omega (arith, small)))
          ∙ step-rejected (sheet_in c.args.here.sheet) c.args.here.p (arrays_of c.args.x.now c.args.y.now c.args.z.now) c.judge.result c.judge.ensures.0 _ c.in-Rejected.is c.args.answers.now c.args.s,
      rejected-counts (sheet_in c.args.here.sheet) c.args.here.p (arrays_of c.args.x.now c.args.y.now c.args.z.now) c.judge.result c.judge.ensures.0 _ c.in-Rejected.is _,
      omega arith,
    )

pub returns-in-NoWork : goal.returns-in-NoWork
unfolding extent_of
returns-in-NoWork c =
    let h = c.in-NoWork.is in
    let k = idle (goal.at.returns-in-NoWork c).In-NoWork in
    let e = c.width.ensures in
    let a = accepted-step (sheet_in c.args.here.sheet) c.args.here.p (arrays_of c.args.x.now c.args.y.now c.args.z.now) c.judge.result c.judge.ensures.0 _ _ e (none-act (sheet_in c.args.here.sheet) c.args.here.p (arrays_of c.args.x.now c.args.y.now c.args.z.now) c.judge.result c.judge.ensures.0 _ h) _ c.strips-n.ensures _ _ _ (c.advance.ensures.0 _ _ (arrays_of c.args.x.now c.args.y.now c.args.z.now) (arrays_of c.args.x.now c.args.y.now c.args.z.now) (none-strip (sheet_in c.args.here.sheet) c.args.here.p (arrays_of c.args.x.now c.args.y.now c.args.z.now) c.judge.result c.judge.ensures.0 _ h c.args.s) (none-reports (sheet_in c.args.here.sheet) c.args.here.p (arrays_of c.args.x.now c.args.y.now c.args.z.now) c.judge.result c.judge.ensures.0 _ h)) in (
      a.0,
      a.1,
      next_small _ _ _ _ c.advance.ensures.1
          (λ b. strip-small _ _ _ _ (omega (arith, e, k.wide)) (subst (λ (v : Judged). extent_of v < 2 ^ 31) h c.judge.ensures.1) (subst (λ n. suc c.args.s < n) c.strips-n.ensures b)) (omega arith),
    )

pub returns-in-Work : goal.returns-in-Work
unfolding extent_of
returns-in-Work c =
    let h = c.in-Work.is in
    let k = known (goal.at.returns-in-Work c).In-Work in
    let e = c.width-in-Work.ensures in
    let made = c.work-zero.ensures.0
    ∙ record-strip (sheet_in c.args.here.sheet) c.args.here.p (arrays_of c.args.x.now c.args.y.now c.args.z.now) _ c.in-Work.call k.accepts k.call-is (work-ready (sheet_in c.args.here.sheet) c.args.here.p (arrays_of c.args.x.now c.args.y.now c.args.z.now) c.judge.result c.judge.ensures.0 _ h) c.args.s _ (begins (goal.at.returns-in-Work c).In-Work) in
    let zero = c.work-zero.ensures.1 ∙ ap (λ z. not (negative z)) (record-zero (sheet_in c.args.here.sheet) c.args.here.p (arrays_of c.args.x.now c.args.y.now c.args.z.now) c.in-Work.call) in
    let a = accepted-step (sheet_in c.args.here.sheet) c.args.here.p (arrays_of c.args.x.now c.args.y.now c.args.z.now) c.judge.result c.judge.ensures.0 _ _ e (work-act (sheet_in c.args.here.sheet) c.args.here.p (arrays_of c.args.x.now c.args.y.now c.args.z.now) c.judge.result c.judge.ensures.0 _ h) _ c.strips-n-in-Work.ensures _ _ _ (c.advance-in-Work.ensures.0 _ _ (arrays_of c.args.x.now c.args.y.now c.args.z.now) _ made zero) in (
      a.0,
      a.1,
      next_small _ _ _ _ c.advance-in-Work.ensures.1
          (λ b. strip-small _ _ _ _ (omega (arith, e, k.wide)) (subst (λ (v : Judged). extent_of v < 2 ^ 31) h c.judge.ensures.1) (subst (λ n. suc c.args.s < n) c.strips-n-in-Work.ensures b)) (omega arith),
    )
