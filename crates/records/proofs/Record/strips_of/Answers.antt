-- `strips_of` counts the strips of an accepted record.
use mathlib.Core.Path.{sym, ◌∙◌}
use native.Mathlib.Omega.{arith}
use Rattle.records.specs.Judgement.{arrays_in}
use Rattle.records.proofs.Acts.{rejected-strips, accepted-strips, taken-act, taken-known}
use Rattle.records.proofs.Record.strips_of.Goals as goal

pub strips-requires : goal.strips-requires
strips-requires c = omega (arith, c.width.ensures, (taken-known _ _ (arrays_in c.args.arrays) _ c.judge.ensures.0 _ c.in-NoWork.is).wide)

pub returns-in-Rejected : goal.returns-in-Rejected
returns-in-Rejected c = rejected-strips _ _ (arrays_in c.args.arrays) _ c.judge.ensures.0 _ c.in-Rejected.is

pub returns-in-NoWork : goal.returns-in-NoWork
returns-in-NoWork c =
    let v = c.judge.ensures.0 in
    c.strips.ensures ∙ sym (accepted-strips _ _ (arrays_in c.args.arrays) _ v _ _ c.width.ensures (taken-act _ _ (arrays_in c.args.arrays) _ v _ c.in-NoWork.is))
