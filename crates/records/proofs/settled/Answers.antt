-- `settled` by the answer of the check.
use Rattle.records.specs.Judgement.{settled}
use Rattle.records.proofs.settled.Goals as goal

pub returns-in-Refused : goal.returns-in-Refused
unfolding settled
returns-in-Refused c = simp c.in-Refused.is

pub returns-in-Idle : goal.returns-in-Idle
unfolding settled
returns-in-Idle c = simp c.in-Idle.is

pub returns-in-Ready : goal.returns-in-Ready
unfolding settled
returns-in-Ready c = simp c.in-Ready.is
