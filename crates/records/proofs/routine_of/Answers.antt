-- `routine_of` by the number.
use mathlib.Core.Path.{◌≡◌, sym, ap, ◌∙◌}
use native.Mathlib.Omega.{arith}
use mir.Syntax.{w32}
use mir.ValLaws.{to_z-of_z}
use Rattle.definitions.specs.Check.{nat}
use Rattle.records.proofs.Judgements.{routine-numbered, routine-none}
use Rattle.records.proofs.routine_of.Goals as goal
use Rattle.records.proofs.routine_of.Goals.{After-size}

number : (c : After-size) → nat c.args.code ≡ c.size.result
number c = sym (c.size.ensures ∙ ap nat (to_z-of_z w32 c.args.code c.ranges.code))

pub returns-in-1 : goal.returns-in-1
returns-in-1 c = routine-numbered c.args.code 0 (number (goal.at.returns-in-1 c).After-size ∙ c.in-1.is)

pub returns-in-2 : goal.returns-in-2
returns-in-2 c = routine-numbered c.args.code 1 (number (goal.at.returns-in-2 c).After-size ∙ c.in-2.is)

pub returns-in-3 : goal.returns-in-3
returns-in-3 c = routine-numbered c.args.code 2 (number (goal.at.returns-in-3 c).After-size ∙ c.in-3.is)

pub returns-in-4 : goal.returns-in-4
returns-in-4 c = routine-numbered c.args.code 3 (number (goal.at.returns-in-4 c).After-size ∙ c.in-4.is)

pub returns-in-5 : goal.returns-in-5
returns-in-5 c = routine-numbered c.args.code 4 (number (goal.at.returns-in-5 c).After-size ∙ c.in-5.is)

pub returns-in-6 : goal.returns-in-6
returns-in-6 c = routine-numbered c.args.code 5 (number (goal.at.returns-in-6 c).After-size ∙ c.in-6.is)

pub returns-in_default : goal.returns-in_default
returns-in_default c = routine-none c.args.code (let n : nat c.args.code ≡ c.size.result = number (goal.at.returns-in_default c).After-size in λ h. omega arith)
