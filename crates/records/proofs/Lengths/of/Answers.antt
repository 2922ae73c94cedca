-- `of` is the length of the array with that number.
use native.Mathlib.Omega.{arith}
use borrow.Author.Tests.{ne_eqb}
use Rattle.records.specs.Judgement.{sizes}
use Rattle.records.proofs.Lengths.of.Goals as goal

pub returns-in-0 : goal.returns-in-0
unfolding sizes
returns-in-0 c = simp c.in-0.is

pub returns-in-1 : goal.returns-in-1
unfolding sizes
returns-in-1 c = simp c.in-1.is

pub returns-in_default : goal.returns-in_default
unfolding sizes
returns-in_default c = simp (ne_eqb c.args.n 0 (λ e. omega arith), ne_eqb c.args.n 1 (λ e. omega arith))
