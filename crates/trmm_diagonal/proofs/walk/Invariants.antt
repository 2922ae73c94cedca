-- `walk` meets its contract: the elements before j are done.
use mathlib.Core.Bool.{false}
use mathlib.Core.Path.{◌≡◌}
use Rattle.arrays.specs.Update.{update}
use Rattle.lines.specs.Lines.{grid}
use Rattle.trmm_diagonal.specs.Terms.{held_terms}
use Rattle.trmm_diagonal.proofs.walk.Given as goal

abbrev pub invariant-loop-j : goal.invariant-loop-j
invariant-loop-j l = l.s ≡ update (grid false 64 l.j l.lines (λ q l' e. held_terms l.after l.n l.u l.v q l' e)) l.initial.s
