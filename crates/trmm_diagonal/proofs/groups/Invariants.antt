-- `groups` meets its contract: the elements of the groups before the next piece are done.
use mathlib.Core.Bool.{true, false}
use mathlib.Core.Path.{◌≡◌}
use Rattle.std.specs.Prelude.{if◌then◌else◌}
use Rattle.arrays.specs.Update.{update}
use Rattle.lines.specs.Lines.{grid}
use Rattle.trmm_diagonal.specs.Terms.{held_terms, done}
use Rattle.trmm_diagonal.proofs.groups.Given as goal

abbrev pub invariant-loop-j : goal.invariant-loop-j
invariant-loop-j l =
    (goal.iterator-loop-j).can_next l.j-iterator × (goal.iterator-loop-j).is_finite l.j-iterator × (l.j-iterator.end ≡ l.n) × (l.j-iterator.step ≡ 16)
    × (l.s ≡ update (grid false 64 l.n l.lines (λ q l' e. if done true l.n l.j-iterator.at q then held_terms l.after l.n l.u l.v q l' e else e)) l.initial.s)
