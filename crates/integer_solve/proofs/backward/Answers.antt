-- `backward` tests the triangle.
use mathlib.Core.Path.{◌≡◌, refl, ap, ◌∙◌}
use denote.Enum.Bare.{sameb}
use Rattle.definitions.specs.contracts.Triangle.{the_type}
use Rattle.definitions.specs.declared.Triangle.{Triangle}
use Rattle.definitions.specs.declared.Triangle.TheVariants.{Lower, Upper}
use Rattle.integer_solve.specs.Elimination.{triangle}
use Rattle.integer_solve.proofs.backward.Goals as goal

is-upper : (t : Triangle) → triangle (sameb the_type t Upper) ≡ t
unfolding triangle
is-upper Lower = refl
is-upper Upper = refl

pub returns : goal.returns
returns c = ap triangle c.eq.ensures ∙ is-upper c.args.t
