-- Strips cut rows for TRMM and TRSM of side R.
use mathlib.Core.Path.{◌≡◌, refl}
use mathlib.Core.Bool.{false, true}
use denote.Enum.Bare.{sameb}
use Rattle.definitions.specs.contracts.Side.{the_type}
use Rattle.definitions.specs.declared.Side.{Side}
use Rattle.definitions.specs.declared.Side.TheVariants.{Left, Right}
use Rattle.std.proofs.Common.{arith}
use Rattle.definitions.specs.Call.{by_side, cuts_rows}
use Rattle.arguments.proofs.cuts_rows.Goals as goal

is-right : (s : Side) → sameb the_type s Right ≡ by_side s false true
unfolding by_side
is-right Left = refl
is-right Right = refl

pub returns : goal.returns
unfolding cuts_rows
returns c = grind (arith, is-right)
