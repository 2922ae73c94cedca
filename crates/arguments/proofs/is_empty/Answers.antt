-- `is_empty` tests that m or n is 0.
use Rattle.definitions.specs.Call.{empty}
use mathlib.Core.Path.{refl}
use Rattle.arguments.proofs.is_empty.Goals as goal

pub returns : goal.returns
unfolding empty
returns c = refl
