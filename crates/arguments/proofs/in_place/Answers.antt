-- TRMM and TRSM write over B.
use Rattle.std.proofs.Common.{arith}
use Rattle.definitions.specs.Call.{in_place}
use Rattle.arguments.proofs.in_place.Goals as goal

pub returns-in-Trmm : goal.returns-in-Trmm
unfolding in_place
returns-in-Trmm c = grind (arith, c.in-Trmm.is)

pub returns-in_default : goal.returns-in_default
unfolding in_place
returns-in_default c = grind (arith, c.in_default.not-Trmm, c.in_default.not-Trsm)
