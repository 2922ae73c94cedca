-- `output` by the routine.
use native.Mathlib.Omega.{arith}
use Rattle.definitions.specs.Call.{in_place}
use Rattle.definitions.specs.Sheet.{output}
use Rattle.records.proofs.output.Goals as goal

pub returns-in-Gemm : goal.returns-in-Gemm
unfolding output in_place
returns-in-Gemm c = (grind (arith, c.in-Gemm.is), omega arith)

pub returns-in-Trmm : goal.returns-in-Trmm
unfolding output in_place
returns-in-Trmm c = (grind (arith, c.in-Trmm.is), omega arith)
