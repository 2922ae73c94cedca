-- The shape of C, by the routine.
use Rattle.std.proofs.Common.{arith}
use Rattle.definitions.specs.Call.{shape_c}
use Rattle.arguments.proofs.shape_c.Goals as goal

pub returns-in-Gemm : goal.returns-in-Gemm
unfolding shape_c
returns-in-Gemm c = grind (arith, c.in-Gemm.is)

pub returns-in-Syrk : goal.returns-in-Syrk
unfolding shape_c
returns-in-Syrk c = grind (arith, c.in-Syrk.is)

pub returns-in-Trmm : goal.returns-in-Trmm
unfolding shape_c
returns-in-Trmm c = grind (arith, c.in-Trmm.is)
