-- The shape of A, by the routine.
use Rattle.std.proofs.Common.{arith}
use Rattle.definitions.specs.Call.{shape_a}
use Rattle.arguments.proofs.shape_a.Goals as goal

pub returns-in-Gemm : goal.returns-in-Gemm
unfolding shape_a
returns-in-Gemm c = simp (c.stored_as.ensures, c.in-Gemm.is)

pub returns-in-Syrk : goal.returns-in-Syrk
unfolding shape_a
returns-in-Syrk c = grind (arith, c.in-Syrk.is, c.stored_as-in-Syrk.ensures)

pub returns-in-Symm : goal.returns-in-Symm
unfolding shape_a
returns-in-Symm c = grind (arith, c.in-Symm.is, c.square.ensures)
