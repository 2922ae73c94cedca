-- The shape of B, by the routine.
use Rattle.std.proofs.Common.{arith}
use Rattle.definitions.specs.Call.{shape_b}
use Rattle.arguments.proofs.shape_b.Goals as goal

pub returns-in-Gemm : goal.returns-in-Gemm
unfolding shape_b
returns-in-Gemm c = simp (c.stored_as.ensures, c.in-Gemm.is)

pub returns-in-Syrk : goal.returns-in-Syrk
unfolding shape_b
returns-in-Syrk c = simp c.in-Syrk.is

pub returns-in-Syr2k : goal.returns-in-Syr2k
unfolding shape_b
returns-in-Syr2k c = simp (c.stored_as-in-Syr2k.ensures, c.in-Syr2k.is)

pub returns-in-Symm : goal.returns-in-Symm
unfolding shape_b
returns-in-Symm c = grind (arith, c.in-Symm.is)
