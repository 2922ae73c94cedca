-- Which routines have a k.
use Rattle.std.proofs.Common.{arith}
use Rattle.definitions.specs.Call.{has_k}
use Rattle.arguments.proofs.has_k.Goals as goal

pub returns-in-Gemm : goal.returns-in-Gemm
unfolding has_k
returns-in-Gemm c = grind (arith, c.in-Gemm.is)

pub returns-in_default : goal.returns-in_default
unfolding has_k
returns-in_default c = grind (arith, c.in_default.not-Gemm, c.in_default.not-Syrk, c.in_default.not-Syr2k)
