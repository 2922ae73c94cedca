-- Each row holds the places that the definitions give to the arguments: a computed test for each routine.
use Rattle.std.proofs.Common.{arith}
use Rattle.definitions.specs.Check.{places, arrays}
use Rattle.definitions.proofs.CheckLaws.{column, place_in}
use Rattle.arguments.specs.Tests.{codes, sizes, leading, lengths, words, columns, row_of}
use Rattle.arguments.proofs.places.Goals as goal

pub returns-in-Gemm : goal.returns-in-Gemm
unfolding row_of columns words codes sizes leading lengths column place_in places arrays
returns-in-Gemm c = simp c.in-Gemm.is

pub returns-in-Symm : goal.returns-in-Symm
unfolding row_of columns words codes sizes leading lengths column place_in places arrays
returns-in-Symm c = simp c.in-Symm.is

pub returns-in-Syrk : goal.returns-in-Syrk
unfolding row_of columns words codes sizes leading lengths column place_in places arrays
returns-in-Syrk c = simp c.in-Syrk.is

pub returns-in-Syr2k : goal.returns-in-Syr2k
unfolding row_of columns words codes sizes leading lengths column place_in places arrays
returns-in-Syr2k c = simp c.in-Syr2k.is

pub returns-in-Trmm : goal.returns-in-Trmm
unfolding row_of columns words codes sizes leading lengths column place_in places arrays
returns-in-Trmm c = grind (arith, c.in-Trmm.is)
