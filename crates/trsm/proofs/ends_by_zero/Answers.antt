-- `ends_by_zero` meets its contract, by cases on the diagonal.
use lib.Ieee.{of_bits}
use Rattle.definitions.specs.Element.{by_zero}
use Rattle.trsm_diagonal.proofs.BlockLaws.{diagonal-entry}
use Rattle.trsm.proofs.ends_by_zero.Goals as goal

pub returns-in-Unit : goal.returns-in-Unit
unfolding by_zero
returns-in-Unit c = rw c.in-Unit.is

pub returns-in-Nonunit : goal.returns-in-Nonunit
unfolding by_zero of_bits
returns-in-Nonunit c = rw (c.in-Nonunit.is, diagonal-entry c.args.by.a.t c.args.by.a.cells.now c.args.by.a.ld c.args.i)
