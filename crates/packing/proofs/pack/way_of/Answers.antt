-- `pack::way_of` meets its contract: a case for each form and each side of the diagonal.
use Rattle.packing.proofs.PackLaws.{reads_plain, reads-transposed, lower-columns, lower-rows, upper-columns, upper-rows}
use Rattle.packing.proofs.pack.way_of.Goals as goal

pub returns-in-Plain : goal.returns-in-Plain
returns-in-Plain c = reads_plain _ _ _ _ c.in-Plain.is

pub returns-in-Transposed : goal.returns-in-Transposed
returns-in-Transposed c = reads-transposed _ _ _ _ c.in-Transposed.is

pub returns-then-j-nx : goal.returns-then-j-nx
returns-then-j-nx c = lower-columns _ _ _ _ c.if-i.false c.if-j.false c.in-Lower.is c.if-j-nx.true

pub returns-then-i-ny : goal.returns-then-i-ny
returns-then-i-ny c = lower-rows _ _ _ _ c.if-i.false c.if-j.false c.in-Lower.is c.if-i-ny.true

pub returns-then-i-ny-2 : goal.returns-then-i-ny-2
returns-then-i-ny-2 c = upper-columns _ _ _ _ c.if-i-2.false c.if-j-2.false c.in-Upper.is c.if-i-ny-2.true

pub returns-then-j-nx-2 : goal.returns-then-j-nx-2
returns-then-j-nx-2 c = upper-rows _ _ _ _ c.if-i-2.false c.if-j-2.false c.in-Upper.is c.if-j-nx-2.true
