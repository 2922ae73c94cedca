-- `needed` is the number of elements that an array needs: the product of two 32-bit numbers fits.
use Rattle.std.proofs.Common.{arith}
use Rattle.definitions.specs.Storage.{needed}
use Rattle.arguments.proofs.Room.{needed-empty, needed-is}
use Rattle.arguments.proofs.needed.Goals as goal

pub returns-then-p-eq0 : goal.returns-then-p-eq0
unfolding needed
returns-then-p-eq0 c = grind (arith, needed-empty)

pub returns : goal.returns
returns c = needed-is _ _ _ (omega arith) (omega arith)
