-- `too_short` compares the lengths with the count.
use Prim.Native.Nat.{◌*◌}
use mathlib.Core.Bool.{◌||◌}
use lib.Dec.{ltb}
use lib.ListN.{length}
use Rattle.definitions.specs.Run.{too_short}
use Rattle.records.proofs.Sheet.too_short.Goals as goal

pub returns : goal.returns
unfolding too_short
returns c = λ i. ltb (length c.args.answers.now) (c.count-count.ensures.0 i) || ltb (length c.args.self.scalars.now) (2 * c.count-count.ensures.0 i)
