-- `blas::syr2k` is the direct call of the definitions: its words go through their bits once.
use Rattle.std.proofs.Common.{arith}
use mathlib.Core.Path.{refl}
use Rattle.definitions.specs.Call.{in_place}
use Rattle.definitions.specs.Direct.{solved, syr2k}
use Rattle.arguments.proofs.Signed.{word_same}
use Rattle.blas.proofs.syr2k.Goals as goal

pub direct-requires : goal.direct-requires
unfolding in_place
direct-requires c = (refl, refl, omega arith)

pub returns : goal.returns
unfolding syr2k solved
returns c = grind (arith, word_same)
