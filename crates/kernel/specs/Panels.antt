-- A product whose right block is packed.
--     half_packed  entry (i, j) of it: the left factor is L, by row and term; column j, term q of the right block, already times alpha, is at j * 64 + q of t
use Rattle.std.specs.Prelude.{List, ℕ, ◌+◌, ◌*◌, Float}
use Rattle.arrays.specs.Update.{EntryMap}
use Rattle.floats.specs.Array.{at}
use Rattle.blocks.specs.Terms.{accumulate}
use Rattle.packing.specs.Factor.{Matrix}

unfoldable pub half_packed : ℕ → List Float → Matrix → EntryMap Float
half_packed n t L i j e = accumulate (λ q. at t (j * 64 + q)) (λ q. L i q) n e
