-- The terms of one element, and a product of two packed blocks.
--     accumulate   terms 0 to n - 1 in turn: term q turns the sum e into e + v q * u q
--     packed       entry (i, j) of a product of two packed blocks: term q, row i of the left block stands at q * 64 + i of u, and column j, term q of
--                  the right block, already times alpha, at j * 64 + q of t
--     AtOnce       the numbers of terms that one pass over a column takes
use Rattle.std.specs.Prelude.{List, ◌≡◌, ◌⊎◌, ℕ, ◌+◌, ◌*◌, Float}
use Rattle.floats.specs.Array.{at}
use Rattle.floats.specs.Operations.{◌⊕◌, ◌⊗◌}
use Rattle.arrays.specs.Update.{EntryMap}
use Rattle.arrays.specs.Fold.{fold}

unfoldable pub accumulate : (ℕ → Float) → (ℕ → Float) → ℕ → Float → Float
accumulate v u n e = fold (λ e q. e ⊕ v q ⊗ u q) n e

unfoldable pub packed : ℕ → List Float → List Float → EntryMap Float
packed n u t i j e = accumulate (λ q. at t (j * 64 + q)) (λ q. at u (q * 64 + i)) n e

abbrev pub AtOnce : ℕ → Type 0
AtOnce n = (n ≡ 8) ⊎ (n ≡ 4) ⊎ (n ≡ 1)
