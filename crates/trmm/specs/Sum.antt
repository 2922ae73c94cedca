-- TRMM by lines of B: element q of a line becomes the sum of the terms that it has, p ascending, from +0.0.
--     sum_of      all m terms of element q; x p is the value of element p
--     line_value  the value of element q of a line; x is the line as it was
use Rattle.std.specs.Prelude.{Bool, ℕ, Float, if◌then◌else◌}
use Rattle.arrays.specs.Fold.{fold}
use Rattle.floats.specs.Operations.{0f}
use Rattle.definitions.specs.Number.{is_zero, factor}
use Rattle.definitions.specs.declared.Scalar.{Scalar}
use Rattle.packing.specs.Factor.{Matrix}
use Rattle.trmm_diagonal.specs.Terms.{term_from}

unfoldable pub sum_of : Bool → Bool → Float → Matrix → ℕ → (ℕ → Float) → ℕ → Float
sum_of left after alpha T m x q = fold (term_from left after alpha T 0 x q) m 0f

unfoldable pub line_value : Bool → Bool → Scalar → Matrix → ℕ → (ℕ → Float) → ℕ → Float
line_value left after alpha T m x q =
    let r = sum_of left after (factor alpha) T m x q in
    if is_zero alpha then 0f else r
