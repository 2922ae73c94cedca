-- The three cases of a scalar, and the start of an element. (The f64 operations are those of the crate floats.)
use Rattle.std.specs.Prelude.{Bool, true, false, Float, if◌then◌else◌}
use Rattle.std.specs.Float.Ieee as Ieee
use Rattle.floats.specs.Operations.{◌⊗◌, 0f, 1f}
use Rattle.definitions.specs.declared.Scalar.{Scalar}
use Rattle.definitions.specs.declared.Scalar.TheVariants.{Zero, One, Other}

-- "Zero, one and any other value, NaN included, are three cases of scalar; −0.0 is zero."
unfoldable pub scalar : Float → Scalar
scalar x = if Ieee.eq x 0f then Zero else if Ieee.eq x 1f then One else Other x

abbrev pub is_zero : Scalar → Bool
is_zero Zero = true
is_zero One = false
is_zero (Other x) = false

abbrev pub is_one : Scalar → Bool
is_one Zero = false
is_one One = true
is_one (Other x) = false

-- The scalar as a factor. (That `factor (scalar x)` is x, if x is not zero, is `factor-is` of proofs/Scalars; the two zeros are never a factor.)
unfoldable pub factor : Scalar → Float
factor Zero = 0f
factor One = 1f
factor (Other x) = x

-- "The start is +0.0 if β is zero (the old element is not read), the old element if β is one, else β times it."
unfoldable pub start : Scalar → Float → Float
start Zero old = 0f
start One old = old
start (Other β) old = β ⊗ old
