-- The f64 operations and constants. Document 01: "Every operation is one f64 operation, rounded once."; "Bit for bit" takes two NaNs as equal, and the logic's
-- floats have one NaN.
use Rattle.std.specs.Prelude.{true, false, pos, Float}
use Rattle.std.specs.Float.Ieee as Ieee
use Rattle.std.specs.Float.{fin, binary64}

infixl 60 ◌⊕◌
infixl 70 ◌⊗◌ ◌⊘◌
abbrev pub ◌⊕◌ : Float → Float → Float
x ⊕ y = Ieee.add binary64 x y

abbrev pub ◌⊗◌ : Float → Float → Float
x ⊗ y = Ieee.mul binary64 x y

abbrev pub ◌⊘◌ : Float → Float → Float
x ⊘ y = Ieee.div binary64 x y

-- +0.0, 1.0 and -1.0
abbrev pub 0f : Float
0f = fin false 0 (pos 0)

abbrev pub 1f : Float
1f = fin false 1 (pos 0)

abbrev pub −1f : Float
−1f = fin true 1 (pos 0)
