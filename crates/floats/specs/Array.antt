-- An array of f64.
use Rattle.std.specs.Prelude.{List, ℕ, get_or, Float}
use Rattle.std.specs.Float.{nan}

-- Element p. (NaN stands for an element that the array does not have.)
abbrev pub at : List Float → ℕ → Float
at l p = get_or l p nan
