-- An area of a matrix.
--     AreaRoom   an array of n elements has room for it
--     SomeRoom   the same, and it has an element
use Rattle.std.specs.Prelude.{ℕ, ◌+◌, ◌*◌, ◌≤◌, ◌<◌}
use Rattle.arrays.specs.declared.Area.{Area}

abbrev pub AreaRoom : Area → ℕ → Type 0
AreaRoom a n = (0 < a.ld) × (a.rows ≤ a.ld) × (a.cols * a.ld + a.rows ≤ n + a.ld)

abbrev pub SomeRoom : Area → ℕ → Type 0
SomeRoom a n = (0 < a.rows) × (a.rows ≤ a.ld) × (a.cols * a.ld + a.rows ≤ n + a.ld) × (0 < a.cols)
