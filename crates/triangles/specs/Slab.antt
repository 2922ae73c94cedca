-- A square of which one triangle, diagonal included, is written.
--     slab    the mask of the triangle in some rows of the square: row i of the part is row x + i of the square, and the part has h rows and `cols` columns.
--             Transposed, it is the other triangle in h columns.
use Rattle.std.specs.Prelude.{Bool, not, ℕ}
use Rattle.arrays.specs.Update.{Mask, trapezoid}

abbrev pub slab : Bool → ℕ → ℕ → ℕ → Mask
slab lower x h cols i j = trapezoid (not lower) x cols h j i
