-- The factors of a product, by the form in which an array holds them.
--     index_of   the place of entry (i, j) in the array: Plain and Transposed are as they say; of Lower and Upper, symmetric factors, only that
--               triangle is read, diagonal included, and the other entries are mirrored
--     entry_of   entry (i, j) of a factor
--     matrix_of  the matrix that a factor is
--     along     the q-th index from `from` on, up or down
--     turn      the index of the term that comes q-th of k: from the first up, or from the last down
--     Indices   the n indices from `from` on, up or down, are numbers of the machine
--     Within    these indices are places of an array of len elements
--     is_mirrored, is_lower, mirrored_form   a form that mirrors a triangle, and which one
--     Reads     a way in which the block of ny by nx entries from (i, j) on can be read
use Rattle.std.specs.Prelude.{Bool, true, false, ◌≡◌, List, ℕ, ◌+◌, ◌-◌, ◌*◌, ◌<◌, ◌≤◌, leb, Float, if◌then◌else◌}
use Rattle.floats.specs.Array.{at}
use Rattle.packing.specs.declared.Form.{Form}
use Rattle.packing.specs.declared.factor.Factor.{Factor}
use Rattle.packing.specs.declared.Form.TheVariants.{Plain, Transposed, Lower, Upper}
use Rattle.packing.specs.declared.Way.{Way}
use Rattle.packing.specs.declared.Way.TheVariants.{Columns, Rows, Mirrored}

unfoldable pub index_of : Form → ℕ → ℕ → ℕ → ℕ
index_of Plain ld i j = j * ld + i
index_of Transposed ld i j = i * ld + j
index_of Lower ld i j = if leb j i then j * ld + i else i * ld + j
index_of Upper ld i j = if leb i j then j * ld + i else i * ld + j

abbrev pub Matrix : Type 0
Matrix = ℕ → ℕ → Float

unfoldable pub entry_of : Form → List Float → ℕ → Matrix
entry_of form a ld i j = at a (index_of form ld i j)

abbrev pub matrix_of : Factor → Matrix
matrix_of f = entry_of f.form f.cells.now f.ld

unfoldable pub along : Bool → ℕ → ℕ → ℕ
along false from q = from + q
along true from q = from - q

unfoldable pub turn : Bool → ℕ → ℕ → ℕ
turn false k q = q
turn true k q = k - 1 - q

pub record Indices (down : Bool) (from n : ℕ) : Type 0 where
  pub up : down ≡ false → from + n < 18446744073709551616
  pub back : down ≡ true → n ≤ from + 1

pub record Within (down : Bool) (from n len : ℕ) : Type 0 where
  pub up : down ≡ false → from + n ≤ len
  pub back : down ≡ true → (n ≤ from + 1) × (from < len)

abbrev pub is_mirrored : Form → Bool
is_mirrored Plain = false
is_mirrored Transposed = false
is_mirrored Lower = true
is_mirrored Upper = true

abbrev pub is_lower : Form → Bool
is_lower Plain = false
is_lower Transposed = false
is_lower Lower = true
is_lower Upper = false

abbrev pub mirrored_form : Bool → Form
mirrored_form true = Lower
mirrored_form false = Upper

pub record Reads (form : Form) (down across : Bool) (i ny j nx : ℕ) (way : Way) : Type 0 where
  pub columns : way ≡ Columns → (ld y x : ℕ) → y < ny → x < nx → index_of form ld (along down i y) (along across j x) ≡ along across j x * ld + along down i y
  pub rows : way ≡ Rows → (ld y x : ℕ) → y < ny → x < nx → index_of form ld (along down i y) (along across j x) ≡ along down i y * ld + along across j x
  pub mirrored : way ≡ Mirrored → (is_mirrored form ≡ true) × (down ≡ false) × (across ≡ false)
