-- B by lines. For side L a line is a column of B and its elements are the rows, for side R a line is a row and its elements are the columns.
--     cell         the place of element q of line l
--     grid         an update of the elements below m of the lines below `lines`, by element and line
--     within       the choice of the elements from lo on and below lo + n
--     line_form     how an array that holds its lines by one side is read by the other, or the same
--     line_term     what the term of element p, whose value is x, makes of the sum e of element q: e + (alpha * v) * u, with op(A) = T on the left for side L
--     Room         the array has room for `lines` lines of m elements
--     GridRoom     the array has room for these lines
-- The coefficients of the terms of the elements of a block for one another:
--     coefficient  the entry of op(A) = T in the term of element p for the sum of element q
--     by_columns    whether the coefficients for one sum stand in a column of A
--     Beside       element p comes after element i, or before it
--     RowOf        a row of n coefficients, by the order of the terms, that has the elements below `count` of a for the elements from lo on
--     ColumnOf     a buffer that has the elements below `count` of a as the q-th coefficients of the rows from lo on, and no other coefficient that is new
use Rattle.std.specs.Prelude.{Bool, true, false, not, ◌&&◌, ◌≡◌, List, ℕ, ◌+◌, ◌*◌, ◌≤◌, ◌<◌, leb, ltb, length, Float, if◌then◌else◌}
use Rattle.arrays.specs.Update.{region}
use Rattle.floats.specs.Array.{at}
use Rattle.floats.specs.Operations.{◌⊕◌, ◌⊗◌}
use Rattle.definitions.specs.declared.Transpose.{Transpose}
use Rattle.definitions.specs.declared.Transpose.TheVariants.{No, Yes}
use Rattle.packing.specs.Factor.{Matrix, turn}
use Rattle.packing.specs.declared.Form.{Form}
use Rattle.packing.specs.declared.Form.TheVariants.{Plain, Transposed}
use Rattle.lines.specs.declared.Grid.{Grid}

unfoldable pub cell : Bool → ℕ → ℕ → ℕ → ℕ
cell true ld q l = l * ld + q
cell false ld q l = q * ld + l

unfoldable pub grid : {A : Type 0} → Bool → ℕ → ℕ → ℕ → (ℕ → ℕ → A → A) → ℕ → A → A
grid true ld m lines f = region ld m lines f
grid false ld m lines f = region ld lines m (λ i j x. f j i x)

unfoldable pub within : ℕ → ℕ → ℕ → Bool
within lo n q = leb lo q && ltb q (lo + n)

abbrev pub line_form : Bool → Bool → Form
line_form true true = Plain
line_form true false = Transposed
line_form false true = Transposed
line_form false false = Plain

unfoldable pub line_term : Bool → Float → Matrix → ℕ → Float → ℕ → Float → Float
line_term true alpha T q e p x = e ⊕ (alpha ⊗ x) ⊗ T q p
line_term false alpha T q e p x = e ⊕ (alpha ⊗ T p q) ⊗ x

unfoldable pub coefficient : Bool → Matrix → ℕ → ℕ → Float
coefficient true T q p = T q p
coefficient false T q p = T p q

abbrev pub by_columns : Bool → Transpose → Bool
by_columns left No = not left
by_columns left Yes = left

abbrev pub Beside : Bool → ℕ → ℕ → Type 0
Beside true i p = i < p
Beside false i p = p < i

abbrev pub Room : Bool → ℕ → ℕ → ℕ → ℕ → Type 0
Room left ld m lines len = ((if left then m else lines) ≤ ld) × ((if left then lines else m) * ld + (if left then m else lines) ≤ len + ld)

abbrev pub GridRoom : Grid → ℕ → Type 0
GridRoom g len = Room g.left g.ld g.m g.lines len

pub record RowOf (down : Bool) (n lo count : ℕ) (a v r : List Float) : Type 0 where
  pub same_length : length r ≡ length v
  pub held : (y : ℕ) → y < count → at r (turn down n (lo + y)) ≡ at a y

pub record ColumnOf (q lo count : ℕ) (a v r : List Float) : Type 0 where
  pub same_length : length r ≡ length v
  pub held : (y : ℕ) → y < count → at r ((lo + y) * 64 + q) ≡ at a y
  pub kept : (i p : ℕ) → p < 64 → (p ≡ q → ⊥) → at r (i * 64 + p) ≡ at v (i * 64 + p)
