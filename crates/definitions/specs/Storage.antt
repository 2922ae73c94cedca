-- Storage of a matrix, and how its entries are read: op(A), the mirrored triangle, the unit diagonal.
use Rattle.std.specs.Prelude.{ℕ, zero, suc, ◌+◌, ◌*◌, Bool, List, leb, eqb, get_or, if◌then◌else◌}
use Rattle.definitions.specs.declared.Triangle.{Triangle}
use Rattle.definitions.specs.declared.Triangle.TheVariants.{Lower, Upper}
use Rattle.definitions.specs.declared.Transpose.{Transpose}
use Rattle.definitions.specs.declared.Transpose.TheVariants.{No, Yes}
use Rattle.definitions.specs.declared.Diagonal.{Diagonal}
use Rattle.definitions.specs.declared.Diagonal.TheVariants.{Unit, Nonunit}

-- A matrix of elements of any type E: row i and column j, both from 0.
abbrev pub Matrix : Type 0 → Type 0
Matrix E = ℕ → ℕ → E

-- "Entry (i, j), both from 0, of an array with leading dimension ld is element j·ld + i."
-- (`none` stands for an element that the array does not have.)
unfoldable pub stored : {E : Type 0} → E → List E → ℕ → Matrix E
stored none a ld i j = get_or a (j * ld + i) none

unfoldable pub transposed : {E : Type 0} → Matrix E → Matrix E
transposed M i j = M j i

-- "op(A) is A for N and its transpose otherwise."
unfoldable pub op : {E : Type 0} → Transpose → Matrix E → Matrix E
op No M i j = M i j
op Yes M i j = M j i

-- Entry (i, j) is in the triangle, diagonal included.
unfoldable pub inside : Triangle → ℕ → ℕ → Bool
inside Lower i j = leb j i
inside Upper i j = leb i j

-- The triangle of op(A), if A's is the one given.
unfoldable pub op_triangle : Transpose → Triangle → Triangle
op_triangle No t = t
op_triangle Yes Lower = Upper
op_triangle Yes Upper = Lower

-- "only triangle uplo of A is read, the other mirrored"
unfoldable pub mirrored : {E : Type 0} → Triangle → Matrix E → Matrix E
mirrored t M i j = if inside t i j then M i j else M j i

-- "With diag U the diagonal counts as 1.0 and is not read."
unfoldable pub with_diagonal : {E : Type 0} → E → Diagonal → Matrix E → Matrix E
with_diagonal one Unit M i j = if eqb i j then one else M i j
with_diagonal one Nonunit M i j = M i j

-- "An array of p rows and q columns needs ld·(q−1)+p elements, or 0 if p or q is 0."
unfoldable pub needed : ℕ → ℕ → ℕ → ℕ
needed ld zero q = 0
needed ld (suc p) zero = 0
needed ld (suc p) (suc q) = ld * q + suc p
