-- The argument check as its code goes: the rows of the table of places, and the tests in turn.
use Rattle.std.specs.Prelude.{ℕ, Bool, not, ◌||◌, List, [], ◌∷◌, ◌++◌, map, ℤ, get_or, if◌then◌else◌}
use Rattle.definitions.specs.Check.{Argument, side, uplo, transa, transb, diag, size-m, size-n, size-k, ld-A, ld-B, ld-C, array-A, array-B, array-C, places, arrays, 'N', 'T', 'C', 'L', 'R', 'U', is, bad}
use Rattle.arguments.specs.Refusal.{first_of}
use Rattle.definitions.specs.declared.Routine.{Routine}
use Rattle.definitions.specs.declared.Args.{Args}
use Rattle.definitions.proofs.CheckLaws.{column, place_in}

unfoldable pub codes : List Argument
codes = side ∷ uplo ∷ transa ∷ transb ∷ diag ∷ []

unfoldable pub sizes : List Argument
sizes = size-m ∷ size-n ∷ size-k ∷ []

unfoldable pub leading : List Argument
leading = ld-A ∷ ld-B ∷ ld-C ∷ []

unfoldable pub lengths : List Argument
lengths = array-A ∷ array-B ∷ array-C ∷ []

unfoldable pub words : List Argument
words = codes ++ (sizes ++ leading)

-- The arguments in the order of their columns, which is the order of the tests.
unfoldable pub columns : List Argument
columns = words ++ lengths

-- A routine's row of the table: the place of each argument, 0 for one that the routine lacks.
unfoldable pub row_of : Routine → List ℕ
row_of f = map (λ x. place_in (places f ++ arrays f) (column x)) columns

-- ---- the tests

abbrev pub bad_side : ℤ → Bool
bad_side code = not (is 'L' code || is 'R' code)

abbrev pub bad_uplo : ℤ → Bool
bad_uplo code = not (is 'L' code || is 'U' code)

abbrev pub bad_trans : ℤ → Bool
bad_trans code = not (is 'N' code || is 'T' code || is 'C' code)

abbrev pub bad_diag : ℤ → Bool
bad_diag code = not (is 'U' code || is 'N' code)

-- The number of the tests of these arguments, in turn.
unfoldable pub tests : Args → List ℕ → List Argument → ℕ
tests g row [] = 0
tests g row (x ∷ xs) = first_of (if bad g x then get_or row (column x) 0 else 0) (tests g row xs)
