-- How lines are solved. Unknowns, and with them their terms, are numbered in the order of solving.
--     first       the least index of the unknowns from the p-th on, n of them
--     ordered     an update by unknown and line
--     next        the value of unknown q, from the list of the values before it
--     solution    the value of unknown q
--     sum_after    the sum of unknown q after the terms of the first k
--     state_of     unknown q when the first k are solved
--     solving     all unknowns of all lines, unknown q with the terms of the first k q; `start` is what the sums start with, by line and unknown
--     front       hi for the unknowns below e, and k for the others
--     solve_term   a term of TRSM; T is op(A) as A is stored
--     solve_end    the end of a sum of TRSM: the division
--     value_factor, matrix_factor   the two factors of a term: -1.0 is with the value of the unknown for side L, and with the entry of op(A) for side R
--     block_from   the block of a matrix that starts at its entry (x0, x0)
--     block_value  the value of unknown q of a diagonal block T of order n; s is what the sums of a line start with, by element
--     packed_term, packed_value   a term and a value of such a block by factors: row i of v has those of the entries for element i, in the order of solving, and D has the diagonal
--     zero_among   the divisions by zero of the unknowns from the p-th on and below the e-th, by index
use Rattle.std.specs.Prelude.{Bool, true, false, ◌&&◌, List, ℕ, ◌+◌, ◌-◌, ◌*◌, get_or, leb, ltb, Float, if◌then◌else◌}
use Rattle.std.specs.Float.{nan}
use Rattle.arrays.specs.Fold.{fold, solved}
use Rattle.floats.specs.Array.{at}
use Rattle.floats.specs.Operations.{◌⊕◌, ◌⊗◌, −1f}
use Rattle.definitions.specs.Element.{divided, by_zero}
use Rattle.definitions.specs.declared.Diagonal.{Diagonal}
use Rattle.packing.specs.Factor.{Matrix, turn}
use Rattle.lines.specs.Lines.{grid, line_term}

unfoldable pub first : Bool → ℕ → ℕ → ℕ → ℕ
first false m p n = p
first true m p n = m - (p + n)

unfoldable pub ordered : {A : Type 0} → Bool → Bool → ℕ → ℕ → ℕ → (ℕ → ℕ → A → A) → ℕ → A → A
ordered left down ld m lines f = grid left ld m lines (λ i l x. f (turn down m i) l x)

-- ---- one line: `term q e p x` is the sum e of unknown q after the term of unknown p, whose value is x

module _ {A : Type 0} (d : A) (term : ℕ → A → ℕ → A → A) (finish : ℕ → A → A) (start : ℕ → A) where
  unfoldable pub next : List A → ℕ → A
  next xs q = finish q (fold (λ e p. term q e p (get_or xs p d)) q (start q))

  unfoldable pub solution : ℕ → A
  solution q = next (solved next q) q

  unfoldable pub sum_after : ℕ → ℕ → A
  sum_after k q = fold (λ e p. term q e p (solution p)) k (start q)

  unfoldable pub state_of : ℕ → ℕ → A
  state_of k q = if ltb q k then solution q else sum_after k q

-- ---- all lines

unfoldable pub solving : {A : Type 0} → Bool → Bool → ℕ → ℕ → ℕ → A → (ℕ → A → ℕ → A → A) → (ℕ → A → A) → (ℕ → ℕ → A) → (ℕ → ℕ) → ℕ → A → A
solving left down ld m lines d term finish start k = ordered left down ld m lines (λ q l _. state_of d term finish (start l) (k q) q)

unfoldable pub front : ℕ → ℕ → (ℕ → ℕ) → ℕ → ℕ
front e hi k q = if ltb q e then hi else k q

-- ---- TRSM

unfoldable pub solve_term : Bool → Bool → ℕ → Matrix → ℕ → Float → ℕ → Float → Float
solve_term left down m T q e p x = line_term left −1f T (turn down m q) e (turn down m p) x

unfoldable pub solve_end : Diagonal → Bool → ℕ → Matrix → ℕ → Float → Float
solve_end diag down m T q e = divided diag e (T (turn down m q) (turn down m q))

unfoldable pub value_factor : Bool → Float → Float
value_factor true x = −1f ⊗ x
value_factor false x = x

unfoldable pub matrix_factor : Bool → Float → Float
matrix_factor true y = y
matrix_factor false y = −1f ⊗ y

unfoldable pub packed_term : Bool → Bool → ℕ → List Float → ℕ → Float → ℕ → Float → Float
packed_term left down n v q e p x = e ⊕ at v (turn down n q * 64 + p) ⊗ value_factor left x

abbrev pub block_from : ℕ → Matrix → Matrix
block_from x0 T i j = T (x0 + i) (x0 + j)

unfoldable pub block_value : Bool → Bool → ℕ → Diagonal → Matrix → (ℕ → Float) → ℕ → Float
block_value left down n diag T s q = solution nan (solve_term left down n T) (solve_end diag down n T) (λ q. s (turn down n q)) q

unfoldable pub packed_value : Bool → Bool → ℕ → Diagonal → Matrix → List Float → (ℕ → Float) → ℕ → Float
packed_value left down n diag D v s q = solution nan (packed_term left down n v) (solve_end diag down n D) (λ q. s (turn down n q)) q

unfoldable pub zero_among : Bool → ℕ → Diagonal → Matrix → ℕ → ℕ → ℕ → Bool
zero_among down m diag T p e i = (leb p (turn down m i) && ltb (turn down m i) e) && by_zero diag (T i i)
