-- How TRSM solves the lines of a strip, step by step.
--     goes_down    solving goes from the last index down, if A's triangle is the one given
--     line_value   the value of element i of a line; b is the line as it was
--     Step        what a part of the solution does: whatever the sums started with, the unknowns come from one state to another
use Rattle.std.specs.Prelude.{◌≡◌, Bool, not, List, ℕ, Float, if◌then◌else◌}
use Rattle.std.specs.Float.{nan}
use Rattle.arrays.specs.Update.{update}
use Rattle.floats.specs.Operations.{◌⊗◌, 0f}
use Rattle.definitions.specs.Number.{is_zero, factor}
use Rattle.definitions.specs.declared.Scalar.{Scalar}
use Rattle.definitions.specs.Storage.{op_triangle}
use Rattle.definitions.specs.Element.{solves_up}
use Rattle.definitions.specs.declared.Side.{Side}
use Rattle.definitions.specs.declared.Transpose.{Transpose}
use Rattle.definitions.specs.declared.Triangle.{Triangle}
use Rattle.definitions.specs.declared.Diagonal.{Diagonal}
use Rattle.packing.specs.Factor.{Matrix, turn}
use Rattle.trsm_diagonal.specs.Solve.{solution, solving, solve_term, solve_end}

unfoldable pub goes_down : Side → Transpose → Triangle → Bool
goes_down side t uplo = not (solves_up side (op_triangle t uplo))

unfoldable pub line_value : Bool → Bool → ℕ → Diagonal → Scalar → Matrix → (ℕ → Float) → ℕ → Float
line_value left down m diag alpha T b i =
    let x = solution nan (solve_term left down m T) (solve_end diag down m T) (λ q. factor alpha ⊗ b (turn down m q)) (turn down m i) in
    if is_zero alpha then 0f else x

abbrev pub Step : Bool → Bool → ℕ → ℕ → ℕ → Diagonal → Matrix → ((ℕ → ℕ) → ℕ → ℕ) → ((ℕ → ℕ) → ℕ → ℕ) → List Float → List Float → Type 0
Step left down ld m lines diag T before after b c =
    (start : ℕ → ℕ → Float) (k : ℕ → ℕ) (b₀ : List Float)
    → b ≡ update (solving left down ld m lines nan (solve_term left down m T) (solve_end diag down m T) start (before k)) b₀
    → c ≡ update (solving left down ld m lines nan (solve_term left down m T) (solve_end diag down m T) start (after k)) b₀
