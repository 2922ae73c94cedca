-- All lines, cleared or solved.
-- Assumes nothing.
use mathlib.Core.Bool.{Bool, true, false, not, ◌&&◌}
use mathlib.Core.Path.{◌≡◌, sym, ap, ap₂, ◌∙◌}
use mathlib.Core.List.{List}
use Prim.Native.Nat.{ℕ, ◌<◌}
use lib.Ieee.{Float, nan}
use Rattle.std.specs.Prelude.{if◌then◌else◌, Option, None}
use Rattle.arrays.specs.Search.{Found}
use Rattle.arrays.specs.Update.{update, region}
use Rattle.arrays.proofs.Tests.{if-true, if-false}
use Rattle.floats.specs.Array.{at}
use Rattle.floats.specs.Operations.{◌⊗◌, 0f}
use Rattle.definitions.specs.Number.{is_zero, factor}
use Rattle.definitions.specs.Element.{by_zero}
use Rattle.definitions.specs.declared.Diagonal.{Diagonal}
use Rattle.definitions.specs.declared.Scalar.{Scalar}
use Rattle.packing.specs.Factor.{Matrix, turn}
use Rattle.lines.specs.Lines.{cell, grid}
use Rattle.lines.proofs.GridLaws.{grid-same}
use Rattle.trsm_diagonal.specs.Solve.{ordered, front, solve_term, solve_end}
use Rattle.trsm_diagonal.proofs.StateLaws.{all-started, all-solved}
use Rattle.trsm.specs.Steps.{line_value, Step}

-- one change of all elements
all-elements : (left : Bool) (ld m lines rows cols : ℕ) (f : Float → Float) → rows ≡ (if left then m else lines) → cols ≡ (if left then lines else m)
    → region ld rows cols (λ i j x. f x) ≡ grid left ld m lines (λ q l x. f x)
unfolding grid
all-elements true ld m lines rows cols f er ec = ap₂ (λ (r c : ℕ). region ld r c (λ i j x. f x)) er ec
all-elements false ld m lines rows cols f er ec = ap₂ (λ (r c : ℕ). region ld r c (λ i j x. f x)) er ec

module _ (left down : Bool) (ld m lines : ℕ) (diag : Diagonal) (alpha : Scalar) (T : Matrix) (pos : 0 < ld) (b c : List Float) (rows cols : ℕ)
    (er : rows ≡ (if left then m else lines)) (ec : cols ≡ (if left then lines else m)) where
  abbrev values : ℕ → ℕ → Float → Float
  values i l _ = line_value left down m diag alpha T (λ p. at b (cell left ld p l)) i

  -- their values, and the lowest index at which the diagonal is zero
  abbrev Done : Option ℕ → Type 0
  Done x = (c ≡ update (grid left ld m lines values) b) × Found (λ i. not (is_zero alpha) && by_zero diag (T i i)) m x

  pub all-cleared : is_zero alpha ≡ true → c ≡ update (region ld rows cols (λ i j x. 0f)) b → Done None
  unfolding line_value
  all-cleared z e = (
    e ∙ ap (λ (f : ℕ → Float → Float). update f b) (all-elements left ld m lines rows cols (λ x. 0f) er ec)
        ∙ grid-same left ld m lines _ _ b pos (λ i l hi hl x. sym (if-true (is_zero alpha) _ _ z)),
    λ i h. rw z,
  )

  pub all_done : is_zero alpha ≡ false → (s : Float) (d : List Float) (x : Option ℕ) → s ≡ factor alpha → d ≡ update (region ld rows cols (λ i j x. s ⊗ x)) b
      → Step left down ld m lines diag T (front m 0) (front m m) d c × Found (λ i. by_zero diag (T i i)) m x → Done x
  unfolding line_value ordered
  all_done z s d x es ed solve = (
    all-solved nan (solve_term left down m T) (solve_end diag down m T) left down ld m lines start b pos (λ q. 0) c
        (solve.0 start (λ q. 0) b
        (all-started nan (solve_term left down m T) (solve_end diag down m T) left down ld m lines start b pos (λ q l x. s ⊗ x) (λ q. 0) d
        (ed ∙ ap (λ (f : ℕ → Float → Float). update f b) (all-elements left ld m lines rows cols (λ x. s ⊗ x) er ec))
        (λ q l hq hl. ap (λ (y : Float). y ⊗ at b (cell left ld (turn down m q) l)) es)))
        ∙ grid-same left ld m lines _ _ b pos (λ i l hi hl x. sym (if-false (is_zero alpha) _ _ z)),
    rw z solve.1,
  )
    where
      start : ℕ → ℕ → Float
      start l q = factor alpha ⊗ at b (cell left ld (turn down m q) l)
