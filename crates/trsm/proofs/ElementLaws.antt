-- An unknown that is solved straight from the arrays, for all lines, is a step of the solution.
-- Assumes nothing.
use mathlib.Core.Bool.{Bool}
use mathlib.Core.Path.{◌≡◌, refl, sym, ap, ap₂, subst, ◌∙◌}
use mathlib.Core.List.{List}
use Prim.Native.Nat.{ℕ, ◌+◌, ◌*◌, ◌<◌, ◌≤◌}
use native.Mathlib.Nat.{zero-add}
use native.Mathlib.Omega.{arith}
use lib.ListN.{length}
use lib.Ieee.{Float, nan}
use Rattle.std.specs.Prelude.{if◌then◌else◌}
use Rattle.arrays.proofs.UpdateLaws.{length-update}
use Rattle.arrays.proofs.FoldLaws.{fold_same}
use Rattle.floats.specs.Array.{at}
use Rattle.floats.specs.Operations.{−1f}
use Rattle.definitions.specs.Element.{divided}
use Rattle.definitions.specs.declared.Diagonal.{Diagonal}
use Rattle.definitions.specs.declared.Transpose.{Transpose}
use Rattle.packing.specs.Factor.{Matrix, index_of, entry_of, along, turn}
use Rattle.forms.specs.Forms.{op_form}
use Rattle.packing.proofs.FactorLaws.{turn_along, turn_below}
use Rattle.lines.specs.Lines.{cell, within, coefficient, Room}
use Rattle.elements.specs.Sums.{term_of, begun, finished, line_sum, Summed}
use Rattle.elements.specs.declared.Start.TheVariants.{Value}
use Rattle.elements.specs.declared.End.{End}
use Rattle.lines.proofs.GridLaws.{grid-same}
use Rattle.elements.proofs.StrideLaws.{term_is}
use Rattle.trsm_diagonal.specs.Solve.{ordered, solution, sum_after, state_of, front, solve_term, solve_end}
use Rattle.trsm_diagonal.proofs.OrderLaws.{first_one, within-turn}
use Rattle.trsm_diagonal.proofs.StateLaws.{value-is, state-start, front-in, narrower, wider, block-ended, held}
use Rattle.trsm_diagonal.proofs.BlockLaws.{diagonal-index}
use Rattle.trsm.specs.Steps.{Step}

-- ---- the elements of the terms: those of the unknowns in order

index : (down : Bool) (m p : ℕ) {from : ℕ} → from ≡ turn down m 0 → along down from p ≡ turn down m p
index down m p e = turn_along down m 0 p e ∙ ap (turn down m) (zero-add p)

pub terms-below : (down : Bool) (m from j : ℕ) → from ≡ turn down m 0 → j ≤ m → (p : ℕ) → p < j → along down from p < m
terms-below down m from j e hj p hp = omega (arith, index down m p e, turn_below down m p (omega arith))

-- the diagonal is within A
pub diagonal-low : (t : Transpose) (lda m len i : ℕ) → ((i j : ℕ) → i < m → j < m → index_of (op_form t) lda i j < len) → i < m → i * lda + i < len
diagonal-low t lda m len i inside h = omega (arith, diagonal-index t lda i, inside i i h h)

-- ---- the unknowns, one after the other

module _ (left down : Bool) (ld m lines : ℕ) (diag : Diagonal) (t : Transpose) (a : List Float) (lda : ℕ) (pos : 0 < ld) where
  abbrev T : Matrix
  T = entry_of (op_form t) a lda

  abbrev term : ℕ → Float → ℕ → Float → Float
  term = solve_term left down m T

  abbrev finish : ℕ → Float → Float
  finish = solve_end diag down m T

  -- none is solved
  pub elements-none : (b : List Float) → Step left down ld m lines diag T (front m 0) (λ k. front 0 0 (front m 0 k)) b b
  elements-none b start k b₀ = narrower nan term finish left down ld m lines start b₀ pos m 0 0 k b (omega arith)

  -- one more: the j-th, which has index i
  pub element-step : (alpha : Float) (end : End) (i j from : ℕ) (b c : List Float) → alpha ≡ −1f → i ≡ turn down m j → from ≡ turn down m 0 → j < m
      → Room left ld m lines (length b)
      → ((left : Bool) (alpha e y : Float) → finished left alpha end e y ≡ divided diag e (T i i))
      → Summed left ld m lines i alpha Value end (λ p. coefficient left T i (along down from p)) (along down from) j b c
      → Step left down ld m lines diag T (λ k. front j j (front m 0 k)) (λ k. front (j + 1) (j + 1) (front m 0 k)) b c
  unfolding ordered solve_term solve_end sum_after line_sum begun
  element-step alpha end i j from b c ea ei ef low room ends ec start k b₀ eb =
      block-ended nan term finish left down ld m lines start b₀ pos j 1 (front m 0 k) (λ q l y. sum l y) b c
      (λ q l lo up hl.
      subst (λ (q : ℕ). sum l (state_of nan term finish (start l) (front m 0 k q) q) ≡ solution nan term finish (start l) q) (let e : j ≡ q = omega arith in e) (solved l hl))
      eb
      (ec ∙ grid-same left ld m lines _ _ b pos
      (λ q l hq hl y.
      ap (λ (z : Bool). if z then sum l y else y)
      (ap (λ (x : ℕ). within x 1 q) (ei ∙ sym (first_one down m j)) ∙ within-turn down m j 1 q (omega arith) hq)))
    where
      w : ℕ → Float
      w p = coefficient left T i (along down from p)

      sum : ℕ → Float → Float
      sum l y = line_sum left alpha Value end w (λ p. at b (cell left ld (along down from p) l)) j y

      solve-term : (l p : ℕ) (e : Float) → l < lines → p < j
          → term_of left alpha (w p) e (at b (cell left ld (along down from p) l)) ≡ term j e p (solution nan term finish (start l) p)
      solve-term l p e hl hp =
          ap (λ (z : Float). term_of left z (w p) e (at b (cell left ld (along down from p) l))) ea
          ∙ ap₂ (λ (v x : Float). term_of left −1f v e x)
          (ap₂ (coefficient left T) ei (index down m p ef))
          (ap (λ (z : ℕ). at b (cell left ld z l)) (index down m p ef)
          ∙ held nan term finish left down ld m lines start b₀ j j (front m 0 k) b p l
          (subst (λ (z : ℕ). Room left ld m lines z) (ap length eb ∙ length-update _ b₀) room) (omega arith) hl hp hp eb)
          ∙ term_is left −1f T (turn down m j) (turn down m p) e (solution nan term finish (start l) p) _ refl

      solved : (l : ℕ) → l < lines → sum l (state_of nan term finish (start l) (front m 0 k j) j) ≡ solution nan term finish (start l) j
      solved l hl =
          ap (sum l) (ap (λ (n : ℕ). state_of nan term finish (start l) n j) (front-in m 0 k j low) ∙ state-start nan term finish (start l) j)
          ∙ ends left alpha _ _
          ∙ ap₂ (λ (e : Float) (x : ℕ). divided diag e (T x x)) (fold_same _ _ j (start l j) (λ p hp e. solve-term l p e hl hp)) ei
          ∙ sym (value-is nan term finish (start l) j)

  -- all are solved
  pub elements-all : (b c : List Float) → Step left down ld m lines diag T (front m 0) (λ k. front m m (front m 0 k)) b c → Step left down ld m lines diag T (front m 0) (front m m) b c
  elements-all b c h start k b₀ e = wider nan term finish left down ld m lines start b₀ pos m m 0 k c (h start k b₀ e)
