-- What the code's updates of B are as steps of the solution.
-- Assumes nothing.
use mathlib.Core.Bool.{Bool, true, false}
use mathlib.Core.Path.{◌≡◌, sym, ap, ap₂, subst, ◌∙◌}
use mathlib.Core.List.{List}
use Prim.Native.Nat.{ℕ, ◌+◌, ◌<◌, ◌≤◌}
use native.Mathlib.Omega.{arith}
use lib.ListN.{length}
use lib.Ieee.{Float, nan}
use Rattle.std.specs.Prelude.{if◌then◌else◌}
use Rattle.arrays.specs.Update.{update}
use Rattle.arrays.specs.Fold.{fold}
use Rattle.arrays.proofs.UpdateLaws.{length-update}
use Rattle.arrays.proofs.FoldLaws.{fold_same}
use Rattle.floats.specs.Array.{at}
use Rattle.floats.specs.Operations.{−1f}
use Rattle.definitions.specs.declared.Diagonal.{Diagonal}
use Rattle.packing.specs.Factor.{Matrix, turn}
use Rattle.packing.proofs.FactorLaws.{turn_below, turn-turn}
use Rattle.lines.specs.Lines.{cell, grid, within, line_term, Room}
use Rattle.lines.proofs.GridLaws.{grid-same, grid-at}
use Rattle.trsm_diagonal.specs.Solve.{first, ordered, front, solve_term, solve_end}
use Rattle.trsm_diagonal.proofs.OrderLaws.{turn-from, within-turn}
use Rattle.trsm_diagonal.proofs.StateLaws.{narrower, wider, rest_more, held}
use Rattle.trsm.specs.Steps.{Step}

-- a buffer has room for at most 64 elements of at most 64 lines
buffer-room : (left : Bool) (n lines len : ℕ) → n ≤ 64 → lines ≤ 64 → 4096 ≤ len → Room left 64 n lines len
buffer-room true n lines len a b c = (a, omega arith)
buffer-room false n lines len a b c = (b, omega arith)

module _ (left down : Bool) (ld m lines : ℕ) (diag : Diagonal) (T : Matrix) (pos : 0 < ld) where
  -- ---- terms

  -- the terms of the unknowns from the p-th on, n of them, whose values x holds, in the sums of those from the i-th on, h of them
  pub terms-more : (alpha : Float) (p n to i h x0 y : ℕ) (x₀ x b₀ b c : List Float) → alpha ≡ −1f → n ≤ 64 → lines ≤ 64 → p + n ≤ i → i + h ≤ to → to ≤ m
      → 4096 ≤ length x₀ → Room left ld m lines (length b₀) → x0 ≡ first down m p n → y ≡ first down m i h
      → x ≡ update (grid left 64 n lines (λ q l _. at b₀ (cell left ld (x0 + q) l))) x₀
      → Step left down ld m lines diag T (λ k. front (p + n) (p + n) (front to p k)) (λ k. front i (p + n) (front to p k)) b₀ b
      → c ≡ update (grid left ld m lines (λ q l e. if within y h q then fold (λ e s. line_term left alpha T q e (x0 + turn down n s) (at x (cell left 64 (turn down n s) l))) n e else e)) b
      → Step left down ld m lines diag T (λ k. front (p + n) (p + n) (front to p k)) (λ k. front (i + h) (p + n) (front to p k)) b₀ c
  unfolding ordered solve_term
  terms-more alpha p n to i h x0 y x₀ x b₀ b c ea n64 l64 hp hi ht hx room ex ey taken before ec start k l₀ e₀ =
      rest_more nan (solve_term left down m T) (solve_end diag down m T) left down ld m lines start l₀ pos p n i h to k (λ s l. at x (cell left 64 (turn down n s) l)) b c hp hi
      (λ s l hs hl.
      grid-at nan left 64 n lines _ x₀ x (turn down n s) l (buffer-room left n lines (length x₀) n64 l64 hx) (turn_below down n s hs) hl taken
      ∙ ap (λ (z : ℕ). at b₀ (cell left ld z l)) (index s hs)
      ∙ held nan (solve_term left down m T) (solve_end diag down m T) left down ld m lines start l₀ (p + n) (p + n) (front to p k) b₀ (p + s) l
      (subst (λ (z : ℕ). Room left ld m lines z) (ap length e₀ ∙ length-update _ l₀) room) (omega arith) hl (omega arith) (omega arith) e₀)
      (before start k l₀ e₀)
      (ec ∙ grid-same left ld m lines _ _ b pos
      (λ j l hj hl e.
      ap₂ (λ (z : Bool) (w : Float). if z then w else e)
      (ap (λ (z : ℕ). within z h j) ey ∙ within-turn down m i h j (omega arith) hj)
      (fold_same _ _ n e
      (λ s hs f.
      ap₂ (λ (z : Float) (w : ℕ). line_term left z T j f w (at x (cell left 64 (turn down n s) l))) ea (index s hs)
      ∙ ap (λ (w : ℕ). line_term left −1f T w f (turn down m (p + s)) (at x (cell left 64 (turn down n s) l))) (sym (turn-turn down m j hj))))))
    where
      index : (s : ℕ) → s < n → x0 + turn down n s ≡ turn down m (p + s)
      index s hs = sym (turn-from down m p n x0 s (omega arith) ex hs)

  -- at the end of that loop
  pub terms-done : (p n to : ℕ) (b c : List Float)
      → Step left down ld m lines diag T (λ k. front (p + n) (p + n) (front to p k)) (λ k. front to (p + n) (front to p k)) b c
      → Step left down ld m lines diag T (λ k. front (p + n) (p + n) (front to p k)) (front to (p + n)) b c
  terms-done p n to b c h start k b₀ e =
      wider nan (solve_term left down m T) (solve_end diag down m T) left down ld m lines start b₀ pos to (p + n) p k c (h start k b₀ e)

  -- ---- a block: it is solved, and then its terms are in the sums of those below the to-th
  pub block_more : (p q e to : ℕ) (b₀ b c d : List Float) → e ≤ to
      → Step left down ld m lines diag T (front to p) (front to q) b₀ b
      → Step left down ld m lines diag T (front e q) (front e e) b c
      → Step left down ld m lines diag T (λ k. front e e (front to q k)) (front to e) c d
      → Step left down ld m lines diag T (front to p) (front to e) b₀ d
  block_more p q e to b₀ b c d h before solve rest start k l₀ e₀ =
      rest start k l₀
      (solve start (front to q k) l₀
      (narrower nan (solve_term left down m T) (solve_end diag down m T) left down ld m lines start l₀ pos to q e k b h (before start k l₀ e₀)))
