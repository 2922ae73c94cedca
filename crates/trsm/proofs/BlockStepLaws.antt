-- A diagonal block of B that is solved by itself is a step of the solution.
-- Assumes nothing.
use mathlib.Core.Bool.{Bool, false}
use mathlib.Core.Path.{◌≡◌, sym, ap, ap₂, subst, ◌∙◌}
use mathlib.Core.List.{List}
use Prim.Native.Nat.{ℕ, ◌+◌, ◌-◌, ◌*◌, ◌<◌, ◌≤◌}
use native.Mathlib.Omega.{arith}
use lib.ListN.{length, take, drop}
use lib.Ieee.{Float, nan}
use borrow.Rule.Slice.PartMut.{put_mid}
use Rattle.std.specs.Prelude.{if◌then◌else◌}
use Rattle.arrays.specs.Update.{update}
use Rattle.arrays.proofs.UpdateLaws.{length-update}
use Rattle.floats.specs.Array.{at}
use Rattle.floats.specs.Operations.{−1f}
use Rattle.definitions.specs.Element.{divided}
use Rattle.definitions.specs.declared.Diagonal.{Diagonal}
use Rattle.packing.specs.Factor.{Matrix, turn}
use Rattle.lines.specs.Lines.{cell, grid, within, line_term, Room}
use Rattle.lines.proofs.GridLaws.{grid-at}
use Rattle.trsm_diagonal.specs.Solve.{first, ordered, front, solve_term, solve_end, block_from, block_value}
use Rattle.trsm_diagonal.proofs.FactorLaws.{shifted-term}
use Rattle.trsm_diagonal.proofs.OrderLaws.{turn-from}
use Rattle.trsm_diagonal.proofs.BlockLaws.{block-step, lent-block}
use Rattle.trsm.specs.Steps.{Step}

module _ (left down : Bool) (ld m lines : ℕ) (diag : Diagonal) (T : Matrix) (p n x0 : ℕ) (b : List Float)
    (pos : 0 < ld) (low : p + n ≤ m) (ex : x0 ≡ first down m p n) (room : Room left ld m lines (length b)) where
  abbrev block : Matrix
  block = block_from x0 T

  block-term : (q s : ℕ) → s < q → q < n → (e x : Float) → solve_term left down m T (p + q) e (p + s) x ≡ solve_term left down n block q e s x
  unfolding solve_term
  block-term q s hs hq e x =
      ap₂ (λ (i j : ℕ). line_term left −1f T i e j x) (turn-from down m p n x0 q low ex hq) (turn-from down m p n x0 s low ex (omega arith))
      ∙ sym (shifted-term left T x0 (turn down n q) (turn down n s) e x)

  block-end : (q : ℕ) → q < n → (e : Float) → solve_end diag down m T (p + q) e ≡ solve_end diag down n block q e
  unfolding solve_end
  block-end q hq e = ap (λ (i : ℕ). divided diag e (T i i)) (turn-from down m p n x0 q low ex hq)

  -- its lines go to s and come back solved
  pub copied-step : (s₀ s w c : List Float) → Room false 64 n lines (length s₀)
      → s ≡ update (grid false 64 n lines (λ i l _. at b (cell left ld (x0 + i) l))) s₀
      → w ≡ update (ordered false down 64 n lines (λ q l _. block_value left down n diag block (λ i. at s (cell false 64 i l)) q)) s
      → c ≡ update (grid left ld m lines (λ i l e. if within x0 n i then at w (cell false 64 (i - x0) l) else e)) b
      → Step left down ld m lines diag T (front (p + n) p) (front (p + n) (p + n)) b c
  unfolding ordered block_value
  copied-step s₀ s w c few es ew ec start k b₀ eb =
      block-step (solve_term left down m T) (solve_term left down n block) (solve_end diag down m T) (solve_end diag down n block) left down ld m lines p n x0 b
      pos low ex room block-term block-end start k b₀ eb (λ l i. at s (cell false 64 i l))
      (λ i l hi hl. grid-at nan false 64 n lines _ s₀ s i l few hi hl es)
      (λ i l. at w (cell false 64 i l)) c
      (λ i l hi hl. grid-at nan false 64 n lines _ s w i l (subst (λ (k : ℕ). Room false 64 n lines k) (sym (ap length es ∙ length-update _ s₀)) few) hi hl ew)
      ec

  -- they are solved where they are
  pub lent-step : (to : ℕ) (ys : List Float) → left ≡ false → to ≡ x0 * ld → to ≤ length b → x0 + n ≤ m
      → ys ≡ update (ordered false down ld n lines (λ q l _. block_value left down n diag block (λ i. at (take (length b - to) (drop to b)) (cell false ld i l)) q)) (take (length b - to) (drop to b))
      → Step left down ld m lines diag T (front (p + n) p) (front (p + n) (p + n)) b (put_mid to (length b - to) b ys)
  unfolding block_value
  lent-step to ys el et tl inside ey start k b₀ eb =
      lent-block (solve_term left down m T) (solve_term left down n block) (solve_end diag down m T) (solve_end diag down n block) left down ld m lines p n x0 b
      pos low ex room block-term block-end start k b₀ eb to el et ys tl inside ey
