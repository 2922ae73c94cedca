-- The blocks of sums one after the other: what a block reads is not done yet, so it is as at entry.
-- Assumes nothing.
use mathlib.Core.Bool.{Bool, false}
use mathlib.Core.Path.{◌≡◌, ◌∙◌}
use mathlib.Core.List.{List}
use Prim.Native.Nat.{ℕ, ◌+◌, ◌<◌}
use lib.ListN.{length, get_or}
use lib.Ieee.{Float, nan}
use Rattle.std.specs.Prelude.{if◌then◌else◌}
use Rattle.arrays.specs.Update.{update}
use Rattle.arrays.proofs.Tests.{if-false}
use Rattle.floats.specs.Array.{at}
use Rattle.packing.specs.Factor.{Matrix}
use Rattle.lines.specs.Lines.{cell, grid, within, Room}
use Rattle.lines.proofs.GridLaws.{grid-at}
use Rattle.trmm_diagonal.specs.Terms.{done}
use Rattle.trmm_diagonal.proofs.DoneLaws.{Next, not_done, more-done}
use Rattle.trmm.specs.Sum.{sum_of}
use Rattle.trmm.proofs.SumLaws.{sum_same}

module _ {A : Type 0} (left : Bool) (ld m lines : ℕ) (w : ℕ → Bool) where
  -- an element that is not chosen is kept
  kept_at : (d : A) (f : ℕ → ℕ → A → A) (b c : List A) (q l : ℕ) → Room left ld m lines (length b) → q < m → l < lines → w q ≡ false
      → c ≡ update (grid left ld m lines (λ q l x. if w q then f q l x else x)) b
      → get_or c (cell left ld q l) d ≡ get_or b (cell left ld q l) d
  kept_at d f b c q l room hq hl out e = grid-at d left ld m lines _ b c q l room hq hl e ∙ if-false (w q) _ _ out

-- the next block of sums: what it reads is not done, so it is as at entry
pub block-done : (left after : Bool) (alpha : Float) (T : Matrix) (ld m lines k n p₀ : ℕ) (b c r : List Float) → 0 < ld → Room left ld m lines (length b) → Next m k n p₀ after
    → c ≡ update (grid left ld m lines (λ q l e. if done after m k q then sum_of left after alpha T m (λ p. at b (cell left ld p l)) q else e)) b
    → r ≡ update (grid left ld m lines (λ q l e. if within p₀ n q then sum_of left after alpha T m (λ p. at c (cell left ld p l)) q else e)) c
    → r ≡ update (grid left ld m lines (λ q l e. if done after m (k + n) q then sum_of left after alpha T m (λ p. at b (cell left ld p l)) q else e)) b
block-done left after alpha T ld m lines k n p₀ b c r pos room next ec er =
    more-done left after ld m lines _ b k n p₀ _ c r pos next ec er
    (λ q l hl lo hi e.
    sum_same left after alpha T m _ _ q
    (λ p hp t. kept_at left ld m lines (done after m k) nan _ b c p l room hp hl (not_done m k n p₀ after q p next lo hi t) ec))
