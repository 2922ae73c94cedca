-- The blocks one after the other, or the groups of one block: which elements are done, and that what a block reads is not done yet.
-- Assumes nothing.
use mathlib.Core.Bool.{Bool, true, false}
use mathlib.Core.Path.{◌≡◌, refl, sym, ap, ◌∙◌}
use mathlib.Core.Logic.{⊎_elim}
use mathlib.Core.List.{List}
use Prim.Native.Nat.{ℕ, ◌+◌, ◌<◌, ◌≤◌}
use native.Mathlib.Omega.{arith}
use lib.Ieee.{Float}
use borrow.Author.Tests.{lt-ltb, le-ltb, le-leb, lt-leb, leb-true}
use Rattle.std.specs.Prelude.{if◌then◌else◌}
use Rattle.arrays.specs.Update.{update}
use Rattle.arrays.proofs.Tests.{if-true, if-false, by-test}
use Rattle.arrays.proofs.UpdateLaws.{lt-or-ge}
use Rattle.lines.specs.Lines.{grid, within}
use Rattle.lines.proofs.GridLaws.{within_in, grid-then, grid-same, grid-keep}
use Rattle.trmm_diagonal.specs.Terms.{has, done}
use Rattle.trmm_diagonal.proofs.ChosenLaws.{within-out, within-bounds}
use Rattle.trmm_diagonal.proofs.HasLaws.{has-own}

-- ---- the blocks that are done

done_none : (after : Bool) (m q : ℕ) → q < m → done after m 0 q ≡ false
unfolding done
done_none true m q h = le-ltb q 0 (omega arith)
done_none false m q h = lt-leb m (q + 0) (omega arith)

done_all : (after : Bool) (m q : ℕ) → q < m → done after m m q ≡ true
unfolding done
done_all true m q h = lt-ltb q m h
done_all false m q h = le-leb m (q + m) (omega arith)

module _ (m k n p₀ : ℕ) where
  -- the block behind those that are done
  abbrev pub Next : Bool → Type 0
  Next after = (after ≡ true → p₀ ≡ k) × (after ≡ false → p₀ + n + k ≡ m)

  done_more : (after : Bool) (q : ℕ) → Next after → q < m → done after m (k + n) q ≡ (if within p₀ n q then true else done after m k q)
  unfolding done
  done_more true q next h =
      let e : p₀ ≡ k = next.0 refl in
      ⊎_elim
      (λ (u : q < k). lt-ltb q (k + n) (omega arith) ∙ sym (if-false (within p₀ n q) _ _ (within-out p₀ n q (λ lo hi. omega arith)) ∙ lt-ltb q k u))
      (λ u. ⊎_elim
      (λ (v : q < k + n). lt-ltb q (k + n) v ∙ sym (if-true (within p₀ n q) _ _ (within_in p₀ n q (omega arith) (omega arith))))
      (λ v. le-ltb q (k + n) v ∙ sym (if-false (within p₀ n q) _ _ (within-out p₀ n q (λ lo hi. omega arith)) ∙ le-ltb q k u))
      (lt-or-ge q (k + n)))
      (lt-or-ge q k)
  done_more false q next h =
      let e : p₀ + n + k ≡ m = next.1 refl in
      ⊎_elim
      (λ (u : q < p₀). lt-leb m (q + (k + n)) (omega arith) ∙ sym (if-false (within p₀ n q) _ _ (within-out p₀ n q (λ lo hi. omega arith)) ∙ lt-leb m (q + k) (omega arith)))
      (λ u. ⊎_elim
      (λ (v : q < p₀ + n). le-leb m (q + (k + n)) (omega arith) ∙ sym (if-true (within p₀ n q) _ _ (within_in p₀ n q u v)))
      (λ v. le-leb m (q + (k + n)) (omega arith) ∙ sym (if-false (within p₀ n q) _ _ (within-out p₀ n q (λ lo hi. omega arith)) ∙ le-leb m (q + k) (omega arith)))
      (lt-or-ge q (p₀ + n)))
      (lt-or-ge q p₀)

  -- what an element of the block reads is not done
  pub not_done : (after : Bool) (q p : ℕ) → Next after → p₀ ≤ q → q < p₀ + n → has after q p ≡ true → done after m k p ≡ false
  unfolding done has
  not_done true q p next u v t = let e : p₀ ≡ k = next.0 refl in let w : q ≤ p = leb-true q p t in le-ltb p k (omega arith)
  not_done false q p next u v t = let e : p₀ + n + k ≡ m = next.1 refl in let w : p ≤ q = leb-true p q t in lt-leb m (p + k) (omega arith)

-- ---- the blocks one after the other

module _ (left after : Bool) (ld m lines : ℕ) (f : ℕ → ℕ → Float → Float) (b : List Float) where
  pub none_done : b ≡ update (grid left ld m lines (λ q l e. if done after m 0 q then f q l e else e)) b
  none_done = grid-keep left ld m lines _ b (λ q l hq hl e. if-false (done after m 0 q) _ _ (done_none after m q hq))

  pub all_done : (c : List Float) → 0 < ld → c ≡ update (grid left ld m lines (λ q l e. if done after m m q then f q l e else e)) b
      → c ≡ update (grid left ld m lines f) b
  all_done c pos e = e ∙ grid-same left ld m lines _ _ b pos (λ q l hq hl e. if-true (done after m m q) _ _ (done_all after m q hq))

  -- the next block, whose elements were not done
  pub more-done : (k n p₀ : ℕ) (g : ℕ → ℕ → Float → Float) (c r : List Float) → 0 < ld → Next m k n p₀ after
      → c ≡ update (grid left ld m lines (λ q l e. if done after m k q then f q l e else e)) b
      → r ≡ update (grid left ld m lines (λ q l e. if within p₀ n q then g q l e else e)) c
      → ((q l : ℕ) → l < lines → p₀ ≤ q → q < p₀ + n → (e : Float) → g q l e ≡ f q l e)
      → r ≡ update (grid left ld m lines (λ q l e. if done after m (k + n) q then f q l e else e)) b
  more-done k n p₀ g c r pos next ec er same =
      grid-then left ld m lines _ _ _ b c r pos ec er
      (λ q l hq hl e.
      by-test (within p₀ n q)
      (λ w.
      let v = within-bounds p₀ n q w in
      if-true (within p₀ n q) _ _ w
      ∙ ap (g q l) (if-false (done after m k q) _ _ (not_done m k n p₀ after q q next v.0 v.1 (has-own after q)))
      ∙ same q l hl v.0 v.1 e
      ∙ sym (if-true (done after m (k + n) q) _ _ (done_more m k n p₀ after q next hq ∙ if-true (within p₀ n q) _ _ w)))
      (λ w.
      if-false (within p₀ n q) _ _ w
      ∙ ap (λ (t : Bool). if t then f q l e else e) (sym (done_more m k n p₀ after q next hq ∙ if-false (within p₀ n q) _ _ w))))
