-- The terms that an element has: of those of a block some, and of those on one side of the block all.
-- Assumes nothing.
use mathlib.Core.Bool.{Bool, true, false}
use mathlib.Core.Path.{◌≡◌, refl, sym, ap, ◌∙◌}
use mathlib.Core.Logic.{⊎_elim}
use Prim.Native.Nat.{ℕ, ◌+◌, ◌<◌, ◌≤◌}
use native.Mathlib.Omega.{arith}
use borrow.Author.Tests.{le-leb, lt-leb}
use Rattle.arrays.specs.Fold.{fold, among}
use Rattle.arrays.proofs.FoldLaws.{fold-split, fold_same, fold-keep}
use Rattle.arrays.proofs.UpdateLaws.{lt-or-ge}
use Rattle.trmm_diagonal.specs.Terms.{has}

-- ---- the terms that an element has

pub has-after : {after : Bool} (q p : ℕ) → after ≡ true → q ≤ p → has after q p ≡ true
unfolding has
has-after q p a h = rw (a, le-leb q p h)

pub has-not-after : {after : Bool} (q p : ℕ) → after ≡ true → p < q → has after q p ≡ false
unfolding has
has-not-after q p a h = rw (a, lt-leb q p h)

pub has-before : {after : Bool} (q p : ℕ) → after ≡ false → p ≤ q → has after q p ≡ true
unfolding has
has-before q p a h = rw (a, le-leb p q h)

pub has-not-before : {after : Bool} (q p : ℕ) → after ≡ false → q < p → has after q p ≡ false
unfolding has
has-not-before q p a h = rw (a, lt-leb p q h)

pub has-own : (after : Bool) (q : ℕ) → has after q q ≡ true
has-own true q = has-after q q refl (omega arith)
has-own false q = has-before q q refl (omega arith)

-- the same with both moved by p₀
pub has-from : (after : Bool) (p₀ q p : ℕ) → has after q p ≡ has after (p₀ + q) (p₀ + p)
unfolding has
has-from true p₀ q p =
    ⊎_elim (λ (h : p < q). lt-leb q p h ∙ sym (lt-leb (p₀ + q) (p₀ + p) (omega arith))) (λ h. le-leb q p h ∙ sym (le-leb (p₀ + q) (p₀ + p) (omega arith))) (lt-or-ge p q)
has-from false p₀ q p =
    ⊎_elim (λ (h : q < p). lt-leb p q h ∙ sym (lt-leb (p₀ + p) (p₀ + q) (omega arith))) (λ h. le-leb p q h ∙ sym (le-leb (p₀ + p) (p₀ + q) (omega arith))) (lt-or-ge q p)

-- ---- the terms of a block of n elements from the p-th on, and of the elements on one side of it, for an element of the block

module _ {E : Type 0} {after : Bool} (step : E → ℕ → E) (q p n rest m : ℕ) (e : E) (whole : p + n + rest ≡ m) (lo : p ≤ q) (hi : q < p + n) where
  -- the terms after the block's are had by all of its elements, those before it by none
  pub block-then-after : after ≡ true
      → fold (λ e i. step e (p + n + i)) rest (fold (λ e i. among (has after q) step e (p + i)) n e) ≡ fold (among (has after q) step) m e
  unfolding among
  block-then-after a =
      sym (ap (λ (k : ℕ). fold (among (has after q) step) k e) (sym whole)
      ∙ fold-split (among (has after q) step) (p + n) rest e
      ∙ ap (fold (λ e i. among (has after q) step e (p + n + i)) rest)
      (fold-split (among (has after q) step) p n e
      ∙ ap (fold (λ e i. among (has after q) step e (p + i)) n) (fold-keep _ p e (λ i b e. rw (has-not-after q i a (omega arith)))))
      ∙ fold_same _ _ rest _ (λ i b e. rw (has-after q (p + n + i) a (omega arith))))

  -- the terms before the block's are had by all of its elements, those after it by none
  pub before-then-block : after ≡ false
      → fold (λ e i. among (has after q) step e (p + i)) n (fold step p e) ≡ fold (among (has after q) step) m e
  unfolding among
  before-then-block a =
      sym (ap (λ (k : ℕ). fold (among (has after q) step) k e) (sym whole)
      ∙ fold-split (among (has after q) step) (p + n) rest e
      ∙ fold-keep _ rest _ (λ i b e. rw (has-not-before q (p + n + i) a (omega arith)))
      ∙ fold-split (among (has after q) step) p n e
      ∙ ap (fold (λ e i. among (has after q) step e (p + i)) n) (fold_same _ _ p e (λ i b e. rw (has-before q i a (omega arith)))))
