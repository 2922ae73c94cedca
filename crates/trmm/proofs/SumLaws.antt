-- The sum of an element is that of the terms of a block, which it has in part, and of the terms on one side of the block, all of which it has.
-- Assumes nothing.
use mathlib.Core.Bool.{Bool, true, false}
use mathlib.Core.Path.{◌≡◌, refl, sym, ap, ◌∙◌}
use Prim.Native.Nat.{ℕ, ◌+◌, ◌-◌, ◌<◌, ◌≤◌}
use native.Mathlib.Nat.{zero-add}
use native.Mathlib.Omega.{arith}
use lib.Ieee.{Float}
use Rattle.std.specs.Prelude.{if◌then◌else◌}
use Rattle.arrays.specs.Fold.{fold, among}
use Rattle.arrays.proofs.Tests.{if-both, by-test}
use Rattle.arrays.proofs.FoldLaws.{fold-none, fold_same}
use Rattle.floats.specs.Operations.{◌⊕◌, ◌⊗◌, 0f, 1f}
use Rattle.definitions.specs.Storage.{with_diagonal}
use Rattle.definitions.specs.declared.Diagonal.{Diagonal}
use Rattle.packing.specs.Factor.{Matrix}
use Rattle.lines.specs.Lines.{line_term}
use Rattle.trmm_diagonal.specs.Terms.{has, term_from}
use Rattle.trmm_diagonal.proofs.HasLaws.{block-then-after, before-then-block}
use Rattle.trmm_diagonal.proofs.DiagonalLaws.{beside}
use Rattle.trmm.specs.Sum.{sum_of}

-- ---- one term

-- it reads one entry of op(A)
same-entry : (left : Bool) (alpha : Float) (T S : Matrix) (q : ℕ) (e : Float) (p : ℕ) (x : Float) → T q p ≡ S q p → T p q ≡ S p q
    → line_term left alpha T q e p x ≡ line_term left alpha S q e p x
unfolding line_term
same-entry true alpha T S q e p x h k = ap (λ (u : Float). e ⊕ (alpha ⊗ x) ⊗ u) h
same-entry false alpha T S q e p x h k = ap (λ (u : Float). e ⊕ (alpha ⊗ u) ⊗ x) k

-- beside the diagonal this is the array's
pub beside-term : (left : Bool) (alpha : Float) (diag : Diagonal) (M : Matrix) (q : ℕ) (e : Float) (p : ℕ) (x : Float) → (q ≡ p → ⊥)
    → line_term left alpha M q e p x ≡ line_term left alpha (with_diagonal 1f diag M) q e p x
beside-term left alpha diag M q e p x h =
    same-entry left alpha M (with_diagonal 1f diag M) q e p x (sym (beside diag M q p h)) (sym (beside diag M p q (λ z. h (sym z))))

module _ (left after : Bool) (alpha : Float) (T : Matrix) where
  -- ---- the terms of a range

  module _ (x : ℕ → Float) (q : ℕ) where
    -- the terms of all elements, counted from 0 on
    whole_sum : (m : ℕ) (e : Float) → fold (among (has after q) (λ e p. line_term left alpha T q e p (x p))) m e ≡ fold (term_from left after alpha T 0 x q) m e
    unfolding term_from among
    whole_sum m e = fold_same _ _ m e (λ p b e. ap (λ (k : ℕ). if has after q k then line_term left alpha T q e k (x p) else e) (sym (zero-add p)))

    -- the terms of the block, and those after it
    pub sum-after : (p n rest m : ℕ) (e : Float) → p + n + rest ≡ m → after ≡ true → p ≤ q → q < p + n
        → fold (λ e i. line_term left alpha T q e (p + n + i) (x (p + n + i))) rest (fold (term_from left after alpha T p (λ i. x (p + i)) q) n e)
        ≡ fold (term_from left after alpha T 0 x q) m e
    unfolding term_from among
    sum-after p n rest m e em a lo hi = block-then-after (λ e p. line_term left alpha T q e p (x p)) q p n rest m e em lo hi a ∙ whole_sum m e

    -- the terms before the block, and its own
    pub sum-before : (p n rest m : ℕ) (e : Float) → p + n + rest ≡ m → after ≡ false → p ≤ q → q < p + n
        → fold (term_from left after alpha T p (λ i. x (p + i)) q) n (fold (λ e i. line_term left alpha T q e (0 + i) (x (0 + i))) p e)
        ≡ fold (term_from left after alpha T 0 x q) m e
    unfolding term_from among
    sum-before p n rest m e em a lo hi =
        ap (fold (term_from left after alpha T p (λ i. x (p + i)) q) n) (fold_same _ _ p e (λ i b e. ap (λ (k : ℕ). line_term left alpha T q e k (x k)) (zero-add i)))
        ∙ before-then-block (λ e p. line_term left alpha T q e p (x p)) q p n rest m e em lo hi a
        ∙ whole_sum m e

    -- the block's own, if there are none beside it
    pub sum-alone : (p n m : ℕ) (e : Float) → p + n ≤ m → (after ≡ true → p + n ≡ m) → (after ≡ false → p ≡ 0) → p ≤ q → q < p + n
        → fold (term_from left after alpha T p (λ i. x (p + i)) q) n e ≡ fold (term_from left after alpha T 0 x q) m e
    sum-alone p n m e fit none_after none_before lo hi =
        by-test after
        (λ a. sym (fold-none _ _) ∙ sum-after p n 0 m e (omega (arith, none_after a)) a lo hi)
        (λ a.
        sym (ap (fold (term_from left after alpha T p (λ i. x (p + i)) q) n) (ap (λ (k : ℕ). fold (λ e i. line_term left alpha T q e (0 + i) (x (0 + i))) k e) (none_before a) ∙ fold-none _ e))
        ∙ sum-before p n (m - (p + n)) m e (omega arith) a lo hi)

    -- the value of a term that the element does not have is not read
    term-same : (lo : ℕ) (e : Float) (i : ℕ) (y : ℕ → Float) → (has after q (lo + i) ≡ true → x i ≡ y i)
        → term_from left after alpha T lo x q e i ≡ term_from left after alpha T lo y q e i
    unfolding term_from among
    term-same lo e i y h = if-both (has after q (lo + i)) _ e _ e (λ k. ap (line_term left alpha T q e (lo + i)) (h k)) (λ _. refl)

  -- an element's sum does not read the elements whose terms it does not have
  pub sum_same : (m : ℕ) (x y : ℕ → Float) (q : ℕ) → ((p : ℕ) → p < m → has after q p ≡ true → x p ≡ y p)
      → sum_of left after alpha T m x q ≡ sum_of left after alpha T m y q
  unfolding sum_of
  sum_same m x y q h = fold_same _ _ m 0f (λ p b e. term-same x q 0 e p y (λ k. h p b (ap (has after q) (sym (zero-add p)) ∙ k)))
