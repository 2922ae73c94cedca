-- The sum of one element, straight from the arrays: its own term comes first if the others lie after it, else last.
-- Assumes nothing.
use mathlib.Core.Bool.{Bool, true, false}
use mathlib.Core.Path.{◌≡◌, refl, ap, ◌∙◌}
use mathlib.Core.List.{List}
use Prim.Native.Nat.{ℕ, ◌+◌, ◌-◌, ◌<◌}
use native.Mathlib.Nat.{add-zero}
use native.Mathlib.Omega.{arith}
use lib.Ieee.{Float, nan}
use Rattle.std.specs.Prelude.{if◌then◌else◌}
use Rattle.arrays.specs.Update.{update}
use Rattle.arrays.specs.Fold.{fold, among}
use Rattle.arrays.proofs.Tests.{if-both, by-test}
use Rattle.arrays.proofs.FoldLaws.{fold_same}
use Rattle.floats.specs.Array.{at}
use Rattle.floats.specs.Operations.{0f, 1f}
use Rattle.definitions.specs.Storage.{with_diagonal}
use Rattle.definitions.specs.declared.Diagonal.{Diagonal}
use Rattle.packing.specs.Factor.{Matrix, along}
use Rattle.lines.specs.Lines.{cell, grid, within, line_term, coefficient}
use Rattle.elements.specs.Sums.{term_of, begun, finished, line_sum, Summed}
use Rattle.elements.specs.declared.Start.{Start}
use Rattle.elements.specs.declared.Start.TheVariants.{Zero, OwnFirst}
use Rattle.elements.specs.declared.End.{End}
use Rattle.elements.specs.declared.End.TheVariants.{Sum, OwnLast}
use Rattle.lines.proofs.GridLaws.{grid-same-at}
use Rattle.elements.proofs.StrideLaws.{term_is}
use Rattle.trmm_diagonal.specs.Terms.{term_from}
use Rattle.trmm_diagonal.proofs.ChosenLaws.{within-bounds}
use Rattle.trmm_diagonal.proofs.HasLaws.{has-own}
use Rattle.trmm_diagonal.proofs.DiagonalLaws.{coefficient-own}
use Rattle.trmm.specs.Sum.{sum_of}
use Rattle.trmm.proofs.SumLaws.{beside-term, sum-after, sum-before}

-- ---- the terms

-- an element's own, which is a block of one
own-term : (left after : Bool) (alpha : Float) (T : Matrix) (i : ℕ) (x : ℕ → Float) (w e : Float) → w ≡ T i i
    → term_of left alpha w e (x i) ≡ fold (term_from left after alpha T i (λ k. x (i + k)) i) 1 e
unfolding fold term_from among
own-term left after alpha T i x w e h = rw (add-zero, has-own after i) (term_is left alpha T i i e (x i) w (h ∙ coefficient-own left T i))

module _ (left : Bool) (alpha : Float) (diag : Diagonal) (M : Matrix) (i : ℕ) where
  abbrev T : Matrix
  T = with_diagonal 1f diag M

  -- those of n other elements, from lo on
  other-terms : (x : ℕ → Float) (lo n : ℕ) (e : Float) → ((k : ℕ) → k < n → i ≡ lo + k → ⊥)
      → fold (λ e k. term_of left alpha (coefficient left M i (lo + k)) e (x (lo + k))) n e ≡ fold (λ e k. line_term left alpha T i e (lo + k) (x (lo + k))) n e
  other-terms x lo n e other =
      fold_same _ _ n e
      (λ k h e.
      term_is left alpha M i (lo + k) e (x (lo + k)) _ refl ∙ beside-term left alpha diag M i e (lo + k) (x (lo + k)) (other k h))

  -- ---- the sum

  module _ (after : Bool) (m : ℕ) (low : i < m) {w : Float} {start : Start} {end : End} {lo count : ℕ} (ew : w ≡ T i i)
      (es : start ≡ (if after then OwnFirst w else Zero)) (ee : end ≡ (if after then Sum else OwnLast w))
      (el : lo ≡ (if after then i + 1 else 0)) (ec : count ≡ (if after then m - 1 - i else i)) where
    sum_is : (x : ℕ → Float)
        → line_sum left alpha start end (λ k. coefficient left M i (along false lo k)) (λ k. x (along false lo k)) count (x i) ≡ sum_of left after alpha T m x i
    unfolding line_sum begun finished along sum_of
    sum_is x =
        by-test after
        (λ (z : after ≡ true).
        rw (es, ee, el, ec, z)
        (other-terms x (i + 1) (m - 1 - i) _ (λ k h y. omega arith)
        ∙ ap (fold _ (m - 1 - i)) (own-term left true alpha T i x w 0f ew)
        ∙ sum-after left true alpha T x i i 1 (m - 1 - i) m 0f (omega arith) refl (omega arith) (omega arith)))
        (λ z.
        rw (es, ee, el, ec, z)
        (own-term left false alpha T i x w _ ew
        ∙ ap (fold _ 1) (other-terms x 0 i 0f (λ k h y. omega arith))
        ∙ sum-before left false alpha T x i i 1 (m - 1 - i) m 0f (omega arith) refl (omega arith) (omega arith)))

    -- of each line
    pub element-summed : (ld lines : ℕ) (b r : List Float)
        → Summed left ld m lines i alpha start end (λ k. coefficient left M i (along false lo k)) (along false lo) count b r
        → r ≡ update (grid left ld m lines (λ q l e. if within i 1 q then sum_of left after alpha T m (λ p. at b (cell left ld p l)) q else e)) b
    element-summed ld lines b r er =
        er ∙ grid-same-at nan left ld m lines _ _ b
        (λ q l hq hl.
        if-both (within i 1 q) _ _ _ _
        (λ k. let own : q ≡ i = omega (arith, within-bounds i 1 q k) in rw own (sum_is (λ p. at b (cell left ld p l))))
        (λ _. refl))
