-- The diagonal block: the entries of op(A)'s diagonal, the coefficients, and the terms from factors that are held.
-- Assumes nothing.
use mathlib.Core.Bool.{Bool, true, false}
use mathlib.Core.Path.{◌≡◌, refl, sym, ap, ap₂, subst, ◌∙◌}
use mathlib.Core.Logic.{⊎_elim}
use mathlib.Core.List.{List}
use Prim.Native.Nat.{ℕ, ◌+◌, ◌*◌, ◌<◌, ◌≤◌}
use native.Mathlib.Omega.{arith}
use lib.ListN.{length}
use lib.Ieee.{Float, nan}
use borrow.Author.Tests.{leb-true, eq-eqb, ne_eqb}
use Rattle.std.specs.Prelude.{if◌then◌else◌}
use Rattle.arrays.specs.Update.{update, region}
use Rattle.arrays.specs.Fold.{fold, among}
use Rattle.arrays.proofs.Tests.{if-both}
use Rattle.arrays.proofs.FoldLaws.{fold_same}
use Rattle.arrays.proofs.UpdateLaws.{lt-or-ge, same_or_not, length-update}
use Rattle.floats.specs.Array.{at}
use Rattle.floats.specs.Operations.{◌⊕◌, ◌⊗◌, 1f}
use Rattle.floats.proofs.Laws.{⊗-comm}
use Rattle.definitions.specs.Storage.{with_diagonal}
use Rattle.definitions.specs.declared.Diagonal.{Diagonal}
use Rattle.definitions.specs.declared.Diagonal.TheVariants.{Unit, Nonunit}
use Rattle.definitions.specs.declared.Transpose.{Transpose}
use Rattle.definitions.specs.declared.Transpose.TheVariants.{No, Yes}
use Rattle.packing.specs.Factor.{Matrix, index_of, entry_of, turn}
use Rattle.forms.specs.Forms.{op_form}
use Rattle.lines.specs.Lines.{cell, grid, line_term, coefficient, Beside}
use Rattle.lines.proofs.GridLaws.{grid-at, grid-same}
use Rattle.trmm_diagonal.specs.Terms.{has, held_terms, term_from, Pivots}
use Rattle.trmm_diagonal.proofs.ChosenLaws.{buffer-room}
use Rattle.trmm_diagonal.proofs.HasLaws.{has-from}

-- ---- the entries of the diagonal

pub unit-entry : (diag : Diagonal) (M : Matrix) (p : ℕ) → diag ≡ Unit → 1f ≡ with_diagonal 1f diag M p p
unfolding with_diagonal
unit-entry diag M p e = rw (e, eq-eqb p p refl) refl

pub diagonal-index : (t : Transpose) (lda p : ℕ) → index_of (op_form t) lda p p ≡ p * lda + p
unfolding index_of
diagonal-index No lda p = refl
diagonal-index Yes lda p = refl

pub stored-entry : (diag : Diagonal) (t : Transpose) (a : List Float) (lda p : ℕ) → diag ≡ Nonunit
    → at a (p * lda + p) ≡ with_diagonal 1f diag (entry_of (op_form t) a lda) p p
unfolding with_diagonal entry_of
stored-entry diag t a lda p e = rw e (ap (at a) (sym (diagonal-index t lda p)))

-- the entries beside the diagonal are those of the array
pub beside : (diag : Diagonal) (M : Matrix) (i j : ℕ) → (i ≡ j → ⊥) → with_diagonal 1f diag M i j ≡ M i j
unfolding with_diagonal
beside Unit M i j h = rw (ne_eqb i j h)
beside Nonunit M i j h = refl

-- ---- the coefficients

has-beside : (after : Bool) (i p : ℕ) → has after i p ≡ true → (i ≡ p → ⊥) → Beside after i p
unfolding has
has-beside true i p h z = let k : i ≤ p = leb-true i p h in ⊎_elim (λ (u : i < p). u) (λ u. absurd (z (omega arith))) (lt-or-ge i p)
has-beside false i p h z = let k : p ≤ i = leb-true p i h in ⊎_elim (λ (u : p < i). u) (λ u. absurd (z (omega arith))) (lt-or-ge p i)

coefficient-beside : (left : Bool) (diag : Diagonal) (M : Matrix) (q p : ℕ) → (q ≡ p → ⊥) → coefficient left M q p ≡ coefficient left (with_diagonal 1f diag M) q p
unfolding coefficient
coefficient-beside true diag M q p h = sym (beside diag M q p h)
coefficient-beside false diag M q p h = sym (beside diag M p q (λ z. h (sym z)))

pub coefficient-own : (left : Bool) (T : Matrix) (p : ℕ) → T p p ≡ coefficient left T p p
unfolding coefficient
coefficient-own true T p = refl
coefficient-own false T p = refl

module _ (diag : Diagonal) (M : Matrix) (p₀ : ℕ) where
  -- all of the diagonal, in the place of the coefficients' own
  pub triangle-held : (left after : Bool) (n : ℕ) (v₀ v : List Float) → n ≤ 64
      → ((i p : ℕ) → i < n → p < n → Beside after i p → at v₀ (i * 64 + turn false n p) ≡ coefficient left M (p₀ + i) (p₀ + p))
      → Pivots diag M p₀ n v₀ v
      → (i p : ℕ) → i < n → p < n → has after i p ≡ true → at v (i * 64 + p) ≡ coefficient left (with_diagonal 1f diag M) (p₀ + i) (p₀ + p)
  unfolding turn
  triangle-held left after n v₀ v few coefficients s i p hi hp h =
      ⊎_elim
      (λ (z : i ≡ p).
      subst (λ (k : ℕ). at v (i * 64 + k) ≡ coefficient left (with_diagonal 1f diag M) (p₀ + i) (p₀ + k)) z
      (s.own i hi ∙ coefficient-own left (with_diagonal 1f diag M) (p₀ + i)))
      (λ z.
      s.others i p (omega arith) z ∙ coefficients i p hi hp (has-beside after i p h z)
      ∙ coefficient-beside left diag M (p₀ + i) (p₀ + p) (λ y. z (omega arith)))
      (same_or_not i p)

-- ---- the terms

-- the factors that are held, by the side: alpha is in u for side L and in v for side R
term-left : (alpha : Float) (T : Matrix) (q p : ℕ) (e x v u : Float) → v ≡ coefficient true T q p → u ≡ alpha ⊗ x → e ⊕ v ⊗ u ≡ line_term true alpha T q e p x
unfolding coefficient line_term
term-left alpha T q p e x v u ev eu = ap₂ (λ (s r : Float). e ⊕ s ⊗ r) ev eu ∙ ap (λ (r : Float). e ⊕ r) (⊗-comm (T q p) (alpha ⊗ x))

term-right : (alpha : Float) (T : Matrix) (q p : ℕ) (e x v u : Float) → v ≡ alpha ⊗ coefficient false T q p → u ≡ x → e ⊕ v ⊗ u ≡ line_term false alpha T q e p x
unfolding coefficient line_term
term-right alpha T q p e x v u ev eu = ap₂ (λ (s r : Float). e ⊕ s ⊗ r) ev eu

module _ (after : Bool) (alpha : Float) (T : Matrix) (p₀ n lines : ℕ) (X : ℕ → ℕ → Float) where
  -- all terms, if each is
  terms-held : (left : Bool) (u v : List Float) (q l : ℕ) (e : Float)
      → ((p : ℕ) → p < n → has after q p ≡ true → (e : Float) → e ⊕ at v (q * 64 + p) ⊗ at u (p * 64 + l) ≡ line_term left alpha T (p₀ + q) e (p₀ + p) (X p l))
      → held_terms after n u v q l e ≡ fold (term_from left after alpha T p₀ (λ k. X k l) (p₀ + q)) n e
  unfolding held_terms term_from among
  terms-held left u v q l e h =
      fold_same _ _ n e
      (λ p b e.
      if-both (has after q p) _ e _ e (λ k. h p b k e) (λ _. refl)
      ∙ ap (λ (t : Bool). if t then line_term left alpha T (p₀ + q) e (p₀ + p) (X p l) else e) (has-from after p₀ q p))

  module _ (x₀ x v z r : List Float) (hn : n ≤ 64) (hl : lines ≤ 64) (sn : 0 < n) (sl : 0 < lines) (room : 4096 ≤ length x₀)
      (ex : x ≡ update (grid false 64 n lines (λ q l _. X q l)) x₀) where
    same : length x ≡ length x₀
    same = ap length ex ∙ length-update _ x₀

    value : (p l : ℕ) → p < n → l < lines → at x (p * 64 + l) ≡ X p l
    unfolding cell
    value p l hp hll = grid-at nan false 64 n lines (λ q l _. X q l) x₀ x p l (buffer-room false n lines (length x₀) hn hl sn sl room) hp hll ex

    -- side L: the values times alpha
    pub across-left : (left : Bool) → left ≡ true → (u : List Float) → u ≡ update (region 64 lines n (λ i j y. alpha ⊗ y)) x
        → ((q p : ℕ) → q < n → p < n → has after q p ≡ true → at v (q * 64 + p) ≡ coefficient left T (p₀ + q) (p₀ + p))
        → r ≡ update (grid false 64 n lines (λ q l e. held_terms after n u v q l e)) z
        → r ≡ update (grid false 64 n lines (λ q l e. fold (term_from left after alpha T p₀ (λ k. X k l) (p₀ + q)) n e)) z
    unfolding grid cell
    across-left left side u eu ev er =
        rw side
        (er ∙ grid-same false 64 n lines _ _ z (omega arith)
        (λ q l hq hll e.
        terms-held true u v q l e
        (λ p hp h e.
        term-left alpha T (p₀ + q) (p₀ + p) e (X p l) _ _ (rw side at (ev q p hq hp h))
        (grid-at nan false 64 n lines (λ _ _ y. alpha ⊗ y) x u p l (buffer-room false n lines (length x) hn hl sn sl (omega (arith, same))) hp hll eu ∙ ap (λ (y : Float). alpha ⊗ y) (value p l hp hll)))))

    -- side R: the coefficients times alpha
    pub across-right : (left : Bool) → left ≡ false → (w : List Float) → 4096 ≤ length v → w ≡ update (region 64 n n (λ i j y. alpha ⊗ y)) v
        → ((q p : ℕ) → q < n → p < n → has after q p ≡ true → at v (q * 64 + p) ≡ coefficient left T (p₀ + q) (p₀ + p))
        → r ≡ update (grid false 64 n lines (λ q l e. held_terms after n x w q l e)) z
        → r ≡ update (grid false 64 n lines (λ q l e. fold (term_from left after alpha T p₀ (λ k. X k l) (p₀ + q)) n e)) z
    unfolding grid cell
    across-right left side w held ew ev er =
        rw side
        (er ∙ grid-same false 64 n lines _ _ z (omega arith)
        (λ q l hq hll e.
        terms-held false x w q l e
        (λ p hp h e.
        term-right alpha T (p₀ + q) (p₀ + p) e (X p l) _ _
        (grid-at nan false 64 n n (λ _ _ y. alpha ⊗ y) v w q p (buffer-room false n n (length v) hn hn sn sn held) hq hp ew
        ∙ ap (λ (y : Float). alpha ⊗ y) (rw side at (ev q p hq hp h))) (value p l hp hll))))
