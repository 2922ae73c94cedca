-- The lowest index at which the diagonal is zero, as the call reports it.
-- Assumes nothing.
use mathlib.Core.Bool.{Bool, true, false, not, ◌&&◌, ◌||◌, true≢false}
use mathlib.Core.Path.{◌≡◌, refl, sym, ap, ap₂, ◌∙◌}
use mathlib.Core.Logic.{⊎_elim}
use mathlib.Core.List.{List}
use Prim.Native.Nat.{ℕ, ◌<◌, ◌≤◌}
use native.Mathlib.Nat.{mul-le-mul}
use native.Mathlib.Omega.{arith}
use lib.ListN.{length}
use lib.Ieee.{Float, nan}
use borrow.Author.Tests.{ne_eqb}
use Rattle.std.specs.Prelude.{Option, Some, None, IfSome}
use Rattle.arrays.specs.Search.{lowest, Found, none, answer, answer_of}
use Rattle.arrays.proofs.Tests.{if-true, if-false, by-test}
use Rattle.arrays.proofs.UpdateLaws.{lt-or-ge}
use Rattle.arrays.proofs.SearchLaws.{found-same, found-answer}
use Rattle.floats.specs.Array.{at}
use Rattle.definitions.specs.Number.{is_zero}
use Rattle.definitions.specs.Storage.{stored}
use Rattle.definitions.specs.Call.{by_side, empty, order, shape_a}
use Rattle.definitions.specs.Element.{by_zero, zero_on_diagonal, zero_of}
use Rattle.definitions.specs.declared.Routine.TheVariants.{Trsm}
use Rattle.definitions.specs.declared.Side.{Side}
use Rattle.definitions.specs.declared.Diagonal.{Diagonal}
use Rattle.definitions.specs.declared.Call.{Call}
use Rattle.definitions.proofs.Fits.{Fits}
use Rattle.packing.specs.Factor.{index_of, entry_of}
use Rattle.forms.specs.Forms.{op_form}
use Rattle.trsm_diagonal.proofs.BlockLaws.{diagonal-index}

module _ (c : Call) (s : Side) (es : c.side ≡ s) (a : List Float) (lenb lenc : ℕ) (k : Fits Trsm c (length a) lenb lenc) where
  abbrev m : ℕ
  m = by_side s c.m c.n

  abbrev Zero : Diagonal → Option ℕ → Type 0
  Zero diag z = Found (λ i. not (is_zero c.alpha) && by_zero diag (entry_of (op_form c.transa) a c.lda i i)) m z

  -- with alpha zero nothing is found
  none_found : (diag : Diagonal) (i : ℕ) → Zero diag (Some i) → is_zero c.alpha ≡ true → ⊥
  none_found diag i found e = true≢false (sym (rw e at found.1))

  -- an index that is found is small, since A is in memory
  pub zero-small : (diag : Diagonal) (z : Option ℕ) → Zero diag z → length a < 4611686018427387904
      → (is_zero c.alpha ≡ false → (i j : ℕ) → i < m → j < m → index_of (op_form c.transa) c.lda i j < length a) → IfSome z (λ i. i < 2147483648)
  unfolding shape_a order
  zero-small diag None found few reads = tt
  zero-small diag (Some i) found few reads =
      by-test (is_zero c.alpha)
      (λ e. absurd (none_found diag i found e))
      (λ e.
      ⊎_elim (λ (h : i < 2147483648). h)
      (λ (h : 2147483648 ≤ i).
      let wide : 2147483648 ≤ c.lda = omega (arith, rw es at k.ld-a) in
      let f : ⊥ = omega (arith, reads e i i found.0 found.0, diagonal-index c.transa c.lda i, mul-le-mul h wide) in absurd f)
      (lt-or-ge i 2147483648))

  -- a call that fits is not empty
  not-empty : (empty c || is_zero c.alpha) ≡ is_zero c.alpha
  unfolding empty
  not-empty = rw (ne_eqb c.m 0 (λ e. omega (arith, k.some-rows)), ne_eqb c.n 0 (λ e. omega (arith, k.some-columns)))

  -- the diagonal of op(A) is A's
  abbrev on_diagonal : ℕ → Bool
  on_diagonal i = by_zero c.diag (stored nan a c.lda i i)

  on-diagonal : (z : Option ℕ) → Zero c.diag z → is_zero c.alpha ≡ false → Found on_diagonal m z
  unfolding stored entry_of
  on-diagonal z found e =
      found-same _ _ m z (λ i b. ap₂ (λ (t : Bool) (d : Float). not t && by_zero c.diag d) e (ap (at a) (diagonal-index c.transa c.lda i))) found

  pub zero-reported : (z : Option ℕ) → Zero c.diag z → answer_of z ≡ zero_of Trsm c a
  unfolding answer_of zero_of zero_on_diagonal order
  zero-reported z found =
      by-test (is_zero c.alpha)
      (λ e. nothing z found e ∙ sym (if-true (empty c || is_zero c.alpha) none _ (not-empty ∙ e)))
      (λ e.
      found-answer on_diagonal m z (on-diagonal z found e)
      ∙ ap (λ (s : Side). answer (by_side s c.m c.n) (lowest on_diagonal (by_side s c.m c.n))) (sym es)
      ∙ sym (if-false (empty c || is_zero c.alpha) none _ (not-empty ∙ e)))
    where
      nothing : (z : Option ℕ) → Zero c.diag z → is_zero c.alpha ≡ true → answer_of z ≡ none
      nothing None found e = refl
      nothing (Some i) found e = absurd (none_found c.diag i found e)
