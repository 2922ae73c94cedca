-- The lowest index at which the diagonal is zero, among the unknowns that are solved.
-- Assumes nothing.
use mathlib.Core.Bool.{Bool, true, false, ◌&&◌, ◌||◌, or-false}
use mathlib.Core.Path.{◌≡◌, refl, sym, ap, subst, ◌∙◌}
use mathlib.Core.Logic.{⊎_elim}
use Prim.Native.Nat.{ℕ, ◌+◌, ◌-◌, ◌<◌, ◌≤◌}
use native.Mathlib.Nat.{add-zero}
use native.Mathlib.Omega.{arith}
use lib.Dec.{leb, ltb, leb-zero}
use borrow.Author.Tests.{ltb-true, leb-true, lt-ltb, le-ltb, le-leb, lt-leb}
use Rattle.std.specs.Prelude.{Option, Some, None, option_map}
use Rattle.std.specs.Bool.{then_some}
use Rattle.arrays.specs.Search.{Found, lower}
use Rattle.arrays.proofs.Tests.{and_left, and_right, by-test}
use Rattle.arrays.proofs.UpdateLaws.{lt-or-ge}
use Rattle.arrays.proofs.SearchLaws.{found-same, lower-joins}
use Rattle.definitions.specs.Element.{by_zero}
use Rattle.definitions.specs.declared.Diagonal.{Diagonal}
use Rattle.packing.specs.Factor.{Matrix, turn}
use Rattle.packing.proofs.FactorLaws.{turn_below}
use Rattle.lines.specs.Lines.{within}
use Rattle.lines.proofs.GridLaws.{within_in}
use Rattle.trsm_diagonal.specs.Solve.{first, zero_among}
use Rattle.trsm_diagonal.proofs.OrderLaws.{first_one, within-turn}

-- ---- the lowest of some indices: those from x0 on, n of them

module _ (test : ℕ → Bool) (m x0 n : ℕ) (low : x0 + n ≤ m) where
  -- none of them passes below the z-th
  none_below : (z i : ℕ) → ((k : ℕ) → k < z → test (x0 + k) ≡ false) → (i < x0 + n → i < x0 + z) → (within x0 n i && test i) ≡ false
  unfolding within
  none_below z i h b =
      by-test (within x0 n i)
      (λ w.
      let lo = leb-true x0 i (and_left (leb x0 i) (ltb i (x0 + n)) w) in
      let up = b (ltb-true i (x0 + n) (and_right (leb x0 i) (ltb i (x0 + n)) w)) in
      let e : x0 + (i - x0) ≡ i = omega arith in
      rw w (subst (λ (k : ℕ). test k ≡ false) e (h (i - x0) (omega arith))))
      (λ w. rw w refl)

  found-from : (z : Option ℕ) → Found (λ i. test (x0 + i)) n z → Found (λ i. within x0 n i && test i) m (option_map (λ i. x0 + i) z)
  found-from None h = λ i b. none_below n i h (λ c. c)
  found-from (Some z) h =
      (omega (arith, h.0), rw (within_in x0 n (x0 + z) (omega arith) (omega (arith, h.0))) h.1, λ i b. none_below z i h.2 (λ _. b))

-- ---- the divisions by zero, by unknowns

module _ (down : Bool) (m : ℕ) (diag : Diagonal) (T : Matrix) where
  abbrev zero_at : ℕ → Bool
  zero_at i = by_zero diag (T i i)

  -- r is the lowest index of those of the unknowns from the p-th on and below the e-th
  abbrev pub LowestZero : ℕ → ℕ → Option ℕ → Type 0
  LowestZero p e r = Found (zero_among down m diag T p e) m r

  pub zero-none : LowestZero 0 0 None
  unfolding zero_among
  zero-none i b = rw (leb-zero (turn down m i), le-ltb (turn down m i) 0 (omega arith))

  -- of the unknowns from the p-th on, n of them, which have the indices from x0 on: z is the lowest, counted from x0
  pub zero-found : (p n x0 : ℕ) (z x : Option ℕ) → p + n ≤ m → x0 ≡ first down m p n → x0 + n ≤ m → Found (λ i. zero_at (x0 + i)) n z → x ≡ option_map (λ i. x0 + i) z
      → LowestZero p (p + n) x
  unfolding zero_among within
  zero-found p n x0 z x h e low k ex =
      rw ex
      (found-same _ _ m _ (λ i b. ap (λ (t : Bool). t && zero_at i) (ap (λ (x : ℕ). within x n i) e ∙ within-turn down m p n i h b)) (found-from zero_at m x0 n low z k))

  -- of the first q unknowns, and of those after them
  pub zero_more : (q e : ℕ) (r s x : Option ℕ) → q ≤ e → LowestZero 0 q r → LowestZero q e s → x ≡ lower r s → LowestZero 0 e x
  unfolding zero_among
  zero_more q e r s x h before next ex =
      rw ex (found-same _ _ m (lower r s) (λ j b. joined (turn down m j) (zero_at j)) (lower-joins _ _ m r s before next))
    where
      joined : (t : ℕ) (z : Bool) → ((leb 0 t && ltb t q) && z || (leb q t && ltb t e) && z) ≡ ((leb 0 t && ltb t e) && z)
      joined t z =
          ⊎_elim
          (λ (k : t < q). rw (leb-zero t, lt-ltb t q k, lt-leb q t k, lt-ltb t e (omega arith)) (or-false z))
          (λ k. rw (leb-zero t, le-ltb t q k, le-leb q t k))
          (lt-or-ge t q)

  -- the next unknown, whose index is i
  pub zero-unknown : (j i : ℕ) (r x : Option ℕ) (found : Bool) → j < m → i ≡ turn down m j → LowestZero 0 j r → found ≡ zero_at i → x ≡ lower r (then_some found i)
      → LowestZero 0 (j + 1) x
  zero-unknown j i r x found h ei before ef =
      zero_more j (j + 1) r (then_some found i) x (omega arith) before (one found ef)
    where
      below : i + 1 ≤ m
      below = omega (arith, turn_below down m j h)

      one : (found : Bool) → found ≡ zero_at i → LowestZero j (j + 1) (then_some found i)
      one true e =
          zero-found j 1 i (Some 0) _ (omega arith) (ei ∙ sym (first_one down m j)) below (omega arith, ap zero_at (add-zero i) ∙ sym e, λ k b. absurd (let f : ⊥ = omega arith in f))
          (ap Some (sym (add-zero i)))
      one false e = zero-found j 1 i None _ (omega arith) (ei ∙ sym (first_one down m j)) below (λ k b. let z : i + k ≡ i = omega arith in rw z (sym e)) refl

  pub zero-all : (r : Option ℕ) → LowestZero 0 m r → Found zero_at m r
  unfolding zero_among
  zero-all r = found-same _ _ m r (λ i b. rw (leb-zero (turn down m i), lt-ltb (turn down m i) m (turn_below down m i b)))
