-- Laws of the order of solving: the indices of some unknowns, and updates by unknown and line.
-- Assumes nothing.
use mathlib.Core.Bool.{Bool, true, false}
use mathlib.Core.Path.{◌≡◌, refl, sym, ap, subst, ◌∙◌}
use mathlib.Core.Logic.{⊎_elim}
use mathlib.Core.List.{List}
use Prim.Native.Nat.{ℕ, ◌+◌, ◌-◌, ◌<◌, ◌≤◌}
use native.Mathlib.Omega.{arith}
use lib.ListN.{length, get_or}
use Rattle.arrays.specs.Update.{update}
use Rattle.arrays.proofs.UpdateLaws.{lt-or-ge}
use Rattle.packing.specs.Factor.{turn}
use Rattle.packing.proofs.FactorLaws.{turn_below, turn-turn}
use Rattle.lines.specs.Lines.{cell, within, Room}
use Rattle.lines.proofs.GridLaws.{within_in, within-before, within-after, grid-then, grid-same, grid-same-at, grid-at}
use Rattle.trsm_diagonal.specs.Solve.{first, ordered}

-- the t-th of n unknowns from the p-th on, whose least index is x
pub turn-from : (down : Bool) (m p n x t : ℕ) → p + n ≤ m → x ≡ first down m p n → t < n → turn down m (p + t) ≡ x + turn down n t
unfolding turn first
turn-from true m p n x t h e b = omega arith
turn-from false m p n x t h e b = omega arith

pub first_one : (down : Bool) (m q : ℕ) → first down m q 1 ≡ turn down m q
unfolding turn first
first_one true m q = omega arith
first_one false m q = refl

-- an index is among theirs if its unknown is among them
pub within-turn : (down : Bool) (m p n i : ℕ) → p + n ≤ m → i < m → within (first down m p n) n i ≡ within p n (turn down m i)
unfolding first turn
within-turn false m p n i h b = refl
within-turn true m p n i h b =
    ⊎_elim
    (λ (k : i < m - (p + n)). within-before (m - (p + n)) n i k ∙ sym (within-after p n (m - 1 - i) (omega arith)))
    (λ k. ⊎_elim
    (λ (l : i < m - (p + n) + n). within_in (m - (p + n)) n i k l ∙ sym (within_in p n (m - 1 - i) (omega arith) (omega arith)))
    (λ l. within-after (m - (p + n)) n i l ∙ sym (within-before p n (m - 1 - i) (omega arith)))
    (lt-or-ge i (m - (p + n) + n)))
    (lt-or-ge i (m - (p + n)))

-- ---- updates by unknown and line

module _ {A : Type 0} (left down : Bool) (ld m lines : ℕ) where
  pub ordered-then : (f g h : ℕ → ℕ → A → A) (b c e : List A) → 0 < ld
      → c ≡ update (ordered left down ld m lines f) b → e ≡ update (ordered left down ld m lines g) c
      → ((q l : ℕ) → q < m → l < lines → (x : A) → g q l (f q l x) ≡ h q l x) → e ≡ update (ordered left down ld m lines h) b
  unfolding ordered
  ordered-then f g h b c e pos ec ee k =
      grid-then left ld m lines _ _ _ b c e pos ec ee (λ i l hi hl x. k (turn down m i) l (turn_below down m i hi) hl x)

  pub ordered_same : (f g : ℕ → ℕ → A → A) (b : List A) → 0 < ld → ((q l : ℕ) → q < m → l < lines → (x : A) → f q l x ≡ g q l x)
      → update (ordered left down ld m lines f) b ≡ update (ordered left down ld m lines g) b
  unfolding ordered
  ordered_same f g b pos h = grid-same left ld m lines _ _ b pos (λ i l hi hl x. h (turn down m i) l (turn_below down m i hi) hl x)

  -- the same at the values that the array has
  pub ordered-same-at : (d : A) (f g : ℕ → ℕ → A → A) (b : List A)
      → ((q l : ℕ) → q < m → l < lines → f q l (get_or b (cell left ld (turn down m q) l) d) ≡ g q l (get_or b (cell left ld (turn down m q) l) d))
      → update (ordered left down ld m lines f) b ≡ update (ordered left down ld m lines g) b
  unfolding ordered
  ordered-same-at d f g b h =
      grid-same-at d left ld m lines _ _ b
      (λ i l hi hl.
      subst (λ (p : ℕ). f (turn down m i) l (get_or b (cell left ld p l) d) ≡ g (turn down m i) l (get_or b (cell left ld p l) d)) (turn-turn down m i hi)
      (h (turn down m i) l (turn_below down m i hi) hl))

  pub ordered_at : (d : A) (f : ℕ → ℕ → A → A) (b c : List A) (q l : ℕ)
      → Room left ld m lines (length b) → q < m → l < lines → c ≡ update (ordered left down ld m lines f) b
      → get_or c (cell left ld (turn down m q) l) d ≡ f q l (get_or b (cell left ld (turn down m q) l) d)
  unfolding ordered
  ordered_at d f b c q l room hq hl e =
      grid-at d left ld m lines _ b c (turn down m q) l room (turn_below down m q hq) hl e
      ∙ ap (λ (p : ℕ). f p l (get_or b (cell left ld (turn down m q) l) d)) (turn-turn down m q hq)
