-- A step of the elimination: the terms of unknown j are taken from the remainders of the open equations, and its value takes the place of its remainder.
-- Assumes nothing.
use mathlib.Core.Path.{◌≡◌, sym, ap, ◌∙◌}
use mathlib.Core.Logic.{⊎_elim}
use mathlib.Core.Bool.{Bool, true, false}
use mathlib.Core.List.{List}
use Prim.Native.Nat.{ℕ, ◌+◌, ◌*◌, ◌≤◌, ◌<◌}
use native.Mathlib.Omega.{arith}
use lib.Arith.{lt_of_le-ne}
use lib.IntN.{ℤ, pos, ◌-ℤ◌, ◌*ℤ◌, +ℤ_idr, zero-*ℤ}
use lib.ListN.{length, get_or, set, length-set}
use lib.Seq.{get_or-set_same, get_or-set_other}
use borrow.Author.Tests.{le-leb, lt-leb, lt-ltb, le-ltb, eq-eqb, ne_eqb}
use Rattle.arrays.specs.Update.{update, below}
use Rattle.arrays.proofs.UpdateLaws.{lt-or-ge, same_or_not, length-update, at-update, is-update, below_in, below_out}
use Rattle.definitions.specs.Storage.{stored, inside}
use Rattle.definitions.specs.declared.Triangle.{Triangle}
use Rattle.integer_solve.specs.Equations.{entry}
use Rattle.integer_solve.specs.Elimination.{triangle, first_open, end_open, less_term, taken}
use Rattle.integer_solve.proofs.Words.{term-before, term-from}

pub open-within : (down : Bool) (n j : ℕ) → j < n → (first_open down j ≤ end_open down n j) × (end_open down n j ≤ n)
unfolding first_open end_open
open-within true n j h = (omega arith, omega arith)
open-within false n j h = (omega arith, omega arith)

pub entry_in : (t : Triangle) (n : ℕ) (a : List ℤ) (i j : ℕ) → inside t i j ≡ true → entry t n a i j ≡ get_or a (j * n + i) (pos 0)
unfolding entry stored
entry_in t n a i j h = rw h

pub entry-out : (t : Triangle) (n : ℕ) (a : List ℤ) (i j : ℕ) → inside t i j ≡ false → entry t n a i j ≡ pos 0
unfolding entry
entry-out t n a i j h = rw h

-- the remainders afterwards: that of unknown j, those of the other equations, and what stands behind them
pub taken_here : (down : Bool) (n : ℕ) (a : List ℤ) (j : ℕ) (x : ℤ) (i : ℕ) (s : ℤ) → i ≡ j → taken down n a j x i s ≡ x
unfolding taken
taken_here down n a j x i s e = rw (eq-eqb i j e)

pub taken-beside : (down : Bool) (n : ℕ) (a : List ℤ) (j : ℕ) (x : ℤ) (i : ℕ) (s : ℤ) → (i ≡ j → ⊥) → i < n
    → taken down n a j x i s ≡ s -ℤ entry (triangle down) n a i j *ℤ x
unfolding taken
taken-beside down n a j x i s other h = rw (ne_eqb i j other, lt-ltb i n h)

taken-behind : (down : Bool) (n : ℕ) (a : List ℤ) (j : ℕ) (x : ℤ) (i : ℕ) (s : ℤ) → (i ≡ j → ⊥) → n ≤ i → taken down n a j x i s ≡ s
unfolding taken
taken-behind down n a j x i s other h = rw (ne_eqb i j other, le-ltb i n h)

inside-open : (down : Bool) (n j p : ℕ) → first_open down j ≤ p → p < end_open down n j → inside (triangle down) p j ≡ true
unfolding first_open end_open inside triangle
inside-open true n j p h k = le-leb p j (omega arith)
inside-open false n j p h k = le-leb j p (omega arith)

outside-open : (down : Bool) (n j p : ℕ) → p < n → (p ≡ j → ⊥) → (first_open down j ≤ p → p < end_open down n j → ⊥) → inside (triangle down) p j ≡ false
unfolding first_open end_open inside triangle
outside-open true n j p b other out = lt-leb p j (⊎_elim (λ h. absurd (out (omega arith) h)) (λ h. lt_of_le-ne h (λ e. other (sym e))) (lt-or-ge p j))
outside-open false n j p b other out =
    lt-leb j p (⊎_elim (λ h. h) (λ h. let k = lt_of_le-ne h (λ e. other (sym e)) in absurd (out (omega arith) b)) (lt-or-ge p j))

-- the remainder of another equation, open or not
less : (down : Bool) (n : ℕ) (a : List ℤ) (j : ℕ) (x : ℤ) (p : ℕ) (z : ℤ) → p < n → (p ≡ j → ⊥)
    → below (end_open down n j) (less_term a (j * n) x (first_open down j)) p z ≡ z -ℤ entry (triangle down) n a p j *ℤ x
less down n a j x p z b other =
    ⊎_elim
    (λ (h : p < first_open down j). unless (λ k. term-before a (j * n) x (first_open down j) p z h) ∙ kept (λ f g. omega arith))
    (λ h. ⊎_elim (λ k. below_in _ _ p z k ∙ term-from a (j * n) x (first_open down j) p z h ∙ met h k) (λ k. below_out _ _ p z k ∙ kept (λ f g. omega arith)) (lt-or-ge p (end_open down n j)))
    (lt-or-ge p (first_open down j))
  where
    F : ℕ → ℤ → ℤ
    F = less_term a (j * n) x (first_open down j)

    unless : (p < end_open down n j → F p z ≡ z) → below (end_open down n j) F p z ≡ z
    unless e = ⊎_elim (λ k. below_in _ _ p z k ∙ e k) (λ k. below_out _ _ p z k) (lt-or-ge p (end_open down n j))

    met : first_open down j ≤ p → p < end_open down n j → z -ℤ get_or a (j * n + p) (pos 0) *ℤ x ≡ z -ℤ entry (triangle down) n a p j *ℤ x
    met h k = ap (λ (u : ℤ). z -ℤ u *ℤ x) (sym (entry_in (triangle down) n a p j (inside-open down n j p h k)))

    kept : (first_open down j ≤ p → p < end_open down n j → ⊥) → z ≡ z -ℤ entry (triangle down) n a p j *ℤ x
    kept out =
        sym (ap (λ (u : ℤ). z -ℤ u *ℤ x) (entry-out (triangle down) n a p j (outside-open down n j p b other out))
        ∙ ap (λ (u : ℤ). z -ℤ u) (zero-*ℤ x) ∙ +ℤ_idr z)

pub taken_is : (down : Bool) (n : ℕ) (a : List ℤ) (j : ℕ) (x : ℤ) (s m : List ℤ) → j < length s
    → m ≡ update (below (end_open down n j) (less_term a (j * n) x (first_open down j))) s → end_open down n j ≤ n → set m j x ≡ update (taken down n a j x) s
taken_is down n a j x s m b e le =
    is-update (pos 0) (taken down n a j x) s (set m j x) (length-set m j x ∙ ml)
    (λ p h. ⊎_elim (λ z. here p h z) (λ other. ⊎_elim (λ k. beside p h other k) (λ k. behind p h other k) (lt-or-ge p n)) (same_or_not p j))
  where
    ml : length m ≡ length s
    ml = ap length e ∙ length-update _ s

    old : (p : ℕ) → p < length s → get_or m p (pos 0) ≡ below (end_open down n j) (less_term a (j * n) x (first_open down j)) p (get_or s p (pos 0))
    old p h = ap (λ (l : List ℤ). get_or l p (pos 0)) e ∙ at-update _ s p (pos 0) h

    here : (p : ℕ) → p < length s → p ≡ j → get_or (set m j x) p (pos 0) ≡ taken down n a j x p (get_or s p (pos 0))
    here p h z =
        ap (λ (k : ℕ). get_or (set m j x) k (pos 0)) z ∙ get_or-set_same m j x (pos 0) (omega (arith, ml)) ∙ sym (taken_here down n a j x p (get_or s p (pos 0)) z)

    beside : (p : ℕ) → p < length s → (p ≡ j → ⊥) → p < n → get_or (set m j x) p (pos 0) ≡ taken down n a j x p (get_or s p (pos 0))
    beside p h other k =
        get_or-set_other m j p x (pos 0) other ∙ old p h ∙ less down n a j x p (get_or s p (pos 0)) k other
        ∙ sym (taken-beside down n a j x p (get_or s p (pos 0)) other k)

    behind : (p : ℕ) → p < length s → (p ≡ j → ⊥) → n ≤ p → get_or (set m j x) p (pos 0) ≡ taken down n a j x p (get_or s p (pos 0))
    behind p h other k =
        get_or-set_other m j p x (pos 0) other ∙ old p h ∙ below_out _ _ p (get_or s p (pos 0)) (omega arith)
        ∙ sym (taken-behind down n a j x p (get_or s p (pos 0)) other k)
