-- Signed words: their range, numbers that go through their bits, the sizes of terms and remainders, and loops over them.
-- Assumes nothing.
use mathlib.Core.Path.{◌≡◌, refl, sym, ap, subst, ◌∙◌}
use mathlib.Core.Logic.{⊎_elim}
use mathlib.Core.Bool.{◌||◌, or-false}
use mathlib.Core.List.{List}
use Prim.Native.Nat.{ℕ, ◌+◌, ◌≤◌, ◌<◌}
use native.Mathlib.Nat.{mul-le-mul}
use native.Mathlib.Omega.{arith}
use lib.Dec.{ltb, leb→le, le→leb}
use lib.IntN.{ℤ, pos, negsuc, nat_abs, ◌-ℤ◌, ◌*ℤ◌}
use lib.ListN.{length, get_or, set}
use lib.Seq.{get_or-set_same, get_or-set_other}
use lib.Signed.{mag, lt_z, le_z_yes, nat_abs-le}
use borrow.Author.Tests.{le-leb, lt-leb}
use mir.Syntax.{Width, w16, w64}
use mir.Val.{SFits, to_z, of_z}
use mir.ValLaws.{to_z-of_z}
use Rattle.arrays.proofs.UpdateLaws.{lt-or-ge, same_or_not}
use Rattle.integer_solve.specs.Equations.{Word}
use Rattle.integer_solve.specs.Elimination.{term, Grown, less_term}
use Rattle.integer_solve.proofs.Integers.{abs-less, abs-product}

pub word_fits : {z : ℤ} → Word z → mag z < 32768
word_fits {z = pos n} h = omega (arith, leb→le n 32767 h.most.le)
word_fits {z = negsuc n} h = omega (arith, leb→le n 32767 h.least.le)

pub fits_word : {z : ℤ} → mag z < 32768 → Word z
fits_word {z = pos n} h = record { least = le_z_yes tt; most = le_z_yes (le→leb n 32767 (omega arith)) }
fits_word {z = negsuc n} h = record { least = le_z_yes (le→leb n 32767 (omega arith)); most = le_z_yes tt }

pub fits_16 : {z : ℤ} → mag z < 32768 → SFits w16 z
fits_16 h = record { sfits = h }

pub fits-64 : {z : ℤ} → mag z < 32768 → SFits w64 z
fits-64 h = record { sfits = omega arith }

-- a word goes through its bits, and then through those of a wider number
pub same_word : (z : ℤ) → mag z < 32768 → to_z w16 (of_z w16 z) ≡ z
same_word z h = to_z-of_z w16 z (fits_16 h)

pub same-64 : (z : ℤ) → mag z < 32768 → to_z w64 (of_z w64 (to_z w16 (of_z w16 z))) ≡ z
same-64 z h = ap (λ (x : ℤ). to_z w64 (of_z w64 x)) (same_word z h) ∙ to_z-of_z w64 z (fits-64 h)

-- the product of two words
pub term-size : (u x : ℤ) → mag u < 32768 → mag x < 32768 → nat_abs (u *ℤ x) ≤ term
term-size u x h k =
    subst (λ (m : ℕ). m ≤ term) (sym (abs-product u x)) (mul-le-mul (nat_abs-le u h) (nat_abs-le x k))

-- a remainder less a term
pub less-size : (s t : ℤ) → nat_abs t ≤ term → nat_abs (s -ℤ t) ≤ nat_abs s + term
less-size s t h = omega (arith, abs-less s t)

-- a number whose bits are zero
pub zero_bits : (w : Width) (z : ℤ) → SFits w z → of_z w z ≡ 0 → z ≡ to_z w 0
zero_bits w z f h = sym (to_z-of_z w z f) ∙ ap (to_z w) h

-- the test of a word's range
pub range : (z : ℤ) → (lt_z z (negsuc 32767) || lt_z (pos 32767) z) ≡ ltb 32767 (mag z)
range (pos n) = refl
range (negsuc n) = or-false (ltb 32767 n)

-- ---- loops over words

-- what holds of the indices below i, and of i
pub one_more : (P : ℕ → Type 0) (i : ℕ) → ((p : ℕ) → p < i → P p) → P i → (p : ℕ) → p < i + 1 → P p
one_more P i before here p b =
    ⊎_elim (λ q. before p q) (λ q. let e : i ≡ p = omega arith in subst P e here) (lt-or-ge p i)

-- an element that grows by no more than a term
pub grown-set : (l m : List ℤ) (i : ℕ) (w : ℤ) → Grown l m → i < length m → nat_abs w ≤ nat_abs (get_or l i (pos 0)) + term → Grown l (set m i w)
grown-set l m i w grown b h p =
    ⊎_elim
    (λ e. subst (λ (z : ℤ). nat_abs z ≤ nat_abs (get_or l p (pos 0)) + term)
    (sym (ap (λ (k : ℕ). get_or (set m i w) k (pos 0)) e ∙ get_or-set_same m i w (pos 0) b))
    (subst (λ (k : ℕ). nat_abs w ≤ nat_abs (get_or l k (pos 0)) + term) (sym e) h))
    (λ other. subst (λ (z : ℤ). nat_abs z ≤ nat_abs (get_or l p (pos 0)) + term) (sym (get_or-set_other m i p w (pos 0) other)) (grown p))
    (same_or_not p i)

-- the elements before lo, and from there on
pub term-before : (a : List ℤ) (at : ℕ) (x : ℤ) (lo i : ℕ) (s : ℤ) → i < lo → less_term a at x lo i s ≡ s
unfolding less_term
term-before a at x lo i s h = rw (lt-leb lo i h)

pub term-from : (a : List ℤ) (at : ℕ) (x : ℤ) (lo i : ℕ) (s : ℤ) → lo ≤ i → less_term a at x lo i s ≡ s -ℤ get_or a (at + i) (pos 0) *ℤ x
unfolding less_term
term-from a at x lo i s h = rw (le-leb lo i h)
