-- The tests of a run, as the code goes through them.
-- Assumes nothing.
use Prim.Native.Nat.{ℕ, zero, suc, ◌+◌, ◌-◌, ◌*◌, ◌≤◌, ◌<◌}
use mathlib.Core.Path.{◌≡◌, refl, sym, ◌∙◌}
use mathlib.Core.Bool.{Bool, true, false, not, ◌&&◌, ◌||◌, true≢false}
use mathlib.Core.List.{List}
use native.Mathlib.Omega.{arith}
use lib.Dec.{leb, ltb, eqb}
use lib.IntN.{ℤ, pos, negsuc}
use lib.ListN.{length}
use borrow.Author.Tests.{ltb-false, le-leb, lt-leb, leb-true, eqb-true}
use Rattle.arrays.proofs.Tests.{or_left, or_right, and_left, and_right, if-true, if-false}
use Rattle.definitions.specs.Check.{nat, negative}
use Rattle.definitions.specs.Machine.{strips_of}
use Rattle.definitions.specs.Sheet.{Sheet, Arrays, index, count, sound, records, act}
use Rattle.definitions.specs.Run.{too_short, bad_cursor, run_refusal}

-- ---- 34

pub no-trailer : (t : Sheet) → length t.words < 2 → true ≡ not (sound t)
unfolding sound
no-trailer t h = rw (lt-leb 2 (length t.words) h) refl

negated : (a b c : Bool) → (a || (b || not c)) ≡ not (not a && (not b && c))
negated true b c = refl
negated false true c = refl
negated false false c = refl

module _ (t : Sheet) (long : 2 ≤ length t.words) where
  pub trailer-is : (a b : Bool) (i n : ℕ) → a ≡ negative (index t) → b ≡ negative (count t) → i ≡ nat (index t) → n ≡ nat (count t)
      → (a || (b || not (eqb (i + 20 * n) (length t.words - 2)))) ≡ not (sound t)
  unfolding sound
  trailer-is a b i n ea eb ei en =
      (λ k. ea k || (eb k || not (eqb (ei k + 20 * en k) (length t.words - 2))))
      ∙ negated (negative (index t)) (negative (count t)) (eqb (nat (index t) + 20 * nat (count t)) (length t.words - 2)) ∙ rw (le-leb 2 (length t.words) long) refl

  -- the records are within the sheet
  pub sound-room : sound t ≡ true → nat (index t) + 20 * records t ≤ length t.words
  unfolding sound records
  sound-room h =
      let a = and_right (leb 2 (length t.words)) _ h in
      let b = and_right (not (negative (index t))) _ a in
      omega (arith, eqb-true (nat (index t) + 20 * nat (count t)) (length t.words - 2) (and_right (not (negative (count t))) (eqb (nat (index t) + 20 * nat (count t)) (length t.words - 2)) b))

pub sound-long : (t : Sheet) → sound t ≡ true → 2 ≤ length t.words
unfolding sound
sound-long t h = leb-true 2 _ (and_left (leb 2 (length t.words)) _ h)

-- ---- 35

-- what "long enough" means
pub long-enough : (t : Sheet) (answers : List ℤ) → too_short t answers ≡ false → (records t ≤ length answers) × (2 * records t ≤ length t.scalars)
unfolding too_short
long-enough t answers h = (
  ltb-false _ _ (or_left (ltb (length answers) (records t)) (ltb (length t.scalars) (2 * records t)) h),
  ltb-false _ _ (or_right (ltb (length answers) (records t)) (ltb (length t.scalars) (2 * records t)) h),
)

-- ---- 36

module _ (t : Sheet) (l : Arrays) where
  pub cursor-s : (p s : ℤ) → negative s ≡ true → true ≡ bad_cursor t l p s
  unfolding bad_cursor
  cursor-s p (pos s) h = absurd (true≢false (sym h))
  cursor-s p (negsuc s) h = refl

  pub cursor-p : (p s : ℤ) → negative s ≡ false → negative p ≡ true → true ≡ bad_cursor t l p s
  unfolding bad_cursor
  cursor-p p (pos zero) h k = rw k refl
  cursor-p p (pos (suc s)) h k = rw k refl
  cursor-p p (negsuc s) h k = absurd (true≢false h)

  pub cursor-first : (p s : ℤ) → negative s ≡ false → negative p ≡ false → nat s ≡ 0 → ltb (records t) (nat p) ≡ bad_cursor t l p s
  unfolding bad_cursor
  cursor-first p (pos zero) h k z = rw k refl
  cursor-first p (pos (suc s)) h k z = absurd (let f : ⊥ = omega arith in f)
  cursor-first p (negsuc s) h k z = absurd (true≢false h)

  pub cursor-finish : (p s : ℤ) → negative s ≡ false → negative p ≡ false → (nat s ≡ 0 → ⊥) → records t ≤ nat p → true ≡ bad_cursor t l p s
  unfolding bad_cursor
  cursor-finish p (pos zero) h k z b = absurd (z refl)
  cursor-finish p (pos (suc s)) h k z b = rw (k, le-leb (records t) (nat p) b) refl
  cursor-finish p (negsuc s) h k z b = absurd (true≢false h)

  pub cursor-strip : (p s : ℤ) → negative s ≡ false → negative p ≡ false → (nat s ≡ 0 → ⊥) → nat p < records t → leb (strips_of (act t (nat p) l)) (nat s) ≡ bad_cursor t l p s
  unfolding bad_cursor
  cursor-strip p (pos zero) h k z b = absurd (z refl)
  cursor-strip p (pos (suc s)) h k z b = rw (k, lt-leb (records t) (nat p) b) refl
  cursor-strip p (negsuc s) h k z b = absurd (true≢false h)

-- ---- in turn

module _ (t : Sheet) (l : Arrays) (answers : List ℤ) (p s : ℤ) where
  pub refused-34 : not (sound t) ≡ true → 34 ≡ run_refusal t l answers p s
  unfolding run_refusal
  refused-34 h = sym (if-true (not (sound t)) 34 _ h)

  module _ (h : not (sound t) ≡ false) where
    pub refused-35 : too_short t answers ≡ true → 35 ≡ run_refusal t l answers p s
    unfolding run_refusal
    refused-35 k = sym (if-false (not (sound t)) 34 _ h ∙ if-true (too_short t answers) 35 _ k)

    pub refused-36 : too_short t answers ≡ false → bad_cursor t l p s ≡ true → 36 ≡ run_refusal t l answers p s
    unfolding run_refusal
    refused-36 k b = sym (if-false (not (sound t)) 34 _ h ∙ if-false (too_short t answers) 35 _ k ∙ if-true (bad_cursor t l p s) 36 _ b)

    pub not-refused : too_short t answers ≡ false → bad_cursor t l p s ≡ false → run_refusal t l answers p s ≡ 0
    unfolding run_refusal
    not-refused k b = if-false (not (sound t)) 34 _ h ∙ if-false (too_short t answers) 35 _ k ∙ if-false (bad_cursor t l p s) 36 _ b
