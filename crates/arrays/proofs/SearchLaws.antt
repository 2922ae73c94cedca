-- The search for an index: the lowest one is the only index that satisfies what it does, and searches are joined.
-- Assumes nothing.
use mathlib.Core.Path.{◌≡◌, refl, sym, ap, ◌∙◌}
use mathlib.Core.Bool.{Bool, false, ◌||◌, true≢false}
use mathlib.Core.Logic.{⊎_elim}
use Prim.Native.Nat.{ℕ, zero, suc, ◌<◌, min}
use native.Mathlib.Omega.{arith}
use lib.Dec.{ltb}
use lib.IntN.{ℤ, pos, negsuc}
use borrow.Author.Tests.{lt-ltb, le-ltb}
use Rattle.std.specs.Prelude.{Option, Some, None, unwrap_or, option_map, MatchOption, IsSomeAnd}
use Rattle.arrays.specs.Search.{lowest, Lowest, Found, lower, answer, answer_of, earlier}
use Rattle.arrays.proofs.Tests.{or-both, or-first, or-second, if-true, if-false, by-test}
use Rattle.arrays.proofs.UpdateLaws.{lt-or-ge}

-- ---- the lowest index

lowest-next : (test : ℕ → Bool) (n : ℕ) → Lowest (λ i. test (suc i)) n (lowest (λ i. test (suc i)) n) → Lowest test (suc n) (lowest test (suc n))
unfolding lowest
lowest-next test n h =
    by-test (test 0)
    (λ t. rw t (record { within = omega arith; passes = λ _. t; before = λ i b. absurd (let f : ⊥ = omega arith in f) }))
    (λ t. rw t (record { within = omega (arith, h.within); passes = λ b. h.passes (omega arith); before = first t }))
  where
    first : test 0 ≡ false → (i : ℕ) → i < suc (lowest (λ i. test (suc i)) n) → test i ≡ false
    first t zero b = t
    first t (suc i) b = h.before i (omega arith)

pub lowest-is : (test : ℕ → Bool) (n : ℕ) → Lowest test n (lowest test n)
unfolding lowest
lowest-is test zero = record { within = omega arith; passes = λ b. absurd (let f : ⊥ = omega arith in f); before = λ i b. absurd (let f : ⊥ = omega arith in f) }
lowest-is test (suc n) = lowest-next test n (lowest-is (λ i. test (suc i)) n)

-- no index is lower
not-below : (test : ℕ → Bool) (n r s : ℕ) → Lowest test n r → Lowest test n s → r < s → ⊥
not-below test n r s h k b = true≢false (sym (h.passes (omega (arith, k.within))) ∙ k.before r b)

pub lowest-only : (test : ℕ → Bool) (n r : ℕ) → Lowest test n r → r ≡ lowest test n
lowest-only test n r h =
    let k = lowest-is test n in
    ⊎_elim (λ b. absurd (not-below test n r _ h k b))
    (λ b. ⊎_elim (λ c. absurd (not-below test n _ r k h c)) (λ c. let e : r ≡ lowest test n = omega arith in e) (lt-or-ge (lowest test n) r)) (lt-or-ge r (lowest test n))

-- no index passes
pub lowest-none : (test : ℕ → Bool) (n : ℕ) → ((i : ℕ) → i < n → test i ≡ false) → Lowest test n n
lowest-none test n e = record { within = omega arith; passes = λ b. absurd (let f : ⊥ = omega arith in f); before = e }

-- ---- an index that may be missing

-- the index, or n if there is none
pub found-lowest : (test : ℕ → Bool) (n : ℕ) (r : Option ℕ) → Found test n r → Lowest test n (unwrap_or r n)
found-lowest test n None h = lowest-none test n h
found-lowest test n (Some r) h = record { within = omega (arith, h.0); passes = λ _. h.1; before = h.2 }

-- two searches by tests that agree below n
pub found-same : (test test' : ℕ → Bool) (n : ℕ) (r : Option ℕ) → ((i : ℕ) → i < n → test i ≡ test' i) → Found test n r → Found test' n r
found-same test test' n None e h = λ i b. sym (e i b) ∙ h i b
found-same test test' n (Some r) e h = (h.0, sym (e r h.0) ∙ h.1, λ i b. sym (e i (omega (arith, h.0))) ∙ h.2 i b)

-- what `map` hands back, by a closure that gives f
pub mapped : (f : ℕ → ℕ) (P : ℕ → ℕ → Type 0) → ((x y : ℕ) → P x y → y ≡ f x) → (z r : Option ℕ) → MatchOption z (r ≡ None) (λ x. IsSomeAnd r (P x)) → r ≡ option_map f z
mapped f P g None r h = h
mapped f P g (Some x) (Some y) h = ap Some (g x y h)
mapped f P g (Some x) None h = absurd h

-- a test of two parts: the lower of what is found by each
module _ (one other : ℕ → Bool) (n : ℕ) where
  abbrev both : ℕ → Bool
  both j = one j || other j

  pub lower-joins : (r s : Option ℕ) → Found one n r → Found other n s → Found both n (lower r s)
  unfolding lower
  lower-joins None None h k = λ i b. or-both (one i) (other i) (h i b) (k i b)
  lower-joins None (Some s) h k = (k.0, or-second (one s) (other s) k.1, λ i b. or-both (one i) (other i) (h i (omega (arith, k.0))) (k.2 i b))
  lower-joins (Some r) None h k = (h.0, or-first (one r) (other r) h.1, λ i b. or-both (one i) (other i) (h.2 i b) (k i (omega (arith, h.0))))
  lower-joins (Some r) (Some s) h k = (
    omega (arith, h.0),
    ⊎_elim
        (λ (b : r < s). let e : min r s ≡ r = omega arith in rw e (or-first (one r) (other r) h.1))
        (λ b. let e : min r s ≡ s = omega arith in rw e (or-second (one s) (other s) k.1))
        (lt-or-ge r s),
    λ i b. or-both (one i) (other i) (h.2 i (omega arith)) (k.2 i (omega arith)),
  )

-- ---- answers

pub earlier-assoc : (x y z : ℤ) → earlier (earlier x y) z ≡ earlier x (earlier y z)
unfolding earlier
earlier-assoc (pos i) y z = refl
earlier-assoc (negsuc i) y z = refl

-- the answer for the lowest index
pub found-answer : (test : ℕ → Bool) (n : ℕ) (r : Option ℕ) → Found test n r → answer_of r ≡ answer n (lowest test n)
unfolding answer_of answer
found-answer test n r h = number r h ∙ ap (answer n) (lowest-only test n (unwrap_or r n) (found-lowest test n r h))
  where
    number : (r : Option ℕ) → Found test n r → answer_of r ≡ answer n (unwrap_or r n)
    number None h = sym (if-false (ltb n n) _ _ (le-ltb n n (omega arith)))
    number (Some r) h = sym (if-true (ltb r n) _ _ (lt-ltb r n h.0))

-- an index that is missing lowers none
pub lower-none : (r : Option ℕ) → lower r None ≡ r
unfolding lower
lower-none None = refl
lower-none (Some i) = refl
