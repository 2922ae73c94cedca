-- The search for an index that passes a test, and its answer as a number.
--     lowest    the lowest index below n that passes, or n if none does
--     Lowest    what that index satisfies
--     Found     r is the lowest index below n that passes, or None if none does
--     lower     the lower of two indices, either of which may be missing
--     none      the answer where there is no index: −1
--     answer    the answer for an index below n, or for n
--     answer_of the answer for an index that may be missing
--     earlier   of two answers the first, or the second if the first is −1
use Rattle.std.specs.Prelude.{◌≡◌, Bool, true, false, ℕ, zero, suc, ◌≤◌, ◌<◌, ltb, min, ℤ, pos, negsuc, if◌then◌else◌, Option, Some, None}

unfoldable pub lowest : (ℕ → Bool) → ℕ → ℕ
lowest test zero = 0
lowest test (suc n) = let later = suc (lowest (λ i. test (suc i)) n) in if test 0 then 0 else later

pub record Lowest (test : ℕ → Bool) (n : ℕ) (r : ℕ) : Type 0 where
  pub within : r ≤ n
  pub passes : r < n → test r ≡ true
  pub before : (i : ℕ) → i < r → test i ≡ false

abbrev pub Found : (ℕ → Bool) → ℕ → Option ℕ → Type 0
Found test n None = (i : ℕ) → i < n → test i ≡ false
Found test n (Some r) = (r < n) × (test r ≡ true) × ((i : ℕ) → i < r → test i ≡ false)

unfoldable pub lower : Option ℕ → Option ℕ → Option ℕ
lower None other = other
lower (Some i) None = Some i
lower (Some i) (Some j) = Some (min i j)

abbrev pub none : ℤ
none = negsuc 0

unfoldable pub answer : ℕ → ℕ → ℤ
answer n i = if ltb i n then pos i else none

unfoldable pub answer_of : Option ℕ → ℤ
answer_of None = none
answer_of (Some i) = pos i

unfoldable pub earlier : ℤ → ℤ → ℤ
earlier (pos i) z = pos i
earlier (negsuc i) z = z
