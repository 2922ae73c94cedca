-- The elimination of one unknown after the other, in the order of solving: for a lower triangle from the first on, for an upper one from the last back. A remainder
-- is a right side less the terms of the solved unknowns; the value of a solved unknown takes the place of its remainder.
--     triangle    the triangle that is solved forwards, or backwards
--     Words       the first n elements are words
--     term        no term is larger: 2^30
--     room        a remainder that is no larger has room for one more term: 2^37
--     Small       the first n elements are no larger
--     Grown       no element has grown by more than a term
--     first_open   of the equations that are open once unknown j is solved, the first
--     end_open     one past the last of them
--     less_term    the elements from lo on, less the term of x and the column that begins at element `at` of A
--     taken       the remainders once unknown j has the value x
--     QuotientOf  what the quotient of s by d is
--     Eliminated  what the elimination comes to: X in the first n places, or there is none
use Rattle.std.specs.Prelude.{ℕ, ◌+◌, ◌≤◌, ◌<◌, ◌≡◌, Bool, true, false, List, leb, ltb, eqb, ℤ, pos, nat_abs, ◌-ℤ◌, ◌*ℤ◌, get_or, Option, Some, None, if◌then◌else◌}
use Rattle.definitions.specs.declared.Triangle.{Triangle}
use Rattle.definitions.specs.declared.Triangle.TheVariants.{Lower, Upper}
use Rattle.integer_solve.specs.Equations.{Word, Solves, entry, left_side}

unfoldable pub triangle : Bool → Triangle
triangle false = Lower
triangle true = Upper

abbrev pub Words : ℕ → List ℤ → Type 0
Words n l = (i : ℕ) → i < n → Word (get_or l i (pos 0))

abbrev pub term : ℕ
term = 1073741824

abbrev pub room : ℕ
room = 137438953472

abbrev pub Small : ℕ → List ℤ → Type 0
Small n s = (i : ℕ) → i < n → nat_abs (get_or s i (pos 0)) ≤ room

abbrev pub Grown : List ℤ → List ℤ → Type 0
Grown s s' = (i : ℕ) → nat_abs (get_or s' i (pos 0)) ≤ nat_abs (get_or s i (pos 0)) + term

unfoldable pub first_open : Bool → ℕ → ℕ
first_open down j = if down then 0 else j + 1

unfoldable pub end_open : Bool → ℕ → ℕ → ℕ
end_open down n j = if down then j else n

unfoldable pub less_term : List ℤ → ℕ → ℤ → ℕ → ℕ → ℤ → ℤ
less_term a at x lo i s = if leb lo i then s -ℤ get_or a (at + i) (pos 0) *ℤ x else s

unfoldable pub taken : Bool → ℕ → List ℤ → ℕ → ℤ → ℕ → ℤ → ℤ
taken down n a j x i s = if eqb i j then x else if ltb i n then s -ℤ entry (triangle down) n a i j *ℤ x else s

abbrev pub QuotientOf : ℤ → ℤ → Option ℤ → Type 0
QuotientOf s d (Some x) = Word x × (d *ℤ x ≡ s)
QuotientOf s d None = (x : ℤ) → Word x → d *ℤ x ≡ s → ⊥

abbrev pub Eliminated : Triangle → ℕ → List ℤ → List ℤ → List ℤ → Bool → Type 0
Eliminated t n a b s true = Words n s × ((i : ℕ) → i < n → left_side t n a s i ≡ get_or b i (pos 0))
Eliminated t n a b s false = (x : List ℤ) → Solves t n a b x → ⊥
