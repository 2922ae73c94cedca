-- Document 02, K8: the integer column X with AX = B, A triangular, over whole numbers.
use Rattle.std.specs.Prelude.{ℕ, ◌*◌, ◌<◌, ◌≡◌, Bool, not, ◌||◌, List, ltb, eqb, ℤ, pos, negsuc, nat_abs, ◌+ℤ◌, ◌*ℤ◌, length, get_or, ◌≤ℤ◌, if◌then◌else◌}
use Rattle.arrays.specs.Fold.{fold}
use Rattle.arrays.specs.Search.{lowest, none}
use Rattle.definitions.specs.Check.{nat, 'L', 'U', is, uplo_of}
use Rattle.definitions.specs.Storage.{Matrix, stored, inside}
use Rattle.definitions.specs.declared.Triangle.{Triangle}
use Rattle.integer_solve.specs.declared.Answer.{Answer}
use Rattle.integer_solve.specs.declared.Answer.TheVariants.{Solved, None, Refused}

-- ---- the equations

-- "a triangular integer matrix A, stored column by column with no padding"; "A is lower or upper (the other triangle is stored but not read)": it counts as zero.
unfoldable pub entry : Triangle → ℕ → List ℤ → Matrix ℤ
entry t n a i j = let z = stored (pos 0) a n i j in if inside t i j then z else pos 0

-- The left side of equation i of AX = B.
unfoldable pub left_side : Triangle → ℕ → List ℤ → List ℤ → ℕ → ℤ
left_side t n a x i = fold (λ e j. e +ℤ entry t n a i j *ℤ get_or x j (pos 0)) n (pos 0)

-- "Entries of A, B and X are signed 16-bit"
pub record Word (z : ℤ) : Type 0 where
  pub least : negsuc 32767 ≤ℤ z
  pub most : z ≤ℤ pos 32767

-- A "signed 16-bit X satisfies every equation over whole numbers".
pub record Solves (t : Triangle) (n : ℕ) (a b x : List ℤ) : Type 0 where
  pub order : length x ≡ n
  pub words : (j : ℕ) → j < n → Word (get_or x j (pos 0))
  pub equations : (i : ℕ) → i < n → left_side t n a x i ≡ get_or b i (pos 0)

-- ---- the numbers

-- "the order is 1 to 64"
unfoldable pub bad_order : ℤ → Bool
bad_order n = ltb (nat n) 1 || ltb 64 (nat n)

-- "a list of the wrong length"
unfoldable pub bad_length : ℕ → ℕ → ℕ → ℕ → Bool
bad_length n a b x = not (eqb a (n * n)) || not (eqb b n) || not (eqb x n)

-- "a zero diagonal": the lowest index of a zero on it is one below n.
unfoldable pub zero_diagonal : ℕ → List ℤ → Bool
zero_diagonal n a = ltb (lowest (λ i. eqb (nat_abs (stored (pos 0) a n i i)) 0) n) n

-- "An order outside the limit or a triangle code other than L or U gives 39, a list of the wrong length gives 40 and a zero diagonal gives 41, in that order." (b and x are the lengths of their lists.)
unfoldable pub refusal : ℤ → ℤ → List ℤ → ℕ → ℕ → ℕ
refusal uplo n a b x =
    if bad_order n || not (is 'L' uplo || is 'U' uplo) then 39
    else if bad_length (nat n) (length a) b x then 40
    else if zero_diagonal (nat n) a then 41
    else 0

-- ---- the answer

-- The answer to the lists a and b, with x the output list at entry and y the same afterwards: "Give the X, or say there is none exactly if no signed 16-bit X satisfies every
-- equation over whole numbers. With none, or refused, the output list keeps its content."
abbrev pub Answers : (uplo n : ℤ) (a b x : List ℤ) → Answer → List ℤ → Type 0
Answers uplo n a b x Solved y = (refusal uplo n a (length b) (length x) ≡ 0) × Solves (uplo_of uplo) (nat n) a b y
Answers uplo n a b x None y = (refusal uplo n a (length b) (length x) ≡ 0) × ((z : List ℤ) → Solves (uplo_of uplo) (nat n) a b z → ⊥) × (y ≡ x)
Answers uplo n a b x (Refused k) y = (refusal uplo n a (length b) (length x) ≡ k) × (0 < k) × (y ≡ x)

-- The number of an answer: 0 with the X, and −1 if there is none.
unfoldable pub number : Answer → ℤ
number Solved = pos 0
number None = none
number (Refused k) = pos k

-- What is handed back as a number.
pub record Numbered (uplo n : ℤ) (a b x : List ℤ) (r : ℤ) (y : List ℤ) : Type 0 where
  pub answer : Answer
  pub is_number : r ≡ number answer
  pub answers : Answers uplo n a b x answer y
