-- The value of each element: the fold of its terms, which document 01 calls the ladder of one element. And what a strip, and a whole call,
-- leaves in the output's array, and what a solve reports.
use Rattle.std.specs.Prelude.{ℕ, ◌-◌, ◌≤◌, Bool, true, false, ◌||◌, ◌≡◌, List, [], ◌∷◌, ◌++◌, ℤ, get_or, length, take, drop, Float, if◌then◌else◌}
use Rattle.std.specs.Float.Ieee as Ieee
use Rattle.std.specs.Float.{nan}
use Rattle.arrays.specs.Update.{EntryMap, update, entries, only}
use Rattle.arrays.specs.Fold.{fold, among, solved}
use Rattle.arrays.specs.Search.{lowest, none, answer}
use Rattle.floats.specs.Operations.{◌⊕◌, ◌⊗◌, ◌⊘◌, 0f, 1f, −1f}
use Rattle.definitions.specs.Number.{is_zero, factor, start}
use Rattle.definitions.specs.Storage.{Matrix, stored, transposed, op, inside, op_triangle, mirrored, with_diagonal}
use Rattle.definitions.specs.Call.{by_side, in_place, empty, order, ld_output, extent, writes}
use Rattle.definitions.specs.declared.Routine.{Routine}
use Rattle.definitions.specs.declared.Routine.TheVariants.{Gemm, Symm, Syrk, Syr2k, Trmm, Trsm}
use Rattle.definitions.specs.declared.Side.{Side}
use Rattle.definitions.specs.declared.Side.TheVariants.{Left, Right}
use Rattle.definitions.specs.declared.Triangle.{Triangle}
use Rattle.definitions.specs.declared.Triangle.TheVariants.{Lower, Upper}
use Rattle.definitions.specs.declared.Diagonal.{Diagonal}
use Rattle.definitions.specs.declared.Diagonal.TheVariants.{Unit, Nonunit}
use Rattle.definitions.specs.declared.Call.{Call}

abbrev pub Floats : Type 0
Floats = Matrix Float

-- "each term turns the sum e into e + (α·v)·u, with u from the left factor and v from the right"
unfoldable pub term : Float → (ℕ → Float) → (ℕ → Float) → Float → ℕ → Float
term α u v e l = e ⊕ (α ⊗ v l) ⊗ u l

-- ---- GEMM, SYMM, SYRK and SYR2K: products that are added to C

-- A product by its factors. Its terms for entry (i, j) take u from row i of the left factor and v from column j of the right one.
pub record Product : Type 0 where
  pub left : Floats
  pub right : Floats

infix 80 ◌times◌
abbrev pub ◌times◌ : Floats → Floats → Product
L times R = record { left = L; right = R }

unfoldable pub product_term : Float → Product → ℕ → ℕ → Float → ℕ → Float
product_term α p i j = term α (λ l. p.left i l) (λ l. p.right l j)

-- "for l ascending", "from 0 to the inner size less 1": all terms of the first product, then all of the next
unfoldable pub all_terms : Float → ℕ → List Product → ℕ → ℕ → Float → Float
all_terms α k [] i j e = e
all_terms α k (p ∷ ps) i j e = all_terms α k ps i j (fold (product_term α p i j) k e)

-- "If α or k is zero the start is the result. Otherwise .." (A fold of no terms is its start, so k needs no test.)
unfoldable pub accumulated : Call → ℕ → List Product → EntryMap Float
accumulated c k ps i j old =
    let e = start c.beta old in
    let r = all_terms (factor c.alpha) k ps i j e in
    if is_zero c.alpha then e else r

-- "C ← αop(A)op(B) + βC"
unfoldable pub gemm : Call → Floats → Floats → EntryMap Float
gemm c A B = accumulated c c.k (op c.transa A times op c.transb B ∷ [])

-- "C ← αAB + βC (side L, A of order m) or αBA + βC (side R, A of order n)"
unfoldable pub symm : Call → Floats → Floats → EntryMap Float
symm c A B =
    let S = mirrored c.uplo A in
    accumulated c (order c) (by_side c.side (S times B) (B times S) ∷ [])

-- "C ← αop(A)op(A)ᵀ + βC"
unfoldable pub syrk : Call → Floats → EntryMap Float
syrk c A =
    let P = op c.transa A in
    accumulated c c.k (P times transposed P ∷ [])

-- "C ← αop(A)op(B)ᵀ + αop(B)op(A)ᵀ + βC"; "all terms of op(A)op(B)ᵀ, then all of op(B)op(A)ᵀ"
unfoldable pub syr2k : Call → Floats → Floats → EntryMap Float
syr2k c A B =
    let P = op c.transa A in
    let Q = op c.transa B in
    accumulated c c.k (P times transposed Q ∷ Q times transposed P ∷ [])

-- ---- TRMM and TRSM: a triangular op(A), and B, which they write over

-- op(A) with its diagonal, and its triangle.
unfoldable pub triangular : Call → Floats → Floats
triangular c A = with_diagonal 1f c.diag (op c.transa A)

unfoldable pub triangle : Call → Triangle
triangle c = op_triangle c.transa c.uplo

-- "B ← αop(A)B or αBop(A)"; "start +0.0; l ascending over the triangle of op(A), diagonal included; all of B as at entry. α zero: +0.0."
unfoldable pub trmm : Call → Floats → Floats → EntryMap Float
trmm c A B i j old =
    let T = triangular c A in
    let t = triangle c in
    let step = product_term (factor c.alpha) (by_side c.side (T times B) (B times T)) i j in
    let r = fold (among (λ l. by_side c.side (inside t i l) (inside t l j)) step) (order c) 0f in
    if is_zero c.alpha then 0f else r

-- Solving goes from low index to high: op(A) is lower for side L, upper for side R.
unfoldable pub solves_up : Side → Triangle → Bool
solves_up Left Lower = true
solves_up Left Upper = false
solves_up Right Lower = false
solves_up Right Upper = true

-- The index of the value that is solved q-th, and the place in that order of the value with index q.
unfoldable pub turn : Call → ℕ → ℕ
turn c q = if solves_up c.side (triangle c) then q else order c - 1 - q

-- "then one division by the diagonal element unless diag is U"; "the float quotient stands"
unfoldable pub divided : Diagonal → Float → Float → Float
divided Unit e d = e
divided Nonunit e d = e ⊘ d

-- The value that is solved q-th in column j (side L) or row i (side R) of X, from the list xs of those solved before it:
-- "start α·b, then the terms of op(A)X (side L) or Xop(A) (side R) with −1.0 in place of α, X being the values already solved";
-- "If solving goes from low index to high, l ascends from 0; if from high to low, l descends from the last."
unfoldable pub solve_next : Call → Floats → Floats → ℕ → ℕ → List Float → ℕ → Float
solve_next c T B i j xs q =
    let p = turn c q in
    let b = by_side c.side (B p j) (B i p) in
    let x : ℕ → Float = λ l. get_or xs l nan in
    let u : ℕ → Float = λ l. by_side c.side (T p (turn c l)) (x l) in
    let v : ℕ → Float = λ l. by_side c.side (x l) (T (turn c l) p) in
    divided c.diag (fold (term −1f u v) q (factor c.alpha ⊗ b)) (T p p)

-- "B ← αop(A)⁻¹B or αBop(A)⁻¹"; "TRSM, α zero: +0.0, A not read."
unfoldable pub trsm : Call → Floats → Floats → EntryMap Float
trsm c A B i j old =
    let next = solve_next c (triangular c A) B i j in
    let q = turn c (by_side c.side i j) in
    let r = next (solved next q) q in
    if is_zero c.alpha then 0f else r

-- Document 02, K11: "at which A is zero (−0.0 counts)": the division is one by zero. With diag U there is none.
unfoldable pub by_zero : Diagonal → Float → Bool
by_zero Unit d = false
by_zero Nonunit d = Ieee.eq d 0f

-- "A nonunit solve now also reports the lowest diagonal index at which A is zero (−0.0 counts), or −1. With a unit diagonal, α zero, m or n zero, .. it reports −1."
unfoldable pub zero_on_diagonal : Call → Floats → ℤ
zero_on_diagonal c A =
    let z = answer (order c) (lowest (λ i. by_zero c.diag (A i i)) (order c)) in
    if empty c || is_zero c.alpha then none else z

-- ---- the output's array

-- The value of entry (i, j) of the output, from the arrays a and b and its old value.
unfoldable pub value : Routine → Call → List Float → List Float → EntryMap Float
value Gemm c a b = gemm c (stored nan a c.lda) (stored nan b c.ldb)
value Symm c a b = symm c (stored nan a c.lda) (stored nan b c.ldb)
value Syrk c a b = syrk c (stored nan a c.lda)
value Syr2k c a b = syr2k c (stored nan a c.lda) (stored nan b c.ldb)
value Trmm c a b = trmm c (stored nan a c.lda) (stored nan b c.ldb)
value Trsm c a b = trsm c (stored nan a c.lda) (stored nan b c.ldb)

-- What the call reports: only a solve divides.
unfoldable pub zero_of : Routine → Call → List Float → ℤ
zero_of Gemm c a = none
zero_of Symm c a = none
zero_of Syrk c a = none
zero_of Syr2k c a = none
zero_of Trmm c a = none
zero_of Trsm c a = zero_on_diagonal c (stored nan a c.lda)

-- The array that B is read from: TRMM and TRSM read it where they write it.
unfoldable pub array_b : Call → List Float → List Float → List Float
array_b c b out = if in_place c.routine then out else b

-- The output's array after each element from column (or row) `from` on and below `to` has its value; "What a step is not said to write keeps its bits."
unfoldable pub strip : Call → List Float → List Float → ℕ → ℕ → List Float → List Float
strip c a b from to out = update (entries (ld_output c) (only (writes c from to) (value c.routine c a (array_b c b out)))) out

-- After the whole call.
unfoldable pub result : Call → List Float → List Float → List Float → List Float
result c a b out = strip c a b 0 (extent c) out

-- "One strip update is handed the part of C that starts at the strip's first column." It is handed `before`, the part of the output's array l from element x on, and
-- leaves `after` there.
abbrev pub StripOf : Call → List Float → List Float → ℕ → ℕ → ℕ → List Float → List Float → Type 0
StripOf c a b from to x before after = (l : List Float) → x ≤ length l → before ≡ drop x l → take x l ++ after ≡ strip c a b from to l
