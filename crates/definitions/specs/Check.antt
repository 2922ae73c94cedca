-- The argument check of a direct call: codes, the table of places, the tests and their order, and its answer.
use Rattle.std.specs.Prelude.{ℕ, zero, suc, ◌+◌, max, Bool, true, false, not, ◌&&◌, ◌||◌, List, [], ◌∷◌, ◌++◌, ltb, eqb, ℤ, pos, negsuc, Float, if◌then◌else◌}
use Rattle.arrays.specs.Search.{none}
use Rattle.definitions.specs.Number.{is_one}
use Rattle.definitions.specs.Storage.{needed}
use Rattle.definitions.specs.Call.{has_m, in_place, empty, start_only, shape_a, shape_b, shape_c}
use Rattle.definitions.specs.Element.{zero_of, result}
use Rattle.definitions.specs.declared.Routine.{Routine}
use Rattle.definitions.specs.declared.Routine.TheVariants.{Gemm, Symm, Syrk, Syr2k, Trmm, Trsm}
use Rattle.definitions.specs.declared.Side.{Side}
use Rattle.definitions.specs.declared.Side.TheVariants.{Left, Right}
use Rattle.definitions.specs.declared.Triangle.{Triangle}
use Rattle.definitions.specs.declared.Triangle.TheVariants.{Lower, Upper}
use Rattle.definitions.specs.declared.Transpose.{Transpose}
use Rattle.definitions.specs.declared.Transpose.TheVariants.{No, Yes}
use Rattle.definitions.specs.declared.Diagonal.{Diagonal}
use Rattle.definitions.specs.declared.Diagonal.TheVariants.{Unit, Nonunit}
use Rattle.definitions.specs.declared.Args.{Args}
use Rattle.definitions.specs.declared.Call.{Call}
use Rattle.definitions.specs.declared.Shape.{Shape}
use Rattle.definitions.specs.declared.Checked.{Checked}
use Rattle.definitions.specs.declared.Checked.TheVariants.{Refused, Idle, Ready}

-- ---- numbers and codes

-- "Sizes, leading dimensions, codes, strip widths and block sizes are signed 32-bit." A negative one counts as 0 where it is not refused for its sign.
abbrev pub negative : ℤ → Bool
negative (pos n) = false
negative (negsuc n) = true

abbrev pub nat : ℤ → ℕ
nat (pos n) = n
nat (negsuc n) = 0

-- "Codes are character numbers, in decimal: N 78, T 84, C 67, L 76, R 82, U 85, and their lower-case forms." (0 is no letter.)
abbrev pub 'N' : ℕ
'N' = 78

abbrev pub 'T' : ℕ
'T' = 84

abbrev pub 'C' : ℕ
'C' = 67

abbrev pub 'L' : ℕ
'L' = 76

abbrev pub 'R' : ℕ
'R' = 82

abbrev pub 'U' : ℕ
'U' = 85

unfoldable pub is : ℕ → ℤ → Bool
is letter code = eqb (nat code) letter || eqb (nat code) (letter + 32)

-- "Side takes L or R, uplo L or U, a trans code N, T or C, diag U (unit) or N (nonunit); as a trans code C means T."
unfoldable pub side_of : ℤ → Side
side_of code = if is 'L' code then Left else Right

unfoldable pub uplo_of : ℤ → Triangle
uplo_of code = if is 'L' code then Lower else Upper

unfoldable pub trans_of : ℤ → Transpose
trans_of code = if is 'N' code then No else Yes

unfoldable pub diag_of : ℤ → Diagonal
diag_of code = if is 'U' code then Unit else Nonunit

-- "An accepted call is held as its options, each of two or three named values, beside its sizes."
unfoldable pub call_of : Args → Call
call_of g = record {
  routine = g.routine;
  side = side_of g.side;
  uplo = uplo_of g.uplo;
  transa = trans_of g.transa;
  transb = trans_of g.transb;
  diag = diag_of g.diag;
  m = if has_m g.routine then nat g.m else nat g.n;
  n = nat g.n;
  k = nat g.k;
  alpha = g.alpha;
  beta = g.beta;
  lda = nat g.lda;
  ldb = nat g.ldb;
  ldc = nat g.ldc;
}

-- ---- the table of argument places

pub data Argument : Type 0 where
  side uplo transa transb diag : Argument
  size-m size-n size-k : Argument
  ld-A ld-B ld-C : Argument
  array-A array-B array-C : Argument

pub record Place : Type 0 where
  pub argument : Argument
  pub place : ℕ

infix 80 ◌at◌
abbrev pub ◌at◌ : Argument → ℕ → Place
x at n = record { argument = x; place = n }

-- "The argument places of the six routines stand in one table": its columns codes, sizes and ld, in the order of the tests, places ascending
unfoldable pub places : Routine → List Place
places Gemm = transa at 1 ∷ transb at 2 ∷ size-m at 3 ∷ size-n at 4 ∷ size-k at 5 ∷ ld-A at 8 ∷ ld-B at 10 ∷ ld-C at 13 ∷ []
places Symm = side at 1 ∷ uplo at 2 ∷ size-m at 3 ∷ size-n at 4 ∷ ld-A at 7 ∷ ld-B at 9 ∷ ld-C at 12 ∷ []
places Syrk = uplo at 1 ∷ transa at 2 ∷ size-n at 3 ∷ size-k at 4 ∷ ld-A at 7 ∷ ld-C at 10 ∷ []
places Syr2k = uplo at 1 ∷ transa at 2 ∷ size-n at 3 ∷ size-k at 4 ∷ ld-A at 7 ∷ ld-B at 9 ∷ ld-C at 12 ∷ []
places Trmm = side at 1 ∷ uplo at 2 ∷ transa at 3 ∷ diag at 4 ∷ size-m at 5 ∷ size-n at 6 ∷ ld-A at 9 ∷ ld-B at 11 ∷ []
places Trsm = side at 1 ∷ uplo at 2 ∷ transa at 3 ∷ diag at 4 ∷ size-m at 5 ∷ size-n at 6 ∷ ld-A at 9 ∷ ld-B at 11 ∷ []

-- its column arrays
unfoldable pub arrays : Routine → List Place
arrays Gemm = array-A at 7 ∷ array-B at 9 ∷ array-C at 12 ∷ []
arrays Symm = array-A at 6 ∷ array-B at 8 ∷ array-C at 11 ∷ []
arrays Syrk = array-A at 6 ∷ array-C at 9 ∷ []
arrays Syr2k = array-A at 6 ∷ array-B at 8 ∷ array-C at 11 ∷ []
arrays Trmm = array-A at 8 ∷ array-B at 10 ∷ []
arrays Trsm = array-A at 8 ∷ array-B at 10 ∷ []

-- ---- the tests

-- Document 02, K2: "a leading dimension is bad below the larger of 1 and the rows". (A negative one counts as 0, which is below 1.)
unfoldable pub bad_ld : ℤ → Shape → Bool
bad_ld ld s = ltb (nat ld) (max 1 s.rows)

-- "array too short": shorter than it needs to be
unfoldable pub short : ℕ → ℕ → Shape → Bool
short len ld s = ltb len (needed ld s.rows s.cols)

-- "C, or B for TRMM and TRSM, is tested for length unless m or n is 0. Inputs are tested unless m, n, α or k is 0."
unfoldable pub untested : Call → Bool
untested c = empty c || start_only c

unfoldable pub bad_with : Args → Call → Argument → Bool
bad_with g c side = not (is 'L' g.side || is 'R' g.side)
bad_with g c uplo = not (is 'L' g.uplo || is 'U' g.uplo)
bad_with g c transa = not (is 'N' g.transa || is 'T' g.transa || is 'C' g.transa)
bad_with g c transb = not (is 'N' g.transb || is 'T' g.transb || is 'C' g.transb)
bad_with g c diag = not (is 'U' g.diag || is 'N' g.diag)
bad_with g c size-m = negative g.m
bad_with g c size-n = negative g.n
bad_with g c size-k = negative g.k
bad_with g c ld-A = bad_ld g.lda (shape_a g.routine c)
bad_with g c ld-B = bad_ld g.ldb (shape_b g.routine c)
bad_with g c ld-C = bad_ld g.ldc (shape_c g.routine c)
bad_with g c array-A = not (untested c) && short g.lena c.lda (shape_a g.routine c)
bad_with g c array-B = not (if in_place g.routine then empty c else untested c) && short g.lenb c.ldb (shape_b g.routine c)
bad_with g c array-C = not (empty c) && short g.lenc c.ldc (shape_c g.routine c)

unfoldable pub bad : Args → Argument → Bool
bad g x = bad_with g (call_of g) x

-- The place of the first argument of the list that is bad, or 0.
unfoldable pub first_bad : Args → List Place → ℕ
first_bad g [] = 0
first_bad g (x ∷ xs) = let rest = first_bad g xs in if bad g x.argument then x.place else rest

-- Document 02, K5: "Number 30 is left for values below 0 or above 64."
unfoldable pub bad_width : ℤ → Bool
bad_width w = negative w || ltb 64 (nat w)

-- Document 02, K5: "A strip width or block size of 0 is answered from now on, and works as 64." (A negative one is refused and stands for no width.)
unfoldable pub width : ℤ → ℕ
width (pos zero) = 64
width (pos (suc n)) = suc n
width (negsuc n) = 0

-- "30, then places ascending for codes, sizes and leading dimensions, then array lengths ascending": the number of a refusal, or 0
unfoldable pub refusal : ℤ → ℤ → Args → ℕ
refusal w r g = let e = first_bad g (places g.routine ++ arrays g.routine) in if bad_width w || bad_width r then 30 else e

-- ---- the answer

-- "Nothing to do means that m or n is 0, or, in a routine that has β, that the start is the result and β is one"
unfoldable pub idle : Call → Bool
idle c = empty c || (not (in_place c.routine) && (start_only c && is_one c.beta))

-- "The argument check ends as refused with a number, as nothing to do, or as ready."
unfoldable pub checked : ℤ → ℤ → Args → Checked
checked w r g =
    let e = refusal w r g in
    let c = call_of g in
    if eqb e 0 then (if idle c then Idle else Ready c) else Refused e

-- "A direct call gives 0 or its number"
unfoldable pub number : Checked → ℤ
number (Refused e) = pos e
number Idle = pos 0
number (Ready c) = pos 0

-- "refused, it writes nothing": the output's array after the call
unfoldable pub leaves : Checked → List Float → List Float → List Float → List Float
leaves (Refused e) a b out = out
leaves Idle a b out = out
leaves (Ready c) a b out = result c a b out

-- Document 02, K11: "or a refusal, it reports −1"
unfoldable pub reports : Checked → List Float → ℤ
reports (Refused e) a = none
reports Idle a = none
reports (Ready c) a = zero_of c.routine c a
