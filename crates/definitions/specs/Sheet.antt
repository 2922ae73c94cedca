-- The call sheet: its trailer, its records, and what a record does to the lent arrays.
use Rattle.std.specs.Prelude.{ℕ, zero, suc, ◌+◌, ◌-◌, ◌*◌, Bool, false, not, ◌&&◌, ◌||◌, List, [], ◌∷◌, ◌++◌, leb, ltb, eqb, ℤ, pos, negsuc, get_or, length, take, drop, Float, if◌then◌else◌}
use Rattle.std.proofs.Math.Option.{Option, none, some}
use Rattle.std.proofs.Math.ListN.{get_elem?}
use Rattle.std.specs.Float.{nan}
use Rattle.definitions.specs.Number.{scalar}
use Rattle.definitions.specs.Call.{in_place, strips}
use Rattle.definitions.specs.Element.{strip, zero_of}
use Rattle.definitions.specs.Check.{nat, negative, width, refusal, call_of}
use Rattle.definitions.specs.Machine.{Act, refuse, work}
use Rattle.definitions.specs.declared.Routine.{Routine}
use Rattle.definitions.specs.declared.Routine.TheVariants.{Gemm, Symm, Syrk, Syr2k, Trmm, Trsm}
use Rattle.definitions.specs.declared.Args.{Args}
use Rattle.definitions.specs.declared.Call.{Call}

-- "It is fed the sheet and the scalars."; "A sheet is a list of i32 words."; "Scalars are a separate f64 list"
pub record Sheet : Type 0 where
  pub words : List ℤ
  pub scalars : List Float

unfoldable pub word : Sheet → ℕ → ℤ
word t i = get_or t.words i (pos 0)

-- ---- the trailer

-- "Its last two words point back: the index of the first record's first word, then the count."
unfoldable pub index : Sheet → ℤ
index t = word t (length t.words - 2)

unfoldable pub count : Sheet → ℤ
count t = word t (length t.words - 1)

-- "Neither may be negative, and index + 20·count must equal the length less 2; a sheet that fails this, or is shorter than 2 words, has a bad trailer,
-- any other a sound one."
unfoldable pub sound : Sheet → Bool
sound t =
    leb 2 (length t.words) && (not (negative (index t)) && (not (negative (count t))
    && eqb (nat (index t) + 20 * nat (count t)) (length t.words - 2)))

-- The records are 0 to `records t` - 1.
unfoldable pub records : Sheet → ℕ
records t = nat (count t)

-- ---- a record

-- Word q, from 0 to 19, of record p. "Words before the index are not read."
unfoldable pub field : Sheet → ℕ → ℕ → ℤ
field t p q = word t (nat (index t) + 20 * p + q)

-- "A record, from word 0: routine (1 to 6 in the order of the opening sentence), side, uplo, trans or transa, transb, diag, m, n, k; then array
-- number, offset and ld for A, for B, for C; then w, r."
unfoldable pub routine_of : ℤ → Option Routine
routine_of (pos zero) = none
routine_of (pos (suc i)) = get_elem? (Gemm ∷ Symm ∷ Syrk ∷ Syr2k ∷ Trmm ∷ Trsm ∷ []) i
routine_of (negsuc i) = none

-- The words of the array numbers; offset and ld follow each.
abbrev pub A : ℕ
A = 9

abbrev pub B : ℕ
B = 12

abbrev pub C : ℕ
C = 15

-- The matrix that the routine writes, and those that it only reads. "Fields that a routine lacks are not read."
unfoldable pub output : Routine → ℕ
output f = if in_place f then B else C

unfoldable pub inputs : Routine → List ℕ
inputs Gemm = A ∷ B ∷ []
inputs Symm = A ∷ B ∷ []
inputs Syrk = A ∷ []
inputs Syr2k = A ∷ B ∷ []
inputs Trmm = A ∷ []
inputs Trsm = A ∷ []

unfoldable pub any : (ℕ → Bool) → List ℕ → Bool
any test [] = false
any test (q ∷ qs) = test q || any test qs

-- "α of record p at 2p, β at 2p+1"
unfoldable pub alpha_of : Sheet → ℕ → Float
alpha_of t p = get_or t.scalars (2 * p) nan

unfoldable pub beta_of : Sheet → ℕ → Float
beta_of t p = get_or t.scalars (2 * p + 1) nan

-- ---- the lent arrays

-- "Array numbers 0, 1, 2 name the lent arrays X, Y, Z"
pub record Arrays : Type 0 where
  pub x : List Float
  pub y : List Float
  pub z : List Float

unfoldable pub array : Arrays → ℕ → List Float
array l zero = l.x
array l (suc zero) = l.y
array l (suc (suc n)) = l.z

unfoldable pub with_array : Arrays → ℕ → List Float → Arrays
with_array l zero v = record { x = v; y = l.y; z = l.z }
with_array l (suc zero) v = record { x = l.x; y = v; z = l.z }
with_array l (suc (suc n)) v = record { x = l.x; y = l.y; z = v }

-- The length of each array.
unfoldable pub lengths : Arrays → ℕ → ℕ
lengths l n = length (array l n)

-- "a matrix is the part of its array from the offset": the matrix of record p whose array number is word q
unfoldable pub part : Sheet → ℕ → ℕ → Arrays → List Float
part t p q l = drop (nat (field t p (q + 1))) (array l (nat (field t p q)))

unfoldable pub part_length : Sheet → ℕ → ℕ → (ℕ → ℕ) → ℕ
part_length t p q size = size (nat (field t p q)) - nat (field t p (q + 1))

-- ---- the tests of a record; `size` gives the arrays' lengths

-- 32: "array number not 0 to 2, or the output's array also that of another matrix"
unfoldable pub bad_arrays : Sheet → ℕ → Routine → Bool
bad_arrays t p f =
    any (λ q. negative (field t p q) || ltb 2 (nat (field t p q))) (output f ∷ inputs f)
    || any (λ q. eqb (nat (field t p q)) (nat (field t p (output f)))) (inputs f)

-- 33: "offset negative or above the array's length"
unfoldable pub bad_offsets : Sheet → ℕ → Routine → (ℕ → ℕ) → Bool
bad_offsets t p f size =
    any (λ q. negative (field t p (q + 1)) || ltb (size (nat (field t p q))) (nat (field t p (q + 1)))) (output f ∷ inputs f)

-- The arguments of record p as those of a direct call.
unfoldable pub args_of : Sheet → ℕ → Routine → (ℕ → ℕ) → Args
args_of t p f size = record {
  routine = f;
  side = field t p 1;
  uplo = field t p 2;
  transa = field t p 3;
  transb = field t p 4;
  diag = field t p 5;
  m = field t p 6;
  n = field t p 7;
  k = field t p 8;
  alpha = scalar (alpha_of t p);
  beta = scalar (beta_of t p);
  lda = field t p (A + 2);
  ldb = field t p (B + 2);
  ldc = field t p (C + 2);
  lena = part_length t p A size;
  lenb = part_length t p B size;
  lenc = part_length t p C size;
}

-- "A record tests 31, 32, 33, then as a direct call": the number of a refusal, or 0
unfoldable pub record_refusal : Sheet → ℕ → (ℕ → ℕ) → Option Routine → ℕ
record_refusal t p size none = 31
record_refusal t p size (some f) =
    let direct = refusal (field t p 18) (field t p 19) (args_of t p f size) in
    if bad_arrays t p f then 32 else if bad_offsets t p f size then 33 else direct

-- ---- what a record does

unfoldable pub width_of : Sheet → ℕ → ℕ
width_of t p = width (field t p 18)

-- The arrays after the columns, or rows, of record p from `from` on and below `to`.
unfoldable pub strip_done : Sheet → ℕ → Routine → Call → ℕ → ℕ → Arrays → Arrays
strip_done t p f c from to l =
    let number = nat (field t p (output f)) in
    let offset = nat (field t p (output f + 1)) in
    with_array l number (take offset (array l number) ++ strip c (part t p A l) (part t p B l) from to (part t p (output f) l))

-- "Strip s is the columns, or the rows where strips cut rows, from s·w on that are below (s+1)·w and below d."
unfoldable pub accepted : Sheet → ℕ → Routine → Call → Act Arrays
accepted t p f c =
    let w = width_of t p in
    work (strips w c) (λ s l. strip_done t p f c (s * w) (suc s * w) l) (λ l. not (negative (zero_of f c (part t p A l))))

unfoldable pub act_by : Sheet → ℕ → (ℕ → ℕ) → Option Routine → Act Arrays
act_by t p size none = refuse 31
act_by t p size (some f) =
    let e = record_refusal t p size (some f) in
    let done = accepted t p f (call_of (args_of t p f size)) in
    if eqb e 0 then done else refuse e

unfoldable pub act : Sheet → ℕ → Arrays → Act Arrays
act t p l = act_by t p (lengths l) (routine_of (field t p 0))
