-- Document 02, K9: one A, not transposed, and many right sides. Item i has its B from element i·strideb of one array on, and its C from element i·stridec of another.
use Rattle.std.specs.Prelude.{ℕ, ◌-◌, ◌*◌, Bool, not, ◌&&◌, ◌||◌, List, [], ◌∷◌, ◌++◌, ltb, eqb, ℤ, pos, length, take, drop, Float, if◌then◌else◌}
use Rattle.std.specs.Float.{nan}
use Rattle.arrays.specs.Update.{update, below, entries}
use Rattle.arrays.specs.Fold.{fold}
use Rattle.definitions.specs.Storage.{stored}
use Rattle.definitions.specs.Call.{shape_c}
use Rattle.definitions.specs.Check.{negative, nat, 'N', call_of, places, arrays, short, untested, first_bad, bad_width}
use Rattle.definitions.specs.Direct as Direct
use Rattle.definitions.specs.declared.Args.{Args}
use Rattle.definitions.specs.declared.Call.{Call}
use Rattle.definitions.specs.declared.Items.{Items}
use Rattle.definitions.specs.declared.ManyEnd.{ManyEnd}

-- ---- what is copied

-- "The panel it reads is A's own part where lda equals m, and otherwise part of the pack area."; "With no right sides, or m, n, k or α zero, nothing is copied."
unfoldable pub copies : Call → ℕ → Bool
copies c count = not (eqb count 0 || untested c) && not (eqb c.lda c.m)

-- "The result carries the elements copied: 0 in the first case, m·k in the second."
unfoldable pub copied : Call → ℕ → ℕ
copied c count = if copies c count then c.m * c.k else 0

-- "after a copy the pack area begins with A's columns without padding, and what was not copied over keeps its content"
unfoldable pub packed : Call → List Float → ℕ → List Float → List Float
packed c a n pack = update (below n (entries c.m (λ i l old. stored nan a c.lda i l))) pack

-- ---- the numbers

-- "An item count outside 0 to 1,000 is 42"
unfoldable pub bad_count : ℤ → Bool
bad_count count = negative count || ltb 1000 (nat count)

-- "a negative stride or a C stride below the needed length of C is 43"
unfoldable pub bad_stride : Call → Items → Bool
bad_stride c t = negative t.strideb || negative t.stridec || short (nat t.stridec) c.ldc (shape_c c.routine c)

-- The elements that an array has from its last item on.
unfoldable pub from_last : ℕ → ℤ → ℤ → ℕ
from_last len stride count = len - (nat count - 1) * nat stride

-- The first of the numbers that is not 0, or 0.
unfoldable pub first_number : List ℕ → ℕ
first_number [] = 0
first_number (e ∷ es) = let rest = first_number es in if eqb e 0 then rest else e

-- The arguments g are those of the last item's GEMM: "Where GEMM tests B or C, its numbers 9 and 12 are here given when the array ends before its last item's needed length;
-- with no right sides no array is tested." 42 and 43 are "both tested, in that order, after GEMM's leading dimensions and before its arrays; a pack area under m·k where one is
-- needed is 44, tested last."
unfoldable pub refusal : ℤ → ℤ → Args → Items → ℕ → ℕ
refusal w r g t pack =
    first_number (
    (if bad_width w || bad_width r then 30 else 0)
    ∷ first_bad g (places g.routine)
    ∷ (if bad_count t.count then 42 else 0)
    ∷ (if bad_stride (call_of g) t then 43 else 0)
    ∷ (if eqb (nat t.count) 0 then 0 else first_bad g (arrays g.routine))
    ∷ (if ltb pack (copied (call_of g) (nat t.count)) then 44 else 0)
    ∷ [])

-- ---- the call

-- What the call has copied. (A refused one has copied nothing.)
abbrev pub copied_by : ℤ → ℤ → Args → Items → ℕ → ℕ
copied_by w r g t pack = if eqb (refusal w r g t pack) 0 then copied (call_of g) (nat t.count) else 0

-- What an item leaves in the array of all C, if `own` is what it leaves of its own part from its own B.
unfoldable pub item : (List Float → List Float → List Float) → ℕ → ℕ → List Float → List Float → ℕ → List Float
item own strideb stridec b out i = take (i * stridec) out ++ own (drop (i * strideb) b) (drop (i * stridec) out)

-- What the call hands back, and the arrays of C and of the pack area after it.
pub record Done : Type 0 where
  pub end : ManyEnd
  pub array : List Float
  pub pack : List Float

abbrev pub items_of : ℤ → ℤ → ℤ → Items
items_of count strideb stridec = record { count = count; strideb = strideb; stridec = stridec }

-- The arguments of the last item's GEMM: A is "not transposed (no place 1)".
abbrev pub last_args : ℤ → ℤ → ℤ → ℤ → Float → ℕ → ℤ → ℕ → ℤ → ℤ → Float → ℕ → ℤ → ℤ → ℤ → Args
last_args transb m n k alpha lena lda lenb ldb strideb beta lenc ldc stridec items =
    Direct.gemm_args (pos 'N') transb m n k alpha lena lda (from_last lenb strideb items) ldb beta (from_last lenc stridec items) ldc

-- "Every C is what its own GEMM gives". Refused, the call writes nothing.
unfoldable pub many : ℤ → ℤ → ℤ → ℤ → Float → List Float → ℤ → List Float → ℤ → ℤ → Float → List Float → ℤ → ℤ → ℤ → List Float → ℤ → ℤ → Done
many transb m n k alpha a lda b ldb strideb beta c ldc stridec items pack w r =
    let g = last_args transb m n k alpha (length a) lda (length b) ldb strideb beta (length c) ldc stridec items in
    let t = items_of items strideb stridec in
    let e = refusal w r g t (length pack) in
    let own : List Float → List Float → List Float = λ x y. (Direct.gemm (pos 'N') transb m n k alpha a lda x ldb beta y ldc w r).array in
    let n = copied_by w r g t (length pack) in
    let all = fold (item own (nat strideb) (nat stridec) b) (nat items) c in
    record { end = record { number = pos e; copied = n }; array = if eqb e 0 then all else c; pack = packed (call_of g) a n pack }
