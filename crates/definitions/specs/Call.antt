-- A call: its routine, the shapes of its matrices, what it writes, and its strips.
use Rattle.std.specs.Prelude.{ℕ, ◌+◌, ◌-◌, ◌/◌, Bool, true, false, ◌&&◌, ◌||◌, leb, ltb, eqb, if◌then◌else◌}
use Rattle.arrays.specs.Update.{Mask}
use Rattle.definitions.specs.Number.{is_zero}
use Rattle.definitions.specs.Storage.{inside}
use Rattle.definitions.specs.declared.Routine.{Routine}
use Rattle.definitions.specs.declared.Routine.TheVariants.{Gemm, Symm, Syrk, Syr2k, Trmm, Trsm}
use Rattle.definitions.specs.declared.Side.{Side}
use Rattle.definitions.specs.declared.Side.TheVariants.{Left, Right}
use Rattle.definitions.specs.declared.Transpose.{Transpose}
use Rattle.definitions.specs.declared.Transpose.TheVariants.{No, Yes}
use Rattle.definitions.specs.declared.Triangle.{Triangle}
use Rattle.definitions.specs.declared.Call.{Call}
use Rattle.definitions.specs.declared.Shape.{Shape}

-- The first for side L, the second for side R.
unfoldable pub by_side : {A : Type 0} → Side → A → A → A
by_side Left x y = x
by_side Right x y = y

-- ---- what the routines have

-- SYRK and SYR2K have no m: C is n by n.
unfoldable pub has_m : Routine → Bool
has_m Gemm = true
has_m Symm = true
has_m Syrk = false
has_m Syr2k = false
has_m Trmm = true
has_m Trsm = true

unfoldable pub has_k : Routine → Bool
has_k Gemm = true
has_k Symm = false
has_k Syrk = true
has_k Syr2k = true
has_k Trmm = false
has_k Trsm = false

-- TRMM and TRSM write over B and have no C and no β; the others write C.
unfoldable pub in_place : Routine → Bool
in_place Gemm = false
in_place Symm = false
in_place Syrk = false
in_place Syr2k = false
in_place Trmm = true
in_place Trsm = true

-- "m or n is 0"
unfoldable pub empty : Call → Bool
empty c = eqb c.m 0 || eqb c.n 0

-- "α or k is 0"; "Routines without m or k skip that size."
unfoldable pub start_only : Call → Bool
start_only c = is_zero c.alpha || (has_k c.routine && eqb c.k 0)

-- ---- shapes

infix 60 ◌by◌
abbrev pub ◌by◌ : ℕ → ℕ → Shape
p by q = record { rows = p; cols = q }

-- How a matrix is stored whose op is p by q.
unfoldable pub stored_as : Transpose → ℕ → ℕ → Shape
stored_as No p q = p by q
stored_as Yes p q = q by p

-- "A of order m" for side L, "A of order n" for side R
unfoldable pub order : Call → ℕ
order c = by_side c.side c.m c.n

-- GEMM: "op(A) is m by k, op(B) k by n, C m by n". SYMM: "B and C are m by n". SYRK: "op(A) n by k". TRMM and TRSM: "B is m by n".
unfoldable pub shape_a : Routine → Call → Shape
shape_a Gemm c = stored_as c.transa c.m c.k
shape_a Symm c = order c by order c
shape_a Syrk c = stored_as c.transa c.n c.k
shape_a Syr2k c = stored_as c.transa c.n c.k
shape_a Trmm c = order c by order c
shape_a Trsm c = order c by order c

-- (SYRK has no B, TRMM and TRSM no C.)
unfoldable pub shape_b : Routine → Call → Shape
shape_b Gemm c = stored_as c.transb c.k c.n
shape_b Symm c = c.m by c.n
shape_b Syrk c = 0 by 0
shape_b Syr2k c = stored_as c.transa c.n c.k
shape_b Trmm c = c.m by c.n
shape_b Trsm c = c.m by c.n

unfoldable pub shape_c : Routine → Call → Shape
shape_c Gemm c = c.m by c.n
shape_c Symm c = c.m by c.n
shape_c Syrk c = c.n by c.n
shape_c Syr2k c = c.n by c.n
shape_c Trmm c = 0 by 0
shape_c Trsm c = 0 by 0

-- ---- what a call writes

unfoldable pub ld_output : Call → ℕ
ld_output c = if in_place c.routine then c.ldb else c.ldc

-- SYRK, SYR2K: "Only triangle uplo of C, diagonal included, is read or written."
unfoldable pub in_triangle : Routine → Triangle → Mask
in_triangle Gemm t i j = true
in_triangle Symm t i j = true
in_triangle Syrk t i j = inside t i j
in_triangle Syr2k t i j = inside t i j
in_triangle Trmm t i j = true
in_triangle Trsm t i j = true

-- The routine writes entry (i, j) of the output, which is m by n.
unfoldable pub in_output : Call → Mask
in_output c i j = ltb i c.m && ltb j c.n && in_triangle c.routine c.uplo i j

-- ---- strips

-- "Strips cut the columns of the output, or its rows for TRMM and TRSM of side R"
unfoldable pub cuts_rows : Routine → Side → Bool
cuts_rows f s = in_place f && by_side s false true

-- "d is n, or m there"
unfoldable pub extent : Call → ℕ
extent c = if cuts_rows c.routine c.side then c.m else c.n

-- "A call has ceil(d/w) strips, or 1 if m or n is 0."
unfoldable pub strips : ℕ → Call → ℕ
strips w c = if empty c then 1 else (extent c + w - 1) / w

-- The column of entry (i, j), or its row where strips cut rows.
unfoldable pub cut : Call → ℕ → ℕ → ℕ
cut c i j = if cuts_rows c.routine c.side then i else j

-- The call writes entry (i, j), and its column (or row) is from `from` on and below `to`.
unfoldable pub writes : Call → ℕ → ℕ → Mask
writes c from to i j = in_output c i j && (leb from (cut c i j) && ltb (cut c i j) to)
