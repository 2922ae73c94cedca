-- Document 01's "Table to be proved", the examples of its "Numbers handed back", and examples of document 02's K2, K5 and K11, by computation over the definitions.
-- Assumes nothing.
use Prim.Native.Nat.{ℕ, ◌+◌, ◌-◌}
use mathlib.Core.Path.{◌≡◌, refl}
use mathlib.Core.Bool.{false}
use mathlib.Core.List.{List, [], ◌∷◌, ◌++◌, map}
use lib.Dec.{T}
use lib.IntN.{ℤ, pos, negsuc}
use lib.ListN.{replicate}
use lib.Ieee.{Float, nan, inf, binary64, add, mul, div, neg, eq, of_int}
use Rattle.arrays.specs.Update.{update_from, entries, only}
use Rattle.arrays.specs.Fold.{fold, among, solved}
use Rattle.arrays.specs.Search.{lowest, none, answer, earlier}
use Rattle.floats.specs.Operations.{◌⊘◌, 0f, 1f}
use Rattle.definitions.specs.Number.{scalar, factor, start}
use Rattle.definitions.specs.Storage.{stored, transposed, op, inside, op_triangle, mirrored, with_diagonal, needed}
use Rattle.definitions.specs.Call as Call
use Rattle.definitions.specs.Element as Element
use Rattle.definitions.specs.Check as Check
use Rattle.definitions.specs.Check.{'N', 'U', 'L'}
use Rattle.definitions.specs.Direct as Direct
use Rattle.definitions.specs.Direct.{Done, Solved, gemm, symm, syrk, syr2k, trmm, trsm}
use Rattle.definitions.specs.Machine as Machine
use Rattle.definitions.specs.Sheet as Sheet
use Rattle.definitions.specs.Sheet.{Arrays}
use Rattle.definitions.specs.Run as Run
use Rattle.definitions.specs.Run.{Ran, ran, runs, last}
use Rattle.definitions.proofs.Same.{same_integer, same_floats, same-integer, same-floats}

-- "lists are column by column; each leading dimension is its matrix's rows; P = 9007199254740992"
num : ℕ → Float
num n = of_int binary64 (pos n)

vec : List ℕ → List Float
vec ns = map num ns

P : ℕ
P = 9007199254740992

-- accepted, with the list as result
gives : List Float → Done
gives v = record { number = pos 0; array = v }

gives-is : (d : Done) (v : List Float) → T (same_integer d.number (pos 0)) → T (same_floats d.array v) → d ≡ gives v
unfolding gives
gives-is d v t u = let p = same-integer d.number (pos 0) t in let q = same-floats d.array v u in λ i. record { number = p i; array = q i }

-- the same for a solve without a zero on the diagonal
solves : List Float → Solved
solves v = record { end = record { number = pos 0; zero = none }; array = v }

solves-is : (d : Solved) (v : List Float) → T (same_integer d.end.number (pos 0)) → T (same_integer d.end.zero none) → T (same_floats d.array v) → d ≡ solves v
unfolding solves
solves-is d v t z u =
    let p = same-integer d.end.number (pos 0) t in
    let q = same-integer d.end.zero none z in
    let r = same-floats d.array v u in
    λ i. record { end = record { number = p i; zero = q i }; array = r i }

-- GEMM, neither transposed
gemm_nn : ℕ → ℕ → ℕ → Float → List Float → List Float → Float → List Float → Done
gemm_nn m n k alpha a b beta c =
    gemm (pos 'N') (pos 'N') (pos m) (pos n) (pos k) alpha a (pos m) b (pos k) beta c (pos m) (pos 64) (pos 64)

-- "sheet of one GEMM, m = k = 1, n 3, w 1, all else sound", with n and w as given: A is X, B is Y, C is Z
sheet : ℕ → ℕ → Sheet.Sheet
sheet n w = record {
  words = map pos (1 ∷ 0 ∷ 0 ∷ 'N' ∷ 'N' ∷ 0 ∷ 1 ∷ n ∷ 1 ∷ 0 ∷ 0 ∷ 1 ∷ 1 ∷ 0 ∷ 1 ∷ 2 ∷ 0 ∷ 1 ∷ w ∷ 0 ∷ 0 ∷ 1 ∷ []);
  scalars = 1f ∷ 0f ∷ [];
}

lent : Arrays
lent = record { x = vec (2 ∷ []); y = vec (replicate 65 3); z = vec (replicate 65 0) }

-- before the first run, at the cursor (p, s)
before : ℤ → ℤ → Ran
before p s = ran 0 p s 0 none lent (pos 7 ∷ [])

cursor : Ran → ℤ × ℤ
cursor r = (r.end.p, r.end.s)

-- A GEMM of 1 by 1 matrices but for what it is given.
direct : ℤ → ℤ → ℤ → ℤ → List Float → Done
direct transa m lda w c = gemm transa (pos 'N') m (pos 1) (pos 1) 1f (vec (1 ∷ 1 ∷ [])) lda (vec (1 ∷ [])) (pos 1) 0f c (pos 2) w (pos 64)

-- A sheet of one record of the routine, with A's array and offset, and C's array; its matrices are 1 by 1.
record_of : ℕ → ℕ → ℤ → ℕ → Sheet.Sheet
record_of routine array_a offset array_c = record {
  words = map pos (routine ∷ 0 ∷ 'L' ∷ 'N' ∷ 'N' ∷ 0 ∷ 1 ∷ 1 ∷ 1 ∷ array_a ∷ []) ++ (offset ∷ map pos (1 ∷ 1 ∷ 0 ∷ 1 ∷ array_c ∷ 0 ∷ 1 ∷ 64 ∷ 64 ∷ 0 ∷ 1 ∷ []));
  scalars = 1f ∷ 0f ∷ [];
}

-- What a solve of order 2, side L and not transposed, reports: uplo, diag, columns, alpha and A.
zero_in : ℕ → ℕ → ℕ → Float → List Float → ℤ
zero_in uplo diag n alpha a =
    (trsm (pos 'L') (pos uplo) (pos 'N') (pos diag) (pos 2) (pos n) alpha a (pos 2) (vec (1 ∷ 1 ∷ [])) (pos 2) (pos 64) (pos 64)).end.zero

-- A sheet of two solves of order 1 in strips of one column, the first of one column with B of leading dimension ldb, the second of two. A is X, which is zero.
solve_words : ℕ → ℕ → List ℕ
solve_words n ldb = 6 ∷ 'L' ∷ 'L' ∷ 'N' ∷ 0 ∷ 'N' ∷ 1 ∷ n ∷ 0 ∷ 0 ∷ 0 ∷ 1 ∷ 1 ∷ 0 ∷ ldb ∷ 0 ∷ 0 ∷ 0 ∷ 1 ∷ 64 ∷ []

zeroes_of : ℕ → List ℕ → List ℤ
zeroes_of ldb budgets =
    let t : Sheet.Sheet = record { words = map pos (solve_words 1 ldb ++ (solve_words 2 1 ++ (0 ∷ 2 ∷ []))); scalars = 1f ∷ 0f ∷ 1f ∷ 0f ∷ [] } in
    let l : Arrays = record { x = vec (0 ∷ []); y = vec (1 ∷ 1 ∷ []); z = [] } in
    map (λ (r : Ran). r.end.zero) (runs t budgets (ran 0 (pos 0) (pos 0) 0 none l (pos 7 ∷ pos 7 ∷ [])))

-- the answers that one run leaves, and the number that it hands back
answers_of : Sheet.Sheet → List ℤ
answers_of t = (last (before (pos 0) (pos 0)) (runs t (1 ∷ []) (before (pos 0) (pos 0)))).answers

number_of : Sheet.Sheet → ℤ → ℤ → List ℤ
number_of t p s = Run.numbers (runs t (1 ∷ []) (before p s))

-- Everything that the table and the examples compute with.
abbrev opened : ℕ
unfolding num vec P gives solves gemm_nn sheet lent before cursor direct record_of zero_in solve_words zeroes_of answers_of number_of gemm symm syrk syr2k trmm trsm
    Direct.done Direct.solved lowest answer earlier Check.checked Check.number Check.leaves Check.reports Check.idle Check.refusal Check.first_bad Check.places Check.arrays Check.bad Check.bad_with Check.bad_width Check.width
    Check.untested Check.short Check.bad_ld Check.call_of Check.is Check.side_of Check.uplo_of Check.trans_of Check.diag_of
    Element.result Element.strip Element.array_b Element.value Element.gemm Element.symm Element.syrk Element.syr2k Element.trmm Element.trsm Element.solve_next
    Element.by_zero Element.zero_on_diagonal Element.zero_of Element.divided Element.turn Element.solves_up Element.triangle Element.triangular Element.accumulated Element.all_terms Element.product_term Element.term
    Call.by_side Call.has_m Call.has_k Call.in_place Call.empty Call.start_only Call.stored_as Call.order Call.shape_a Call.shape_b Call.shape_c Call.ld_output
    Call.in_triangle Call.in_output Call.cuts_rows Call.extent Call.strips Call.cut Call.writes
    stored transposed op inside op_triangle mirrored with_diagonal needed update_from entries only fold among solved scalar factor start
    Machine.strips_of Machine.closed Machine.perform Machine.finished Machine.step Machine.iterate Machine.made Machine.counts Machine.reported
    Sheet.act Sheet.act_by Sheet.accepted Sheet.strip_done Sheet.width_of Sheet.record_refusal Sheet.args_of Sheet.bad_offsets Sheet.bad_arrays Sheet.part_length Sheet.part
    Sheet.lengths Sheet.with_array Sheet.array Sheet.beta_of Sheet.alpha_of Sheet.any Sheet.inputs Sheet.output Sheet.routine_of Sheet.field Sheet.records Sheet.sound
    Sheet.count Sheet.index Sheet.word
    Run.begin Run.after Run.steps_made Run.zero_reported Run.too_short Run.bad_cursor Run.run_refusal Run.run runs last Run.numbers
    of_int add mul div neg eq
opened = 0

-- α = 1, β = 0 unless given
table :
    -- a
    (gemm_nn 2 2 2 1f (vec (1 ∷ 3 ∷ 2 ∷ 4 ∷ [])) (vec (5 ∷ 7 ∷ 6 ∷ 8 ∷ [])) 0f (vec (0 ∷ 0 ∷ 0 ∷ 0 ∷ [])) ≡ gives (vec (19 ∷ 43 ∷ 22 ∷ 50 ∷ [])))
    -- b
    × (gemm_nn 1 1 3 1f (vec (P ∷ 1 ∷ 1 ∷ [])) (vec (1 ∷ 1 ∷ 1 ∷ [])) 0f (vec (0 ∷ [])) ≡ gives (vec (P ∷ [])))
    -- c
    × (gemm_nn 1 1 3 1f (vec (1 ∷ 1 ∷ P ∷ [])) (vec (1 ∷ 1 ∷ 1 ∷ [])) 0f (vec (0 ∷ [])) ≡ gives (vec ((P + 2) ∷ [])))
    -- d
    × (gemm_nn 1 1 1 1f (vec (2 ∷ [])) (vec (3 ∷ [])) 0f (nan ∷ []) ≡ gives (vec (6 ∷ [])))
    -- e
    × (gemm_nn 1 1 1 1f (inf false ∷ []) (vec (0 ∷ [])) 0f (vec (0 ∷ [])) ≡ gives (nan ∷ []))
    -- f
    × (gemm_nn 1 1 1 0f (inf false ∷ []) (vec (1 ∷ [])) (num 2) (vec (3 ∷ [])) ≡ gives (vec (6 ∷ [])))
    -- g
    × (symm (pos 'L') (pos 'U') (pos 2) (pos 1) 1f (vec (1 ∷ 9 ∷ 2 ∷ 3 ∷ [])) (pos 2) (vec (1 ∷ 1 ∷ [])) (pos 2) 0f (vec (0 ∷ 0 ∷ [])) (pos 2) (pos 64) (pos 64)
    ≡ gives (vec (3 ∷ 5 ∷ [])))
    -- h
    × (syrk (pos 'L') (pos 'N') (pos 2) (pos 1) 1f (vec (1 ∷ 2 ∷ [])) (pos 2) 1f (vec (10 ∷ 20 ∷ 30 ∷ 40 ∷ [])) (pos 2) (pos 64) (pos 64)
    ≡ gives (vec (11 ∷ 22 ∷ 30 ∷ 44 ∷ [])))
    -- i
    × (syr2k (pos 'L') (pos 'N') (pos 2) (pos 1) 1f (vec (1 ∷ 2 ∷ [])) (pos 2) (vec (3 ∷ 4 ∷ [])) (pos 2) 0f (vec (9 ∷ 9 ∷ 9 ∷ 9 ∷ [])) (pos 2) (pos 64) (pos 64)
    ≡ gives (vec (6 ∷ 10 ∷ 9 ∷ 16 ∷ [])))
    -- j
    × (trmm (pos 'L') (pos 'U') (pos 'N') (pos 'U') (pos 2) (pos 1) 1f (vec (9 ∷ 9 ∷ 2 ∷ 9 ∷ [])) (pos 2) (vec (3 ∷ 4 ∷ [])) (pos 2) (pos 64) (pos 64)
    ≡ gives (vec (11 ∷ 4 ∷ [])))
    -- k
    × (trsm (pos 'L') (pos 'L') (pos 'N') (pos 'N') (pos 2) (pos 1) (num 2) (vec (2 ∷ 1 ∷ 9 ∷ 4 ∷ [])) (pos 2) (vec (3 ∷ 7 ∷ [])) (pos 2) (pos 64) (pos 64)
    ≡ solves (num 3 ∷ (num 11 ⊘ num 4) ∷ []))
    -- l
    × (trsm (pos 'L') (pos 'U') (pos 'N') (pos 'U') (pos 3) (pos 1) 1f (vec (1 ∷ 0 ∷ 0 ∷ 1 ∷ 1 ∷ 0 ∷ 1 ∷ 0 ∷ 1 ∷ [])) (pos 3)
    (num 1 ∷ num P ∷ neg (num P) ∷ []) (pos 3) (pos 64) (pos 64)
    ≡ solves (num 0 ∷ num P ∷ neg (num P) ∷ []))
    -- m
    × (map cursor (runs (sheet 3 1) (2 ∷ 1 ∷ []) (before (pos 0) (pos 0))) ≡ (pos 0, pos 2) ∷ (pos 1, pos 0) ∷ [])
unfolding opened
table = (
  gives-is _ _ tt tt,
  gives-is _ _ tt tt,
  gives-is _ _ tt tt,
  gives-is _ _ tt tt,
  gives-is _ _ tt tt,
  gives-is _ _ tt tt,
  gives-is _ _ tt tt,
  gives-is _ _ tt tt,
  gives-is _ _ tt tt,
  gives-is _ _ tt tt,
  solves-is _ _ tt tt tt,
  solves-is _ _ tt tt tt,
  refl,
)

-- "all terms of op(A)op(B)ᵀ, then all of op(B)op(A)ᵀ": with a row 1, -1 and a row 1, 1 and the old element P the sum is P - 1; if the two products took turns,
-- panel by panel, it would be P - 2.
products-in-turn :
    syr2k (pos 'L') (pos 'N') (pos 1) (pos 2) 1f (num 1 ∷ neg (num 1) ∷ []) (pos 1) (vec (1 ∷ 1 ∷ [])) (pos 1) 1f (vec (P ∷ [])) (pos 1) (pos 64) (pos 64)
    ≡ gives (vec ((P - 1) ∷ []))
unfolding opened
products-in-turn = gives-is _ _ tt tt

-- "Numbers handed back": the examples, in the order of the numbers.
numbers :
    ((direct (pos 88) (pos 1) (pos 1) (pos 64) (vec (0 ∷ 0 ∷ []))).number ≡ pos 1)
    × ((direct (pos 'N') (pos 2) (pos 1) (pos 64) (vec (0 ∷ 0 ∷ []))).number ≡ pos 8)
    -- document 02, K2: "A GEMM call with m = 0, transa N, lda = 0 and nothing else wrong gave 0 and now gives 8."
    × ((direct (pos 'N') (pos 0) (pos 0) (pos 64) (vec (0 ∷ 0 ∷ []))).number ≡ pos 8)
    × ((direct (pos 'N') (pos 1) (pos 1) (pos 64) []).number ≡ pos 12)
    × ((direct (pos 'N') (pos 1) (pos 1) (pos 65) (vec (0 ∷ 0 ∷ []))).number ≡ pos 30)
    -- document 02, K5: "Number 30 is left for values below 0 or above 64."
    × ((direct (pos 'N') (pos 1) (pos 1) (negsuc 0) (vec (0 ∷ 0 ∷ []))).number ≡ pos 30)
    × (answers_of (record_of 7 0 (pos 0) 2) ≡ pos 31 ∷ [])
    × (answers_of (record_of 3 0 (pos 0) 0) ≡ pos 32 ∷ [])
    × (answers_of (record_of 3 0 (negsuc 0) 2) ≡ pos 33 ∷ [])
    × (number_of (record { words = pos 0 ∷ []; scalars = [] }) (pos 0) (pos 0) ≡ pos 34 ∷ [])
    × (number_of (record { words = map pos (replicate 20 0) ++ (negsuc 19 ∷ pos 2 ∷ []); scalars = [] }) (pos 0) (pos 0) ≡ pos 34 ∷ [])
    × (number_of (record { words = (sheet 3 1).words; scalars = 1f ∷ [] }) (pos 0) (pos 0) ≡ pos 35 ∷ [])
    × (number_of (sheet 3 1) (pos 1) (pos 1) ≡ pos 36 ∷ [])
    -- document 02, K5: 0 "works as 64"; there is no second strip in 64 columns, and there is one in 65
    × (number_of (sheet 64 0) (pos 0) (pos 1) ≡ pos 36 ∷ [])
    -- and accepted ones
    × ((direct (pos 'N') (pos 0) (pos 1) (pos 64) (vec (0 ∷ 0 ∷ []))).number ≡ pos 0)
    × ((direct (pos 'N') (pos 1) (pos 1) (pos 0) (vec (0 ∷ 0 ∷ []))).number ≡ pos 0)
    × (answers_of (record_of 3 0 (pos 0) 2) ≡ pos 0 ∷ [])
    × (number_of (sheet 3 1) (pos 0) (pos 2) ≡ pos 0 ∷ [])
    × (number_of (sheet 65 0) (pos 0) (pos 1) ≡ pos 0 ∷ [])
unfolding opened
numbers = (refl, refl, refl, refl, refl, refl, refl, refl, refl, refl, refl, refl, refl, refl, refl, refl, refl, refl, refl)

-- Document 02, K11: "the lowest diagonal index at which A is zero (−0.0 counts), or −1. With a unit diagonal, α zero, m or n zero, or a refusal, it reports −1."
zeroes :
    -- an upper A is solved from the last index down, a lower one from the first up
    (zero_in 'U' 'N' 1 1f (vec (0 ∷ 9 ∷ 2 ∷ 0 ∷ [])) ≡ pos 0)
    × (zero_in 'L' 'N' 1 1f (vec (0 ∷ 2 ∷ 9 ∷ 0 ∷ [])) ≡ pos 0)
    × (zero_in 'L' 'N' 1 1f (num 1 ∷ num 2 ∷ num 9 ∷ neg (num 0) ∷ []) ≡ pos 1)
    × (zero_in 'L' 'N' 1 1f (vec (1 ∷ 0 ∷ 0 ∷ 1 ∷ [])) ≡ none)
    × (zero_in 'L' 'U' 1 1f (vec (0 ∷ 2 ∷ 9 ∷ 0 ∷ [])) ≡ none)
    × (zero_in 'L' 'N' 1 0f (vec (0 ∷ 2 ∷ 9 ∷ 0 ∷ [])) ≡ none)
    × (zero_in 'L' 'N' 0 1f (vec (0 ∷ 2 ∷ 9 ∷ 0 ∷ [])) ≡ none)
    × (zero_in 88 'N' 1 1f (vec (0 ∷ 2 ∷ 9 ∷ 0 ∷ [])) ≡ none)
    -- "a run reports the first record that had one, or −1, across the steps it made, a solve counting at its last strip"
    × (zeroes_of 1 (3 ∷ []) ≡ pos 0 ∷ [])
    × (zeroes_of 1 (1 ∷ 1 ∷ 1 ∷ []) ≡ pos 0 ∷ none ∷ pos 1 ∷ [])
    -- the first record is refused
    × (zeroes_of 0 (2 ∷ 1 ∷ []) ≡ none ∷ pos 1 ∷ [])
unfolding opened
zeroes = (refl, refl, refl, refl, refl, refl, refl, refl, refl, refl, refl)
