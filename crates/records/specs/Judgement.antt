-- What the tests of a record come to: refused with a number, accepted with nothing to do, or accepted with work.
use Rattle.std.specs.Prelude.{ℕ, ◌<◌, ◌+◌, ◌*◌, ◌≤◌, ◌≡◌, Bool, ◌||◌, List, ltb, eqb, ℤ, length, Float, if◌then◌else◌}
use Rattle.std.proofs.Math.Option.{Option, none, some}
use Rattle.definitions.specs.Call.{extent}
use Rattle.definitions.specs.Check.{nat, negative, call_of, checked}
use Rattle.definitions.specs.Machine.{Act, refuse}
use Rattle.definitions.specs.Sheet.{Sheet, Arrays, A, B, index, field, output, bad_arrays, bad_offsets, args_of, accepted}
use Rattle.definitions.specs.declared.Routine.{Routine}
use Rattle.definitions.specs.declared.Call.{Call}
use Rattle.definitions.specs.declared.Checked.{Checked}
use Rattle.definitions.specs.declared.Checked.TheVariants.{Refused, Idle, Ready}
use Rattle.definitions.proofs.Records.{reads}
use Rattle.records.specs.declared.Sheet.{Sheet as Words}
use Rattle.records.specs.declared.Arrays.{Arrays as Lent}
use Rattle.records.specs.declared.Lengths.{Lengths}
use Rattle.records.specs.declared.Part.{Part}
use Rattle.records.specs.declared.Matrices.{Matrices}
use Rattle.records.specs.declared.Judged.{Judged}
use Rattle.records.specs.declared.Judged.TheVariants.{Rejected, NoWork, Work}

abbrev pub sheet_of : List ℤ → List Float → Sheet
sheet_of words scalars = record { words = words; scalars = scalars }

abbrev pub sheet_in : Words → Sheet
sheet_in t = sheet_of t.words.now t.scalars.now

abbrev pub arrays_of : List Float → List Float → List Float → Arrays
arrays_of x y z = record { x = x; y = y; z = z }

abbrev pub arrays_in : Lent → Arrays
arrays_in l = arrays_of l.x.now l.y.now l.z.now

-- Record p begins at word `at`, and the sheet has all of it, and its scalars.
abbrev pub At : Sheet → ℕ → ℕ → Type 0
At t p at = (at ≡ nat (index t) + 20 * p) × (at + 20 ≤ length t.words) × (2 * p + 1 < length t.scalars)

abbrev pub lengths_of : Arrays → Lengths
lengths_of l = record { x = length l.x; y = length l.y; z = length l.z }

-- The lengths of the arrays X, Y, Z by their numbers.
unfoldable pub sizes : Lengths → ℕ → ℕ
sizes l n = if eqb n 0 then l.x else if eqb n 1 then l.y else l.z

-- ---- the matrices

-- The matrix that is lent as B: A again in a routine that reads no other matrix.
unfoldable pub second : Routine → ℕ
second f = if reads f B then B else A

-- The matrix of record p whose array number is word q.
unfoldable pub part_at : Sheet → ℕ → ℕ → Part
part_at t p q = record { array = nat (field t p q); offset = nat (field t p (q + 1)) }

unfoldable pub matrices_of : Sheet → ℕ → Routine → Matrices
matrices_of t p f = record { out = part_at t p (output f); a = part_at t p A; b = part_at t p (second f) }

-- ---- the tests 32 and 33, of the output, of A and of the matrix lent as B

unfoldable pub bad_number : ℤ → Bool
bad_number number = negative number || ltb 2 (nat number)

unfoldable pub bad_numbers : ℤ → ℤ → ℤ → Bool
bad_numbers out a b = (bad_number out || (bad_number a || bad_number b)) || (eqb (nat a) (nat out) || eqb (nat b) (nat out))

unfoldable pub bad_offset : (ℕ → ℕ) → ℤ → ℤ → Bool
bad_offset size number offset = negative offset || ltb (size (nat number)) (nat offset)

-- ---- all tests

unfoldable pub settled : Checked → Call → Judged
settled (Refused e) c = Rejected e
settled Idle c = NoWork c
settled (Ready k) c = Work k

unfoldable pub judged : Sheet → ℕ → (ℕ → ℕ) → Option Routine → Judged
judged t p size none = Rejected 31
judged t p size (some f) =
    let g = args_of t p f size in
    let direct = settled (checked (field t p 18) (field t p 19) g) (call_of g) in
    if bad_arrays t p f then Rejected 32 else if bad_offsets t p f size then Rejected 33 else direct

-- What the record does then.
unfoldable pub act_of : Sheet → ℕ → Judged → Act Arrays
act_of t p (Rejected e) = refuse e
act_of t p (NoWork c) = accepted t p c.routine c
act_of t p (Work c) = accepted t p c.routine c

-- What its strips cut: 0 where there are none.
unfoldable pub extent_of : Judged → ℕ
extent_of (Rejected e) = 0
extent_of (NoWork c) = extent c
extent_of (Work c) = extent c
