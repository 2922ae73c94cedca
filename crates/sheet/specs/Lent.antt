-- What a step lends of the three arrays to a strip, and what a run leaves in them.
use Rattle.std.specs.Prelude.{ℕ, ◌-◌, ◌≤◌, ◌≡◌, List, ◌++◌, ℤ, pos, Option, Some, None, length, take, drop}
use Rattle.arrays.specs.Search.{none}
use Rattle.definitions.specs.Element.{strip, zero_of}
use Rattle.definitions.specs.Sheet.{Arrays, array, with_array}
use Rattle.definitions.specs.Run.{Ran}
use Rattle.definitions.specs.declared.Call.{Call}
use Rattle.definitions.specs.declared.RunEnd.{RunEnd}
use Rattle.strips.specs.Lengths.{FitsArrays}
use Rattle.records.specs.declared.Part.{Part}
use Rattle.records.specs.declared.Matrices.{Matrices}

-- What a run handed back and left in the lent lists.
abbrev pub ran_of : RunEnd → Arrays → List ℤ → Ran
ran_of end arrays answers = record { end = end; arrays = arrays; answers = answers }

-- The arrays after the columns, or rows, from `from` on and below `to` of a call with these matrices.
unfoldable pub strip_at : Call → Matrices → ℕ → ℕ → Arrays → Arrays
strip_at call m from to l =
    let o = array l m.out.array in
    with_array l m.out.array
    (take m.out.offset o
    ++ strip call (drop m.a.offset (array l m.a.array)) (drop m.b.offset (array l m.b.array)) from to (drop m.out.offset o))

-- What the call reports, if its A is this matrix.
unfoldable pub zero_at : Call → Part → Arrays → ℤ
zero_at call a l = zero_of call.routine call (drop a.offset (array l a.array))

-- The matrices are in lent arrays, the inputs in others than the output, and fit the call.
pub record Lends (call : Call) (m : Matrices) (l : Arrays) : Type 0 where
  pub out-array : m.out.array ≤ 2
  pub a-array : m.a.array ≤ 2
  pub b-array : m.b.array ≤ 2
  pub a-apart : m.a.array ≡ m.out.array → ⊥
  pub b-apart : m.b.array ≡ m.out.array → ⊥
  pub out-offset : m.out.offset ≤ length (array l m.out.array)
  pub a-offset : m.a.offset ≤ length (array l m.a.array)
  pub b-offset : m.b.offset ≤ length (array l m.b.array)
  pub fits : FitsArrays call (length (array l m.a.array) - m.a.offset) (length (array l m.b.array) - m.b.offset) (length (array l m.out.array) - m.out.offset)

-- The first record that had a zero, as a number.
unfoldable pub report : Option ℕ → ℤ
report None = none
report (Some p) = pos p
