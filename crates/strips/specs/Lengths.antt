-- The arrays of a call that the argument check has accepted, and how many lines its routine takes at a time.
use Rattle.std.specs.Prelude.{ℕ, if◌then◌else◌}
use Rattle.definitions.specs.Call.{in_place}
use Rattle.definitions.specs.declared.Call.{Call}
use Rattle.definitions.specs.declared.Routine.{Routine}
use Rattle.definitions.specs.declared.Routine.TheVariants.{Gemm, Symm, Syrk, Syr2k, Trmm, Trsm}
use Rattle.definitions.proofs.Fits.{Fits}

-- Arrays of these lengths fit the call. TRMM and TRSM have their B in the output's array, and no C.
abbrev pub FitsArrays : Call → ℕ → ℕ → ℕ → Type 0
FitsArrays c a b out = Fits c.routine c a (if in_place c.routine then out else b) out

-- A routine's update takes at most so many columns, or rows where strips cut rows.
abbrev pub widest : Routine → ℕ
widest Gemm = 256
widest Symm = 256
widest Syrk = 256
widest Syr2k = 256
widest Trmm = 64
widest Trsm = 64
