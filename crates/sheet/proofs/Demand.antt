-- Demand 3 of document 01: the two claims about lists of runs, and what document 02's K11 adds to them. A run is `run` of the definitions, with which the contract of `sheet::run` equates what it hands back and
-- what it leaves in the lent lists; `runs t bs r` is a list of them by their budgets bs, each from the cursor, the arrays and the answers that the one before it left.
-- Assumes nothing.
use Prim.Native.Nat.{ℕ}
use mathlib.Core.Path.{◌≡◌}
use mathlib.Core.Bool.{true, false}
use mathlib.Core.List.{List}
use lib.IntN.{ℤ, pos}
use Rattle.definitions.specs.Sheet.{Sheet, Arrays, sound, records}
use Rattle.arrays.specs.Search.{none}
use Rattle.definitions.specs.Run.{begin, after, steps_made, zero_reported, too_short, Ran, ran_to, runs, last, first_zero, sum}
use Rattle.definitions.proofs.Runs.{AsMachine, list-of-runs, finish-is-reached}
use Rattle.definitions.proofs.Alike.{Alike, alike_runs}

-- What the lent lists hold before the first run, and its cursor: (0, 0).
abbrev pub before : Arrays → List ℤ → Ran
before l answers = ran_to (begin l answers 0 0) 0 none

-- "What demand 3 says of a list of runs is a single claim about the whole list, the empty list included, and not one claim for each run. Runs and machine begin with the
-- same lent arrays and answers, at (0, 0). All runs of a list have the same sheet and the same scalars, and "long enough" is what number 35 asks. The total of steps made
-- is the sum of the steps that the runs return; it and the sum of the budgets are whole numbers without limit. The machine's total is the number of steps it has made;
-- once finished it makes none. No run of such a list is refused": whatever the arrays, the answers and the budgets, the arrays, the answers and the cursor that the list
-- leaves and its total of steps are those of the plain machine after as many steps as the budgets come to, or fewer if it finishes, and each run returns the number 0.
-- The first of the runs' reports that is not −1 is what the machine reports over all its steps.
pub any-list-of-runs : (t : Sheet) → sound t ≡ true → (l : Arrays) (answers : List ℤ) → too_short t answers ≡ false → (bs : List ℕ)
    → AsMachine bs (before l answers) (runs t bs (before l answers)) (after t (sum bs) (begin l answers 0 0)) (steps_made t (sum bs) (begin l answers 0 0))
    (zero_reported t (sum bs) (begin l answers 0 0))
any-list-of-runs t trailer l answers long bs = list-of-runs t trailer bs l answers long

-- "The finish of a sheet is the state in which p equals the count.": some number of steps comes to it.
pub finish : (t : Sheet) (l : Arrays) (answers : List ℤ) → (n : ℕ) × ((after t n (begin l answers 0 0)).p ≡ records t)
finish = finish-is-reached

-- Two sheets that are alike except in strip widths and block sizes, each 0 to 64, leave the same arrays and answers at the finish, whatever the budgets of either list, and
-- the first report of either list is the same.
pub alike-sheets : (t u : Sheet) → sound t ≡ true → sound u ≡ true → Alike t u → (l : Arrays) (answers : List ℤ) → too_short t answers ≡ false → (bs cs : List ℕ)
    → (last (before l answers) (runs t bs (before l answers))).end.p ≡ pos (records t) → (last (before l answers) (runs u cs (before l answers))).end.p ≡ pos (records u)
    → ((last (before l answers) (runs t bs (before l answers))).arrays ≡ (last (before l answers) (runs u cs (before l answers))).arrays)
    × ((last (before l answers) (runs t bs (before l answers))).answers ≡ (last (before l answers) (runs u cs (before l answers))).answers)
    × (first_zero (runs t bs (before l answers)) ≡ first_zero (runs u cs (before l answers)))
alike-sheets = alike_runs
