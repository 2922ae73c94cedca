-- Runs of a sheet, and lists of runs.
use Rattle.std.specs.Prelude.{ℕ, zero, suc, ◌+◌, ◌*◌, Bool, true, not, ◌||◌, List, [], ◌∷◌, leb, ltb, eqb, ℤ, pos, negsuc, length, if◌then◌else◌}
use Rattle.arrays.specs.Search.{none, earlier}
use Rattle.definitions.specs.Check.{nat, negative}
use Rattle.definitions.specs.Machine.{State, strips_of, iterate, made, reported}
use Rattle.definitions.specs.Sheet.{Sheet, Arrays, sound, records, act}
use Rattle.definitions.specs.declared.RunEnd.{RunEnd}

-- The plain machine of a sheet.
abbrev pub Machine : Type 0
Machine = State Arrays

unfoldable pub begin : Arrays → List ℤ → ℕ → ℕ → Machine
begin arrays answers p s = record { arrays = arrays; answers = answers; p = p; s = s }

unfoldable pub after : Sheet → ℕ → Machine → Machine
after t n st = iterate (records t) (act t) n st

unfoldable pub steps_made : Sheet → ℕ → Machine → ℕ
steps_made t n st = made (records t) (act t) n st

unfoldable pub zero_reported : Sheet → ℕ → Machine → ℤ
zero_reported t n st = reported (records t) (act t) n st

-- ---- the tests of a run

-- 35: "answers under count, or scalars under 2·count"
unfoldable pub too_short : Sheet → List ℤ → Bool
too_short t answers = ltb (length answers) (records t) || ltb (length t.scalars) (2 * records t)

-- 36: "p below 0 or above count; s not 0 and not a strip of an accepted record p"
unfoldable pub bad_cursor : Sheet → Arrays → ℤ → ℤ → Bool
bad_cursor t l p (negsuc s) = true
bad_cursor t l p (pos zero) = negative p || ltb (records t) (nat p)
bad_cursor t l p (pos (suc s)) = negative p || (leb (records t) (nat p) || leb (strips_of (act t (nat p) l)) (suc s))

-- "A run tests 34, 35, 36": the number of a refusal, or 0
unfoldable pub run_refusal : Sheet → Arrays → List ℤ → ℤ → ℤ → ℕ
run_refusal t l answers p s =
    if not (sound t) then 34 else if too_short t answers then 35 else if bad_cursor t l p s then 36 else 0

-- ---- a run

-- What a run hands back, and what it leaves in the lent lists.
pub record Ran : Type 0 where
  pub end : RunEnd
  pub arrays : Arrays
  pub answers : List ℤ

abbrev pub ran : ℕ → ℤ → ℤ → ℕ → ℤ → Arrays → List ℤ → Ran
ran number p s steps report arrays answers = record {
  end = record { number = pos number; p = p; s = s; steps = steps; zero = report };
  arrays = arrays;
  answers = answers;
}

-- An accepted run that went to the machine's state st in so many steps, with this report.
abbrev pub ran_to : Machine → ℕ → ℤ → Ran
ran_to st steps report = ran 0 (pos st.p) (pos st.s) steps report st.arrays st.answers

-- "A run takes both and makes that many steps, or fewer if it finishes; it returns 0, the new cursor and the steps made.";
-- "refused, it returns its cursor and 0 steps and writes nothing"; document 02, K11: "a run reports the first record that had one, or −1" (refused, −1)
unfoldable pub run : Sheet → ℕ → Arrays → List ℤ → ℤ → ℤ → Ran
run t budget l answers p s =
    let e = run_refusal t l answers p s in
    let st = begin l answers (nat p) (nat s) in
    let done = ran_to (after t budget st) (steps_made t budget st) (zero_reported t budget st) in
    let refused = ran e p s 0 none l answers in
    if eqb e 0 then done else refused

-- ---- a list of runs

-- What each run of the list returns and leaves, by their budgets; each begins with what the one before it left, the first with r.
unfoldable pub runs : Sheet → List ℕ → Ran → List Ran
runs t [] r = []
runs t (b ∷ bs) r =
    let next = run t b r.arrays r.answers r.end.p r.end.s in
    next ∷ runs t bs next

-- What the last run left, or r if there is none.
unfoldable pub last : Ran → List Ran → Ran
last r [] = r
last r (next ∷ rs) = last next rs

-- "The total of steps made is the sum of the steps that the runs return"
unfoldable pub total_steps : List Ran → ℕ
total_steps [] = 0
total_steps (r ∷ rs) = r.end.steps + total_steps rs

-- The first of the runs' reports that is not −1, or −1.
unfoldable pub first_zero : List Ran → ℤ
first_zero [] = none
first_zero (r ∷ rs) = earlier r.end.zero (first_zero rs)

unfoldable pub numbers : List Ran → List ℤ
numbers [] = []
numbers (r ∷ rs) = r.end.number ∷ numbers rs

unfoldable pub sum : List ℕ → ℕ
sum [] = 0
sum (b ∷ bs) = b + sum bs
