-- The plain machine, over any type M of arrays and whatever its records do.
use Rattle.std.specs.Prelude.{ℕ, zero, suc, Bool, false, not, ◌&&◌, List, ltb, eqb, ℤ, pos, set, if◌then◌else◌}
use Rattle.arrays.specs.Search.{none, earlier}

-- "Its state: X, Y, Z, answers (i32, one for each record; any further ones stay) and a cursor (p, s)."
pub record State (M : Type 0) : Type 0 where
  pub arrays : M
  pub answers : List ℤ
  pub p : ℕ
  pub s : ℕ

-- What record p does: it is refused with a number, or accepted with so many strips, each of which updates the arrays; and whether it is a solve with a zero on the
-- diagonal, which depends on the arrays too.
pub data Act (M : Type 0) : Type 0 where
  refuse : ℕ → Act M
  work : ℕ → (ℕ → M → M) → (M → Bool) → Act M

-- The number of strips of a record, 0 if it is refused.
unfoldable pub strips_of : {M : Type 0} → Act M → ℕ
strips_of (refuse number) = 0
strips_of (work strips update singular) = strips

-- "it writes the number in answer p and goes to (p+1, 0)"
unfoldable pub closed : {M : Type 0} → M → List ℤ → ℕ → ℕ → State M
closed arrays answers p number = record { arrays = arrays; answers = set answers p (pos number); p = suc p; s = 0 }

-- "If refused, it writes the number in answer p and goes to (p+1, 0). If accepted, it gives each element of strip s that the routine writes its
-- ladder value, from the arrays before the step."; "After the last strip it writes 0 in answer p and goes to (p+1, 0); else to (p, s+1)."
unfoldable pub perform : {M : Type 0} → Act M → State M → State M
perform (refuse number) st = closed st.arrays st.answers st.p number
perform (work strips update singular) st =
    let arrays = update st.s st.arrays in
    let next : State _ = record { arrays = arrays; answers = st.answers; p = st.p; s = suc st.s } in
    let last = closed arrays st.answers st.p 0 in
    if ltb (suc st.s) strips then next else last

-- Document 02, K11: the step is the last strip of a solve with a zero, "a solve counting at its last strip".
unfoldable pub counts : {M : Type 0} → Act M → State M → Bool
counts (refuse number) st = false
counts (work strips update singular) st = not (ltb (suc st.s) strips) && singular st.arrays

module _ {M : Type 0} (count : ℕ) (act : ℕ → M → Act M) where
  -- "If p equals the count it is finished."
  unfoldable pub finished : State M → Bool
  finished st = eqb st.p count

  -- "Otherwise a step reads record p."
  unfoldable pub step : State M → State M
  step st = let next = perform (act st.p st.arrays) st in if finished st then st else next

  -- The state after n steps, "or fewer if it finishes".
  unfoldable pub iterate : ℕ → State M → State M
  iterate zero st = st
  iterate (suc n) st = iterate n (step st)

  -- "The machine's total is the number of steps it has made; once finished it makes none."
  unfoldable pub made : ℕ → State M → ℕ
  made zero st = 0
  made (suc n) st = let more = suc (made n (step st)) in if finished st then 0 else more

  -- Document 02, K11: "the first record that had one, or −1, across the steps it made"
  unfoldable pub reported : ℕ → State M → ℤ
  reported zero st = none
  reported (suc n) st =
      let here = if counts (act st.p st.arrays) st then pos st.p else none in
      let first = earlier here (reported n (step st)) in
      if finished st then none else first
