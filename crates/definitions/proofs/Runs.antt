-- Demand 3, for one sheet: a list of runs from (0, 0), whatever its budgets, is the plain machine after as many steps as the budgets come to.
-- Assumes nothing.
use Prim.Native.Nat.{ℕ, zero, suc, ◌+◌}
use mathlib.Core.Path.{◌≡◌, refl, sym, ap, subst, ◌∙◌}
use mathlib.Core.Bool.{true, false, true≢false}
use mathlib.Core.List.{List, [], ◌∷◌}
use native.Mathlib.Omega.{arith}
use lib.Dec.{leb, eqb}
use lib.IntN.{ℤ, pos, negsuc}
use lib.ListN.{length, replicate}
use borrow.Author.Tests.{eq-eqb, le-ltb, lt-leb, ltb-false, leb-false}
use Rattle.arrays.specs.Search.{none, earlier}
use Rattle.arrays.proofs.Tests.{or-both, or_left, or_right, if-true}
use Rattle.definitions.specs.Check.{nat}
use Rattle.definitions.specs.Machine.{strips_of, iterate, made, reported}
use Rattle.definitions.specs.Sheet.{Sheet, Arrays, sound, records, act}
use Rattle.definitions.specs.Run.{Machine, begin, after, steps_made, zero_reported, too_short, bad_cursor, run_refusal, Ran, ran_to, run, runs, last, total_steps, first_zero, numbers, sum}
use Rattle.definitions.proofs.MachineLaws.{Placed, iterate-add, made-add, reported-add, iterate-answers, placed-iterate, finish-reached, finish-finished}
use Rattle.definitions.proofs.Records.{act-stable, act-steady, act-positive}

-- a sound cursor is not refused by 36
cursor-ok : (t : Sheet) (l : Arrays) (answers : List ℤ) (p s : ℕ) → Placed (records t) (act t) (record { arrays = l; answers = answers; p = p; s = s }) → bad_cursor t l (pos p) (pos s) ≡ false
unfolding bad_cursor
cursor-ok t l answers p zero h = le-ltb (records t) p h.within
cursor-ok t l answers p (suc s) h =
    let k = h.at-strip (omega arith) in
    or-both (leb (records t) p) (leb (strips_of (act t p l)) (suc s)) (lt-leb (records t) p k.0) (lt-leb (strips_of (act t p l)) (suc s) k.1)

-- and a cursor that 36 does not refuse is a sound one
pub cursor-placed : (t : Sheet) (l : Arrays) (answers : List ℤ) (p s : ℤ) → bad_cursor t l p s ≡ false
    → (p ≡ pos (nat p)) × (s ≡ pos (nat s)) × Placed (records t) (act t) (begin l answers (nat p) (nat s))
unfolding bad_cursor begin
cursor-placed t l answers p (negsuc s) h = absurd (true≢false h)
cursor-placed t l answers (negsuc p) (pos zero) h = absurd (true≢false h)
cursor-placed t l answers (pos p) (pos zero) h =
    (refl, refl, record { within = ltb-false (records t) p h; at-strip = λ z. absurd (let f : ⊥ = omega arith in f) })
cursor-placed t l answers (negsuc p) (pos (suc s)) h = absurd (true≢false h)
cursor-placed t l answers (pos p) (pos (suc s)) h =
    let before = leb-false (records t) p (or_left (leb (records t) p) _ h) in
    let strip = leb-false (strips_of (act t p l)) (suc s) (or_right (leb (records t) p) _ h) in
    (refl, refl, record { within = omega arith; at-strip = λ _. (before, strip) })

module _ (t : Sheet) (trailer : sound t ≡ true) where
  abbrev Goes : Machine → Type 0
  Goes st = Placed (records t) (act t) st

  -- an accepted run is the machine
  pub run_is : (b : ℕ) (st : Machine) → too_short t st.answers ≡ false → Goes st
      → run t b st.arrays st.answers (pos st.p) (pos st.s) ≡ ran_to (after t b st) (steps_made t b st) (zero_reported t b st)
  unfolding run run_refusal begin
  run_is b st long h = if-true (eqb (run_refusal t st.arrays st.answers (pos st.p) (pos st.s)) 0) _ _ (eq-eqb _ 0 zero_number)
    where
      zero_number : run_refusal t st.arrays st.answers (pos st.p) (pos st.s) ≡ 0
      zero_number = rw (trailer, long, cursor-ok t st.arrays st.answers st.p st.s h)

  still-long : (b : ℕ) (st : Machine) → too_short t st.answers ≡ false → too_short t (after t b st).answers ≡ false
  unfolding too_short after
  still-long b st h = rw (iterate-answers (records t) (act t) b st) h

-- The runs rs, by the budgets bs, that began with what r left, and the machine's state st after as many steps as the budgets come to, with its total of steps and its
-- report: arrays, answers, cursor, total of steps and report are the machine's, and no run is refused.
pub record AsMachine (bs : List ℕ) (r : Ran) (rs : List Ran) (st : Machine) (total : ℕ) (report : ℤ) : Type 0 where
  pub none-refused : numbers rs ≡ replicate (length bs) (pos 0)
  pub steps : total_steps rs ≡ total
  pub first-zero : first_zero rs ≡ report
  pub cursor-p : (last r rs).end.p ≡ pos st.p
  pub cursor-s : (last r rs).end.s ≡ pos st.s
  pub arrays : (last r rs).arrays ≡ st.arrays
  pub answers : (last r rs).answers ≡ st.answers

module _ (t : Sheet) (trailer : sound t ≡ true) where
  runs-come : (bs : List ℕ) (st : Machine) (m : ℕ) (z : ℤ) → too_short t st.answers ≡ false → Placed (records t) (act t) st
      → AsMachine bs (ran_to st m z) (runs t bs (ran_to st m z)) (after t (sum bs) st) (steps_made t (sum bs) st) (zero_reported t (sum bs) st)
  unfolding runs numbers total_steps first_zero last sum after steps_made zero_reported iterate made reported
  runs-come [] st m z long h = record { none-refused = refl; steps = refl; first-zero = refl; cursor-p = refl; cursor-s = refl; arrays = refl; answers = refl }
  runs-come (b ∷ bs) st m z long h =
      let next = after t b st in
      let k = steps_made t b st in
      let found = zero_reported t b st in
      let ih = runs-come bs next k found (still-long t trailer b st long) (placed-iterate (records t) (act t) (act-stable t) b st h) in
      let add = iterate-add (records t) (act t) b (sum bs) st in
      subst (λ (r : Ran). AsMachine (b ∷ bs) (ran_to st m z) (r ∷ runs t bs r) (after t (b + sum bs) st) (steps_made t (b + sum bs) st) (zero_reported t (b + sum bs) st))
      (sym (run_is t trailer b st long h))
      (record {
        none-refused = ap (λ (ns : List ℤ). pos 0 ∷ ns) ih.none-refused;
        steps = ap (λ (n : ℕ). k + n) ih.steps ∙ sym (made-add (records t) (act t) b (sum bs) st);
        first-zero = ap (earlier found) ih.first-zero ∙ sym (reported-add (records t) (act t) b (sum bs) st);
        cursor-p = ih.cursor-p ∙ sym (ap (λ (s : Machine). pos s.p) add);
        cursor-s = ih.cursor-s ∙ sym (ap (λ (s : Machine). pos s.s) add);
        arrays = ih.arrays ∙ sym (ap (λ (s : Machine). s.arrays) add);
        answers = ih.answers ∙ sym (ap (λ (s : Machine). s.answers) add);
      })

  -- "What demand 3 says of a list of runs is a single claim about the whole list, the empty list included, and not one claim for each run. Runs and machine begin
  -- with the same lent arrays and answers, at (0, 0)."; "No run of such a list is refused, and a refused record costs one step."
  pub list-of-runs : (bs : List ℕ) (l : Arrays) (answers : List ℤ) → too_short t answers ≡ false
      → AsMachine bs (ran_to (begin l answers 0 0) 0 none) (runs t bs (ran_to (begin l answers 0 0) 0 none))
      (after t (sum bs) (begin l answers 0 0)) (steps_made t (sum bs) (begin l answers 0 0)) (zero_reported t (sum bs) (begin l answers 0 0))
  unfolding begin
  list-of-runs bs l answers long =
      runs-come bs (begin l answers 0 0) 0 none long (record { within = omega arith; at-strip = λ z. absurd (let f : ⊥ = omega arith in f) })

-- "The finish of a sheet is the state in which p equals the count.": the machine reaches it.
pub finish-is-reached : (t : Sheet) (l : Arrays) (answers : List ℤ) → (n : ℕ) × ((after t n (begin l answers 0 0)).p ≡ records t)
unfolding after begin
finish-is-reached t l answers =
    let r = finish-reached (records t) (act t) (act-stable t) (act-steady t) (act-positive t) l answers in
    (r.0, ap (λ (st : Machine). st.p) r.1 ∙ finish-finished (records t) (act t) (act-stable t) (act-steady t) (act-positive t) l answers)
