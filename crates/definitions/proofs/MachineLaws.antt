-- The plain machine, whatever its records do: steps and reports add up, a sound cursor stays one, and the finish is each record's whole work in turn.
-- Assumes nothing.
use Prim.Native.Nat.{ℕ, zero, suc, ◌+◌, ◌≤◌, ◌<◌}
use mathlib.Core.Path.{◌≡◌, refl, sym, ap, ap₂, subst, ◌∙◌}
use mathlib.Core.Bool.{Bool, true, false, not, ◌&&◌}
use mathlib.Core.Logic.{⊎_elim}
use mathlib.Core.List.{List}
use native.Mathlib.Nat.{zero-add, suc-add, add-zero, add_comm}
use native.Mathlib.Omega.{arith}
use lib.Dec.{ltb, eqb}
use lib.IntN.{ℤ, pos}
use lib.ListN.{length, set, length-set}
use borrow.Author.Tests.{ltb-true, eqb-true, eqb-false, eq-eqb, ne_eqb, lt-ltb, le-ltb}
use Rattle.std.specs.Prelude.{if◌then◌else◌}
use Rattle.arrays.specs.Fold.{fold}
use Rattle.arrays.specs.Search.{none, earlier}
use Rattle.arrays.proofs.Tests.{if-true, if-false, by-test}
use Rattle.arrays.proofs.UpdateLaws.{lt-or-ge}
use Rattle.arrays.proofs.SearchLaws.{earlier-assoc}
use Rattle.definitions.specs.Machine.{State, Act, refuse, work, strips_of, closed, perform, counts, finished, step, iterate, made, reported}

module _ {M : Type 0} where
  -- What a record does in all, its answer, and whether it has a zero.
  unfoldable pub whole : Act M → M → M
  whole (refuse number) m = m
  whole (work strips update singular) m = fold (λ m s. update s m) strips m

  unfoldable pub answer : Act M → ℕ
  answer (refuse number) = number
  answer (work strips update singular) = 0

  unfoldable pub had : Act M → M → Bool
  had (refuse number) m = false
  had (work strips update singular) m = singular m

  -- What the records owe: a strip does not change what its record does nor what it reports, and an accepted record has a strip.
  abbrev pub Stable : (ℕ → M → Act M) → Type 0
  Stable act = (p : ℕ) (m : M) (n : ℕ) (f : ℕ → M → M) (z : M → Bool) (s : ℕ) → act p m ≡ work n f z → act p (f s m) ≡ work n f z

  abbrev pub Steady : (ℕ → M → Act M) → Type 0
  Steady act = (p : ℕ) (m : M) (n : ℕ) (f : ℕ → M → M) (z : M → Bool) (s : ℕ) → act p m ≡ work n f z → z (f s m) ≡ z m

  abbrev pub Positive : (ℕ → M → Act M) → Type 0
  Positive act = (p : ℕ) (m : M) (n : ℕ) (f : ℕ → M → M) (z : M → Bool) → act p m ≡ work n f z → 0 < n

  perform-answers : (a : Act M) (st : State M) → length (perform a st).answers ≡ length st.answers
  unfolding perform closed
  perform-answers (refuse number) st = length-set st.answers st.p (pos number)
  perform-answers (work n f z) st =
      by-test (ltb (suc st.s) n)
      (λ e. ap (λ (r : State M). length r.answers) (if-true _ _ _ e))
      (λ e. ap (λ (r : State M). length r.answers) (if-false _ _ _ e) ∙ length-set st.answers st.p (pos 0))

  module _ (count : ℕ) (act : ℕ → M → Act M) where
    abbrev at : M → List ℤ → ℕ → ℕ → State M
    at m answers p s = record { arrays = m; answers = answers; p = p; s = s }

    pub step-finished : (st : State M) → st.p ≡ count → step count act st ≡ st
    unfolding step finished
    step-finished st h = if-true (eqb st.p count) _ _ (eq-eqb st.p count h)

    pub step-acts : (st : State M) → st.p < count → step count act st ≡ perform (act st.p st.arrays) st
    unfolding step finished
    step-acts st h = if-false (eqb st.p count) _ _ (ne_eqb st.p count (λ e. omega arith))

    pub iterate-finished : (n : ℕ) (st : State M) → st.p ≡ count → iterate count act n st ≡ st
    unfolding iterate
    iterate-finished zero st h = refl
    iterate-finished (suc n) st h = ap (iterate count act n) (step-finished st h) ∙ iterate-finished n st h

    -- ---- steps add up

    pub iterate-add : (m n : ℕ) (st : State M) → iterate count act (m + n) st ≡ iterate count act n (iterate count act m st)
    unfolding iterate
    iterate-add zero n st = rw zero-add
    iterate-add (suc m) n st = rw suc-add (iterate-add m n (step count act st))

    pub made-finished : (n : ℕ) (st : State M) → finished count act st ≡ true → made count act n st ≡ 0
    unfolding made
    made-finished zero st h = refl
    made-finished (suc n) st h = if-true (finished count act st) 0 _ h

    pub made-acts : (n : ℕ) (st : State M) → finished count act st ≡ false → made count act (suc n) st ≡ suc (made count act n (step count act st))
    unfolding made
    made-acts n st h = if-false (finished count act st) 0 _ h

    pub made-add : (m n : ℕ) (st : State M) → made count act (m + n) st ≡ made count act m st + made count act n (iterate count act m st)
    unfolding iterate made finished
    made-add zero n st = rw zero-add (rw zero-add)
    made-add (suc m) n st =
        by-test (finished count act st)
        (λ e.
        made-finished (suc m + n) st e
        ∙ sym (omega (
          arith,
          made-finished (suc m) st e,
          ap (made count act n) (ap (iterate count act m) (step-finished st (eqb-true _ _ e)) ∙ iterate-finished m st (eqb-true _ _ e)) ∙ made-finished n st e,
        )))
        (λ e.
        ap (λ (k : ℕ). made count act k st) (suc-add m n) ∙ made-acts (m + n) st e ∙ ap suc (made-add m n (step count act st))
        ∙ sym (suc-add _ _) ∙ ap (λ (k : ℕ). k + made count act n (iterate count act m (step count act st))) (sym (made-acts m st e)))

    -- the report of record p, if it has a zero
    abbrev pub report : Bool → ℕ → ℤ
    report found p = if found then pos p else none

    abbrev here : State M → ℤ
    here st = report (counts (act st.p st.arrays) st) st.p

    pub report-ends : (found : Bool) (p : ℕ) → earlier (report found p) none ≡ report found p
    unfolding earlier
    report-ends true p = refl
    report-ends false p = refl

    pub reported-finished : (n : ℕ) (st : State M) → finished count act st ≡ true → reported count act n st ≡ none
    unfolding reported
    reported-finished zero st h = refl
    reported-finished (suc n) st h = if-true (finished count act st) none _ h

    pub reported-acts : (n : ℕ) (st : State M) → finished count act st ≡ false → reported count act (suc n) st ≡ earlier (here st) (reported count act n (step count act st))
    unfolding reported
    reported-acts n st h = if-false (finished count act st) none _ h

    -- the steps' reports add up: the first of them that is not −1
    pub reported-add : (m n : ℕ) (st : State M) → reported count act (m + n) st ≡ earlier (reported count act m st) (reported count act n (iterate count act m st))
    unfolding iterate reported finished earlier
    reported-add zero n st = rw zero-add
    reported-add (suc m) n st =
        by-test (finished count act st)
        (λ e.
        reported-finished (suc m + n) st e
        ∙ sym
        (ap₂ earlier (reported-finished (suc m) st e)
        (ap (reported count act n) (ap (iterate count act m) (step-finished st (eqb-true _ _ e)) ∙ iterate-finished m st (eqb-true _ _ e)) ∙ reported-finished n st e)))
        (λ e.
        ap (λ (k : ℕ). reported count act k st) (suc-add m n) ∙ reported-acts (m + n) st e ∙ ap (earlier (here st)) (reported-add m n (step count act st))
        ∙ sym (earlier-assoc (here st) _ _)
        ∙ ap (λ (z : ℤ). earlier z (reported count act n (iterate count act m (step count act st)))) (sym (reported-acts m st e)))

    -- a report is a record or −1
    pub reported-ends : (n : ℕ) (st : State M) → earlier (reported count act n st) none ≡ reported count act n st
    unfolding reported earlier
    reported-ends zero st = refl
    reported-ends (suc n) st =
        by-test (finished count act st)
        (λ e. ap (λ (z : ℤ). earlier z none) (reported-finished (suc n) st e) ∙ sym (reported-finished (suc n) st e))
        (λ e.
        ap (λ (z : ℤ). earlier z none) (reported-acts n st e) ∙ earlier-assoc (here st) _ none ∙ ap (earlier (here st)) (reported-ends n (step count act st))
        ∙ sym (reported-acts n st e))

    -- ---- what stays as it is

    step-answers : (st : State M) → length (step count act st).answers ≡ length st.answers
    unfolding step
    step-answers st =
        by-test (finished count act st)
        (λ e. ap (λ (r : State M). length r.answers) (if-true _ _ _ e))
        (λ e. ap (λ (r : State M). length r.answers) (if-false _ _ _ e) ∙ perform-answers (act st.p st.arrays) st)

    pub iterate-answers : (n : ℕ) (st : State M) → length (iterate count act n st).answers ≡ length st.answers
    unfolding iterate
    iterate-answers zero st = refl
    iterate-answers (suc n) st = iterate-answers n (step count act st) ∙ step-answers st

    -- The cursor is within the records, and s is 0 or a strip of an accepted record.
    pub record Placed (st : State M) : Type 0 where
      pub within : st.p ≤ count
      pub at-strip : 0 < st.s → (st.p < count) × (st.s < strips_of (act st.p st.arrays))

    module _ (stable : Stable act) where
      placed-perform : (a : Act M) (st : State M) → act st.p st.arrays ≡ a → st.p < count → Placed (perform a st)
      unfolding perform closed strips_of
      placed-perform (refuse number) st e h = record { within = omega arith; at-strip = λ z. absurd (let f : ⊥ = omega arith in f) }
      placed-perform (work n f z) st e h =
          by-test (ltb (suc st.s) n)
          (λ t.
          rw t
          (record {
            within = omega arith;
            at-strip = λ _. (h, subst (λ (a : Act M). suc st.s < strips_of a) (sym (stable st.p st.arrays n f z st.s e)) (ltb-true _ _ t));
          }))
          (λ t. rw t (record { within = omega arith; at-strip = λ z. absurd (let f : ⊥ = omega arith in f) }))

      pub placed-step : (st : State M) → Placed st → Placed (step count act st)
      unfolding step finished
      placed-step st h =
          by-test (eqb st.p count)
          (λ e. rw e h)
          (λ e.
          rw e
          (placed-perform (act st.p st.arrays) st refl
          (⊎_elim (λ b. b) (λ b. absurd (eqb-false st.p count e (let w = h.within in omega arith))) (lt-or-ge st.p count))))

      pub placed-iterate : (n : ℕ) (st : State M) → Placed st → Placed (iterate count act n st)
      unfolding iterate
      placed-iterate zero st h = h
      placed-iterate (suc n) st h = placed-iterate n (step count act st) (placed-step st h)

      -- ---- the finish

      -- the state after record p, from its first strip on
      abbrev pub record_done : M → List ℤ → ℕ → State M
      record_done m answers p = at (whole (act p m) m) (set answers p (pos (answer (act p m)))) (suc p) 0

      module _ (m : M) (answers : List ℤ) (p n : ℕ) (f : ℕ → M → M) (z : M → Bool) (e : act p m ≡ work n f z) (h : p < count) where
        abbrev after : ℕ → M
        after s = fold (λ m s. f s m) s m

        unchanged : (s : ℕ) → act p (after s) ≡ work n f z
        unfolding fold
        unchanged zero = e
        unchanged (suc s) = stable p (after s) n f z s (unchanged s)

        -- strip s is not the last; strip s is the last
        next-strip : (s : ℕ) → suc s < n → step count act (at (after s) answers p s) ≡ at (after (suc s)) answers p (suc s)
        unfolding perform fold
        next-strip s b =
            step-acts (at (after s) answers p s) h ∙ ap (λ (a : Act M). perform a (at (after s) answers p s)) (unchanged s)
            ∙ if-true (ltb (suc s) n) _ _ (lt-ltb (suc s) n b)

        last-strip : (s : ℕ) → suc s ≡ n → step count act (at (after s) answers p s) ≡ at (after n) (set answers p (pos 0)) (suc p) 0
        unfolding perform fold closed
        last-strip s b =
            step-acts (at (after s) answers p s) h ∙ ap (λ (a : Act M). perform a (at (after s) answers p s)) (unchanged s)
            ∙ if-false (ltb (suc s) n) _ _ (le-ltb (suc s) n (omega arith))
            ∙ ap (λ (k : ℕ). at (after k) (set answers p (pos 0)) (suc p) 0) b

        -- the strips from s on
        strips-left : (k s : ℕ) → s + suc k ≡ n → iterate count act (suc k) (at (after s) answers p s) ≡ at (after n) (set answers p (pos 0)) (suc p) 0
        unfolding iterate
        strips-left zero s b = last-strip s (omega arith)
        strips-left (suc k) s b = ap (iterate count act (suc k)) (next-strip s (omega arith)) ∙ strips-left k (suc s) (omega arith)

        -- and their report
        module _ (steady : Steady act) where
          same-zero : (s : ℕ) → z (after s) ≡ z m
          unfolding fold
          same-zero zero = refl
          same-zero (suc s) = steady p (after s) n f z s (unchanged s) ∙ same-zero s

          -- strip s counts if it is the last
          strip-here : (b : Bool) (s : ℕ) → ltb (suc s) n ≡ b → here (at (after s) answers p s) ≡ report (not b && z m) p
          unfolding counts
          strip-here b s e =
              ap (λ (a : Act M). report (counts a (at (after s) answers p s)) p) (unchanged s) ∙ ap₂ (λ (b x : Bool). report (not b && x) p) e (same-zero s)

          going : (s : ℕ) → finished count act (at (after s) answers p s) ≡ false
          unfolding finished
          going s = ne_eqb p count (λ e. omega arith)

          reports-left : (k s : ℕ) → s + suc k ≡ n → reported count act (suc k) (at (after s) answers p s) ≡ report (z m) p
          unfolding reported earlier
          reports-left zero s b =
              reported-acts 0 (at (after s) answers p s) (going s)
              ∙ ap (λ (x : ℤ). earlier x none) (strip-here false s (le-ltb (suc s) n (omega arith))) ∙ report-ends (z m) p
          reports-left (suc k) s b =
              reported-acts (suc k) (at (after s) answers p s) (going s)
              ∙ ap₂ earlier (strip-here true s (lt-ltb (suc s) n (omega arith)))
              (ap (reported count act (suc k)) (next-strip s (omega arith)) ∙ reports-left k (suc s) (omega arith))

      module _ (steady : Steady act) (positive : Positive act) where
        record-comes : (m : M) (answers : List ℤ) (p : ℕ) → p < count
            → (k : ℕ) × (iterate count act k (at m answers p 0) ≡ record_done m answers p) × (reported count act k (at m answers p 0) ≡ report (had (act p m) m) p)
        unfolding iterate whole answer had perform closed fold counts finished reported
        record-comes m answers p h = go (act p m) refl
          where
            go : (a : Act M) → act p m ≡ a
                → (k : ℕ) × (iterate count act k (at m answers p 0) ≡ at (whole a m) (set answers p (pos (answer a))) (suc p) 0) × (reported count act k (at m answers p 0) ≡ report (had a m) p)
            go (refuse number) e = (
              1,
              step-acts (at m answers p 0) h ∙ ap (λ (a : Act M). perform a (at m answers p 0)) e,
              reported-acts 0 (at m answers p 0) (ne_eqb p count (λ z. omega arith)) ∙ ap (λ (a : Act M). earlier (report (counts a (at m answers p 0)) p) none) e
                  ∙ report-ends false p,
            )
            go (work zero f z) e = absurd (let b : ⊥ = omega (arith, positive p m zero f z e) in b)
            go (work (suc n) f z) e =
                (suc n, strips-left m answers p (suc n) f z e h n 0 (omega arith), reports-left m answers p (suc n) f z e h steady n 0 (omega arith))

        -- n records in turn, and the first of them with a zero
        unfoldable pub records_from : ℕ → State M → State M
        records_from zero st = st
        records_from (suc n) st = records_from n (record_done st.arrays st.answers st.p)

        unfoldable pub reports_from : ℕ → State M → ℤ
        reports_from zero st = none
        reports_from (suc n) st =
            let rest = reports_from n (record_done st.arrays st.answers st.p) in
            earlier (report (had (act st.p st.arrays) st.arrays) st.p) rest

        records-cursor : (n : ℕ) (st : State M) → (records_from n st).p ≡ st.p + n
        unfolding records_from
        records-cursor zero st = sym (add-zero st.p)
        records-cursor (suc n) st = records-cursor n (record_done st.arrays st.answers st.p) ∙ omega arith

        records-come : (n : ℕ) (m : M) (answers : List ℤ) (p : ℕ) → p + n ≡ count
            → (k : ℕ) × (iterate count act k (at m answers p 0) ≡ records_from n (at m answers p 0)) × (reported count act k (at m answers p 0) ≡ reports_from n (at m answers p 0))
        unfolding records_from reports_from iterate reported
        records-come zero m answers p h = (0, refl, refl)
        records-come (suc n) m answers p h =
            let first = record-comes m answers p (omega arith) in
            let next = record_done m answers p in
            let rest = records-come n next.arrays next.answers (suc p) (omega arith) in (
              first.0 + rest.0,
              iterate-add first.0 rest.0 (at m answers p 0) ∙ ap (iterate count act rest.0) first.1 ∙ rest.1,
              reported-add first.0 rest.0 (at m answers p 0) ∙ ap₂ earlier first.2 (ap (reported count act rest.0) first.1 ∙ rest.2),
            )

        -- "The finish of a sheet is the state in which p equals the count."
        abbrev pub finish : M → List ℤ → State M
        finish m answers = records_from count (at m answers 0 0)

        pub finish-finished : (m : M) (answers : List ℤ) → (finish m answers).p ≡ count
        finish-finished m answers = records-cursor count (at m answers 0 0) ∙ zero-add count

        abbrev pub finish_report : M → List ℤ → ℤ
        finish_report m answers = reports_from count (at m answers 0 0)

        -- The machine reaches the finish,
        pub finish-reached : (m : M) (answers : List ℤ)
            → (k : ℕ) × (iterate count act k (at m answers 0 0) ≡ finish m answers) × (reported count act k (at m answers 0 0) ≡ finish_report m answers)
        finish-reached m answers = records-come count m answers 0 (zero-add count)

        -- and whenever it has finished it is there.
        pub finish-only : (m : M) (answers : List ℤ) (n : ℕ) → (iterate count act n (at m answers 0 0)).p ≡ count → iterate count act n (at m answers 0 0) ≡ finish m answers
        finish-only m answers n h =
            let k = (finish-reached m answers).0 in
            let st = at m answers 0 0 in
            sym (iterate-finished k (iterate count act n st) h) ∙ sym (iterate-add n k st)
            ∙ ap (λ (i : ℕ). iterate count act i st) (add_comm n k)
            ∙ iterate-add k n st ∙ ap (iterate count act n) (finish-reached m answers).1
            ∙ iterate-finished n (finish m answers) (finish-finished m answers)

        -- with the first record that has a zero as its report.
        pub finish-reports : (m : M) (answers : List ℤ) (n : ℕ) → (iterate count act n (at m answers 0 0)).p ≡ count → reported count act n (at m answers 0 0) ≡ finish_report m answers
        unfolding finished
        finish-reports m answers n h =
            let to = finish-reached m answers in
            let k = to.0 in
            let st = at m answers 0 0 in
            sym (reported-ends n st) ∙ ap (earlier (reported count act n st)) (sym (reported-finished k (iterate count act n st) (eq-eqb _ count h))) ∙ sym (reported-add n k st)
            ∙ ap (λ (i : ℕ). reported count act i st) (add_comm n k)
            ∙ reported-add k n st ∙ ap (earlier (reported count act k st)) (ap (reported count act n) to.1 ∙ reported-finished n (finish m answers) (eq-eqb _ count (finish-finished m answers)))
            ∙ reported-ends k st ∙ to.2

-- Records that do the same in all, have the same answers, and have a zero alike.
abbrev pub SameRecords : {M : Type 0} → ℕ → (ℕ → M → Act M) → (ℕ → M → Act M) → Type 0
SameRecords {M} count act act' = (p : ℕ) → p < count → (m : M) → (whole (act p m) m ≡ whole (act' p m) m) × (answer (act p m) ≡ answer (act' p m))
    × (had (act p m) m ≡ had (act' p m) m)

module _ {M : Type 0} (count : ℕ) (act act' : ℕ → M → Act M) (stable : Stable act) (stable' : Stable act') (steady : Steady act) (steady' : Steady act')
    (positive : Positive act) (positive' : Positive act') (same : SameRecords count act act') where
  same-done : (st : State M) → st.p < count → record_done count act stable st.arrays st.answers st.p ≡ record_done count act' stable' st.arrays st.answers st.p
  same-done st h =
      let e = same st.p h st.arrays in
      λ i. record { arrays = e.0 i; answers = set st.answers st.p (pos (e.1 i)); p = suc st.p; s = 0 }

  same_from : (n : ℕ) (st : State M) → st.p + n ≡ count
      → (records_from count act stable steady positive n st ≡ records_from count act' stable' steady' positive' n st)
      × (reports_from count act stable steady positive n st ≡ reports_from count act' stable' steady' positive' n st)
  unfolding records_from reports_from
  same_from zero st h = (refl, refl)
  same_from (suc n) st h =
      let b : st.p < count = omega arith in
      let rest = same_from n (record_done count act stable st.arrays st.answers st.p) (omega arith) in
      let done = same-done st b in
      let zero = (same st.p b st.arrays).2 in (
        rest.0 ∙ ap (records_from count act' stable' steady' positive' n) done,
        ap₂ earlier (ap (λ (z : Bool). report count act z st.p) zero) (rest.1 ∙ ap (reports_from count act' stable' steady' positive' n) done),
      )

  -- Two machines whose records do the same finish alike, whatever their strips, and report the same.
  pub same-finish : (m : M) (answers : List ℤ) (n n' : ℕ) → let st : State M = record { arrays = m; answers = answers; p = 0; s = 0 } in
      (iterate count act n st).p ≡ count → (iterate count act' n' st).p ≡ count → iterate count act n st ≡ iterate count act' n' st
  same-finish m answers n n' h h' =
      finish-only count act stable steady positive m answers n h ∙ (same_from count _ (zero-add count)).0 ∙ sym (finish-only count act' stable' steady' positive' m answers n' h')

  pub same-report : (m : M) (answers : List ℤ) (n n' : ℕ) → let st : State M = record { arrays = m; answers = answers; p = 0; s = 0 } in
      (iterate count act n st).p ≡ count → (iterate count act' n' st).p ≡ count → reported count act n st ≡ reported count act' n' st
  same-report m answers n n' h h' =
      finish-reports count act stable steady positive m answers n h ∙ (same_from count _ (zero-add count)).1 ∙ sym (finish-reports count act' stable' steady' positive' m answers n' h')
