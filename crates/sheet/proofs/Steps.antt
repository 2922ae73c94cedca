-- The machine's steps, as the loop that makes them sees them.
-- Assumes nothing.
use Prim.Native.Nat.{ℕ, zero, suc, ◌+◌, ◌-◌, ◌≤◌, ◌<◌}
use mathlib.Core.Path.{◌≡◌, refl, sym, ap, subst, ◌∙◌}
use mathlib.Core.Bool.{Bool, true, false}
use mathlib.Core.List.{List}
use native.Mathlib.Nat.{add-zero}
use native.Mathlib.Numerals.{add-one}
use native.Mathlib.Omega.{arith}
use lib.Dec.{ltb}
use lib.IntN.{ℤ, pos}
use lib.ListN.{set}
use borrow.Author.Tests.{lt-ltb, le-ltb, eq-eqb, ne_eqb}
use Rattle.std.specs.Prelude.{Option, Some, None, IfSome, if◌then◌else◌}
use Rattle.std.specs.Bool.{then_some}
use Rattle.std.specs.Option.{option_or}
use Rattle.arrays.specs.Search.{none, earlier}
use Rattle.arrays.proofs.Tests.{if-true, if-false}
use Rattle.definitions.specs.Machine.{State, Act, work, closed, perform, counts, finished, step, iterate, made, reported}
use Rattle.definitions.specs.Sheet.{Arrays}
use Rattle.definitions.specs.Run.{begin}
use Rattle.sheet.specs.Lent.{report}
use Rattle.definitions.proofs.MachineLaws.{Stable, Placed, step-acts, iterate-finished, iterate-add, made-finished, made-acts, made-add, report-ends, reported-finished, reported-acts, reported-add, reported-ends, placed-step}

-- ---- after a strip

-- the state after the step, and whether the step counts
module _ (answers : List ℤ) (p s n : ℕ) (zero : Bool) (f : ℕ → Arrays → Arrays) (g : Arrays → Bool) (l m : Arrays) (e : m ≡ f s l) (ez : zero ≡ g l) where
  pub next-strip : s + 1 < n → (begin m answers p (s + 1) ≡ perform (work n f g) (begin l answers p s)) × (None ≡ then_some (counts (work n f g) (begin l answers p s)) p)
  unfolding begin perform counts
  next-strip h =
      let t = lt-ltb (suc s) n (omega arith) in
      ((λ i. record { arrays = e i; answers = answers; p = p; s = add-one s i }) ∙ sym (if-true (ltb (suc s) n) _ _ t), rw t refl)

  pub next-record : n ≤ s + 1
      → (begin m (set answers p (pos 0)) (p + 1) 0 ≡ perform (work n f g) (begin l answers p s)) × (then_some zero p ≡ then_some (counts (work n f g) (begin l answers p s)) p)
  unfolding begin perform closed counts
  next-record h =
      let t = le-ltb (suc s) n (omega arith) in
      ((λ i. record { arrays = e i; answers = set answers p (pos 0); p = add-one p i; s = 0 }) ∙ sym (if-false (ltb (suc s) n) _ _ t), rw t (ap (λ (b : Bool). then_some b p) ez))

-- ---- reports

-- the first of two, the second being record p where it is found
report-or : (z : Option ℕ) (found : Bool) (p : ℕ) → report (option_or z (then_some found p)) ≡ earlier (report z) (if found then pos p else none)
unfolding report earlier
report-or None true p = refl
report-or None false p = refl
report-or (Some q) found p = refl

small-or : (z : Option ℕ) (found : Bool) (p n : ℕ) → IfSome z (λ q. q < n) → p < n → IfSome (option_or z (then_some found p)) (λ q. q < n)
small-or None true p n h b = b
small-or None false p n h b = tt
small-or (Some q) found p n h b = h

pub small-below : (z : Option ℕ) (n b : ℕ) → IfSome z (λ q. q < n) → n ≤ b → IfSome z (λ q. q < b)
small-below None n b h k = tt
small-below (Some q) n b h k = omega (arith, h)

-- ---- some steps of a budget

module _ {M : Type 0} (n : ℕ) (act : ℕ → M → Act M) (stable : Stable act) (budget : ℕ) (start : State M) where
  -- after so many steps the machine is in state st, which has a sound cursor, and has reported z
  pub record Running (steps : ℕ) (z : Option ℕ) (st : State M) : Type 0 where
    pub within : steps ≤ budget
    pub state : st ≡ iterate n act steps start
    pub total : steps ≡ made n act steps start
    pub reports : report z ≡ reported n act steps start
    pub small : IfSome z (λ q. q < n)
    pub placed : Placed n act st

  -- what the machine comes to with its budget
  abbrev pub Ended : ℕ → Option ℕ → State M → Type 0
  Ended steps z st = (st ≡ iterate n act budget start) × (steps ≡ made n act budget start) × (report z ≡ reported n act budget start)

  pub running-start : Placed n act start → Running 0 None start
  unfolding iterate made reported report
  running-start h = record { within = omega arith; state = refl; total = refl; reports = refl; small = tt; placed = h }

  pub running-step : (steps : ℕ) (z found z' : Option ℕ) (st next : State M) → Running steps z st → steps < budget → st.p < n → next ≡ perform (act st.p st.arrays) st
      → found ≡ then_some (counts (act st.p st.arrays) st) st.p → z' ≡ option_or z found → Running (steps + 1) z' next
  unfolding iterate made reported finished
  running-step steps z found z' st next r h b e ef ez =
      let has = counts (act st.p st.arrays) st in
      let one : iterate n act (steps + 1) start ≡ step n act (iterate n act steps start) = iterate-add n act steps 1 start in
      let acts : step n act st ≡ next = step-acts n act st b ∙ sym e in
      let going = ne_eqb st.p n (λ z. omega arith) in
      let more : made n act 1 st ≡ 1 = made-acts n act 0 st going in
      let here : reported n act 1 st ≡ (if has then pos st.p else none) = reported-acts n act 0 st going ∙ report-ends n act has st.p in
      let is = ez ∙ ap (option_or z) ef in
      record {
        within = omega arith;
        state = sym acts ∙ ap (step n act) r.state ∙ sym one;
        total = sym (made-add n act steps 1 start ∙ (λ i. sym r.total i + (ap (made n act 1) (sym r.state) ∙ more) i));
        reports = ap report is ∙ report-or z has st.p
            ∙ sym (reported-add n act steps 1 start ∙ (λ i. earlier (sym r.reports i) ((ap (reported n act 1) (sym r.state) ∙ here) i)));
        small = subst (λ (o : Option ℕ). IfSome o (λ q. q < n)) (sym is) (small-or z has st.p n r.small b);
        placed = subst (λ (s : State M). Placed n act s) acts (placed-step n act stable st r.placed);
      }

  pub running-full : (steps : ℕ) (z : Option ℕ) (st : State M) → Running steps z st → budget ≤ steps → Ended budget z st
  running-full steps z st r h =
      let e : steps ≡ budget = omega (arith, r.within) in
      (r.state ∙ ap (λ (k : ℕ). iterate n act k start) e, sym e ∙ r.total ∙ ap (λ (k : ℕ). made n act k start) e, r.reports ∙ ap (λ (k : ℕ). reported n act k start) e)

  pub running-done : (steps : ℕ) (z : Option ℕ) (st : State M) → Running steps z st → n ≤ st.p → Ended steps z st
  unfolding finished
  running-done steps z st r h =
      let rest = budget - steps in
      let e : budget ≡ steps + rest = omega (arith, r.within) in
      let at : st.p ≡ n = omega (arith, r.placed.within) in
      let over = eq-eqb st.p n at in (
        sym (iterate-finished n act rest st at) ∙ ap (iterate n act rest) r.state ∙ sym (iterate-add n act steps rest start) ∙ ap (λ (k : ℕ). iterate n act k start) (sym e),
        sym
            (ap (λ (k : ℕ). made n act k start) e ∙ made-add n act steps rest start
            ∙ (λ i. sym r.total i + (ap (made n act rest) (sym r.state) ∙ made-finished n act rest st over) i)
            ∙ add-zero steps),
        sym
            (ap (λ (k : ℕ). reported n act k start) e ∙ reported-add n act steps rest start
            ∙ ap (earlier (reported n act steps start)) (ap (reported n act rest) (sym r.state) ∙ reported-finished n act rest st over)
            ∙ reported-ends n act steps start ∙ sym r.reports),
      )

-- ---- numbers of strips

pub strip-now : (s k n : ℕ) → (0 < s → s < k) → k ≡ n → 0 < n → s < n
strip-now zero k n h e some = some
strip-now (suc s) k n h e some = omega (arith, h (omega arith), e)

pub next_small : (r n s b : ℕ) → (0 < r → (r < n) × (r ≡ s + 1)) → (suc s < n → suc s < b) → 0 < b → r < b
next_small zero n s b h k some = some
next_small (suc r) n s b h k some =
    let e = h (omega arith) in
    let f = k (omega (arith, e.0, e.1)) in
    omega (arith, e.1, f)
