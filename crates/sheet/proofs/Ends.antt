-- How a run ends: refused, or after the steps that it made.
-- Assumes nothing.
use Prim.Native.Nat.{ℕ, ◌≤◌, ◌<◌}
use mathlib.Core.Path.{◌≡◌, sym, ap, subst, ◌∙◌}
use mathlib.Core.Bool.{true, false, not}
use mathlib.Core.List.{List}
use native.Mathlib.Omega.{arith}
use lib.Dec.{eqb}
use lib.IntN.{ℤ, pos}
use borrow.Author.Tests.{not-false, eq-eqb, ne_eqb}
use Rattle.arrays.specs.Search.{none}
use Rattle.arrays.proofs.Tests.{if-true, if-false, by-test}
use Rattle.definitions.specs.Check.{nat}
use Rattle.definitions.specs.Sheet.{Sheet, Arrays, sound, records, act}
use Rattle.definitions.proofs.MachineLaws.{Placed}
use Rattle.definitions.proofs.Runs.{cursor-placed}
use Rattle.definitions.specs.Run.{begin, after, steps_made, zero_reported, too_short, bad_cursor, run_refusal, ran, ran_to, run}

module _ (t : Sheet) (l : Arrays) (answers : List ℤ) (p s : ℤ) where
  abbrev e : ℕ
  e = run_refusal t l answers p s

  pub number_small : e ≤ 36
  unfolding run_refusal
  number_small =
      by-test (not (sound t))
      (λ h. rw h (omega arith))
      (λ h. by-test (too_short t answers) (λ k. rw (h, k) (omega arith)) (λ k. by-test (bad_cursor t l p s) (λ b. rw (h, k, b) (omega arith)) (λ b. rw (h, k, b) (omega arith))))

  -- what an accepted run satisfies
  pub record Passed : Type 0 where
    pub trailer : sound t ≡ true
    pub long : too_short t answers ≡ false
    pub cursor : bad_cursor t l p s ≡ false

  pub passed : e ≡ 0 → Passed
  unfolding run_refusal
  passed z =
      by-test (not (sound t))
      (λ h. absurd (let q : 34 ≡ 0 = sym (if-true (not (sound t)) 34 _ h) ∙ z in let f : ⊥ = omega arith in f))
      (λ h.
      let z1 = sym (if-false (not (sound t)) 34 _ h) ∙ z in
      by-test (too_short t answers)
      (λ k. absurd (let q : 35 ≡ 0 = sym (if-true (too_short t answers) 35 _ k) ∙ z1 in let f : ⊥ = omega arith in f))
      (λ k.
      let z2 = sym (if-false (too_short t answers) 35 _ k) ∙ z1 in
      by-test (bad_cursor t l p s)
      (λ b. absurd (let q : 36 ≡ 0 = sym (if-true (bad_cursor t l p s) 36 _ b) ∙ z2 in let f : ⊥ = omega arith in f))
      (λ b. record { trailer = not-false (sound t) h; long = k; cursor = b })))

  pub run-refused : (budget n : ℕ) → n ≡ e → 0 < n → ran n p s 0 none l answers ≡ run t budget l answers p s
  unfolding run
  run-refused budget n en some = ap (λ (k : ℕ). ran k p s 0 none l answers) en ∙ sym (if-false (eqb e 0) _ _ (ne_eqb e 0 (λ z. omega arith)))

  pub run-goes : (budget steps : ℕ) (z : ℤ) (l' : Arrays) (answers' : List ℤ) (p' s' : ℕ) (a b : ℤ) → a ≡ pos p' → b ≡ pos s' → e ≡ 0
      → begin l' answers' p' s' ≡ after t budget (begin l answers (nat p) (nat s)) → steps ≡ steps_made t budget (begin l answers (nat p) (nat s))
      → z ≡ zero_reported t budget (begin l answers (nat p) (nat s)) → ran 0 a b steps z l' answers' ≡ run t budget l answers p s
  unfolding run begin
  run-goes budget steps z l' answers' p' s' a b ea eb ok eg es ez =
      (λ i. ran 0 (ea i) (eb i) steps z l' answers') ∙ (λ i. ran_to (eg i) (es i) (ez i)) ∙ sym (if-true (eqb e 0) _ _ (eq-eqb e 0 ok))

-- a cursor that is not refused is a sound one
pub placed_at : (t : Sheet) (l : Arrays) (answers : List ℤ) (p s : ℤ) (q u : ℕ) → q ≡ nat p → u ≡ nat s → bad_cursor t l p s ≡ false
    → Placed (records t) (act t) (begin l answers q u)
placed_at t l answers p s q u eq eu h =
    subst (λ (q : ℕ). Placed (records t) (act t) (begin l answers q u)) (sym eq)
    (subst (λ (u : ℕ). Placed (records t) (act t) (begin l answers (nat p) u)) (sym eu) (cursor-placed t l answers p s h).2)
