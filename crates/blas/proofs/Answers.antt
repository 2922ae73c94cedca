-- What the answer of the check means, by its cases.
-- Assumes nothing.
use Prim.Native.Nat.{ℕ, ◌≤◌, ◌<◌}
use mathlib.Core.Path.{◌≡◌, refl, sym, ap, subst, ◌∙◌}
use mathlib.Core.List.{List}
use native.Mathlib.Omega.{arith}
use lib.IntN.{ℤ, pos}
use lib.Ieee.{Float}
use Rattle.std.specs.Prelude.{if◌then◌else◌}
use Rattle.arrays.specs.Search.{none}
use Rattle.definitions.specs.Call.{in_place}
use Rattle.definitions.specs.Element.{zero_of, result}
use Rattle.definitions.specs.Check.{width, call_of, checked, number, leaves, reports}
use Rattle.definitions.specs.Direct.{done, solved}
use Rattle.definitions.specs.declared.Routine.{Routine}
use Rattle.definitions.specs.declared.Args.{Args}
use Rattle.definitions.specs.declared.Call.{Call}
use Rattle.definitions.specs.declared.SolveEnd.{SolveEnd}
use Rattle.definitions.specs.declared.Checked.{Checked}
use Rattle.definitions.specs.declared.Checked.TheVariants.{Refused, Idle, Ready}
use Rattle.definitions.proofs.CheckLaws as CheckLaws
use Rattle.definitions.proofs.CheckLaws.{strip-width, block_size}
use Rattle.definitions.proofs.Fits.{Fits, ready-fits}
use Rattle.strips.specs.Lengths.{FitsArrays}

module _ (a b out : List Float) where
  -- The number, the output's array and the report are those that the answer means.
  abbrev pub Meant : Checked → ℤ → List Float → ℤ → Type 0
  Meant k x ys z = (x ≡ number k) × (ys ≡ leaves k a b out) × (z ≡ reports k a)

  module _ (k : Checked) where
    pub when-refused : (e : ℕ) → k ≡ Refused e → Meant k (pos e) out none
    unfolding number leaves reports
    when-refused e h = subst (λ (k : Checked). Meant k (pos e) out none) (sym h) (refl, refl, refl)

    pub when-idle : k ≡ Idle → Meant k (pos 0) out none
    unfolding number leaves reports
    when-idle h = subst (λ (k : Checked). Meant k (pos 0) out none) (sym h) (refl, refl, refl)

    pub when-ready : (c : Call) (ys : List Float) (z : ℤ) → k ≡ Ready c → (ys ≡ result c a b out) × (z ≡ zero_of c.routine c a) → Meant k (pos 0) ys z
    unfolding number leaves reports
    when-ready c ys z h e = subst (λ (k : Checked). Meant k (pos 0) ys z) (sym h) (refl, e.0, e.1)

-- ---- what a direct call hands on

routine-kept : (g : Args) → (call_of g).routine ≡ g.routine
unfolding call_of
routine-kept g = refl

-- C may be longer
fits-longer : (c : Call) (la lb lc len : ℕ) → lc ≤ len → Fits c.routine c la lb lc → Fits c.routine c la lb len
fits-longer c la lb lc len le h = record {
  routine-is = h.routine-is;
  some-rows = h.some-rows;
  some-columns = h.some-columns;
  square = h.square;
  ld-a = h.ld-a;
  ld-b = h.ld-b;
  ld-c = h.ld-c;
  room-a = h.room-a;
  room-b = h.room-b;
  room-written-b = h.room-written-b;
  room-c = omega (arith, h.room-c);
}

module _ (w r : ℤ) (g : Args) (k : Checked) (answer : k ≡ checked w r g) where
  pub small : (e : ℕ) → k ≡ Refused e → e ≤ 30
  small e h = (CheckLaws.when-refused w r g e (sym answer ∙ h)).2

  -- `la` is the length of A, `lb` that of the B that is only read, `len` that of the output
  pub goes_on : (la lb len v s : ℕ) → g.lena ≡ la → g.lenb ≡ (if in_place g.routine then len else lb) → g.lenc ≤ len → v ≡ width w → s ≡ width r → (c : Call) → k ≡ Ready c
      → FitsArrays c la lb len × (0 < v) × (v ≤ 64) × (0 < s) × (s ≤ 64)
  goes_on la lb len v s ea eb lc ev es c h =
      let e = sym answer ∙ h in
      let ok = CheckLaws.when-ready w r g c e in
      let x = strip-width w r g ok.0 in
      let y = block_size w r g ok.0 in
      let is = ap (λ (c : Call). c.routine) ok.2 ∙ routine-kept g in (
        subst (λ (n : ℕ). Fits c.routine c la n len) (eb ∙ ap (λ (f : Routine). if in_place f then len else lb) (sym is))
            (subst (λ (n : ℕ). Fits c.routine c n g.lenb len) ea (fits-longer c _ _ _ len lc (ready-fits w r g c e))),
        omega (arith, x),
        omega (arith, x),
        omega (arith, y),
        omega (arith, y),
      )

  module _ (a b out ys : List Float) (x z : ℤ) (h : Meant a b out k x ys z) where
    meant : Meant a b out (checked w r g) x ys z
    meant = subst (λ (k : Checked). Meant a b out k x ys z) answer h

    -- the report is that of the solve
    pub is-solved : (◌≡◌ {A = SolveEnd} (record { number = x; zero = z }) (solved w r g a b out).end) × (ys ≡ (solved w r g a b out).array)
    unfolding done solved
    is-solved = (λ i. record { number = meant.0 i; zero = meant.2 i }, meant.1)
