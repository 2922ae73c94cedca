-- What a record does, by what its tests come to.
-- Assumes nothing.
use Prim.Native.Nat.{ℕ, suc, ◌+◌, ◌*◌, ◌≤◌, ◌<◌}
use mathlib.Core.Path.{◌≡◌, sym, ap, subst, fun_ext, ◌∙◌}
use Rattle.std.specs.Prelude.{Option, None}
use Rattle.std.specs.Bool.{then_some}
use Rattle.std.proofs.Common.{◌⊎◌, ⊎_elim}
use mathlib.Core.Bool.{Bool, true, false, not}
use mathlib.Core.List.{List, ◌++◌}
use native.Mathlib.Nat.{mul-le-mul_left, mul-one}
use native.Mathlib.Numerals.{add-one}
use native.Mathlib.Omega.{arith}
use lib.Dec.{eqb}
use lib.IntN.{ℤ, pos}
use lib.ListN.{set, take, drop, take-append-drop}
use lib.Ieee.{Float}
use borrow.Author.Tests.{ne_eqb}
use Rattle.arrays.proofs.Tests.{if-true, or-both, by-test}
use Rattle.definitions.specs.Call.{empty, extent, strips}
use Rattle.definitions.specs.Element.{zero_of}
use Rattle.definitions.specs.Check.{nat, negative, width, idle, checked}
use Rattle.definitions.specs.Machine.{Act, work, strips_of, closed, perform, counts}
use Rattle.definitions.specs.Sheet.{Sheet, Arrays, A, field, routine_of, output, array, with_array, lengths, part, args_of, width_of, strip_done, accepted, act}
use Rattle.definitions.specs.Run.{Machine, begin}
use Rattle.definitions.specs.declared.Routine.{Routine}
use Rattle.definitions.specs.declared.Call.{Call}
use Rattle.definitions.specs.declared.Checked.TheVariants.{Ready}
use Rattle.definitions.proofs.Answers.{idle-keeps, idle-reports}
use Rattle.definitions.proofs.CheckLaws.{strip-width, block_size}
use Rattle.definitions.proofs.Fits.{ready-fits}
use Rattle.definitions.proofs.Strips.{strip-begins}
use Rattle.definitions.proofs.Records.{array-self, Accepted, record_call, record-routine}
use Rattle.records.specs.Judgement.{lengths_of, sizes, judged, act_of}
use Rattle.records.specs.declared.Judged.{Judged}
use Rattle.records.specs.declared.Judged.TheVariants.{Rejected, NoWork, Work}
use Rattle.records.proofs.Judgements.{sizes-are, act-is, Taken, when-work, when-none, rejected-small}

-- an idle call's strips change nothing
idle-strip : (t : Sheet) (p : ℕ) (f : Routine) (c : Call) (from to : ℕ) (l : Arrays) → idle c ≡ true → l ≡ strip_done t p f c from to l
unfolding strip_done part
idle-strip t p f c from to l h =
    let number = nat (field t p (output f)) in
    let offset = nat (field t p (output f + 1)) in
    sym
    (ap (λ (ys : List Float). with_array l number (take offset (array l number) ++ ys)) (idle-keeps c _ _ from to (drop offset (array l number)) h)
    ∙ ap (with_array l number) (take-append-drop offset (array l number)) ∙ array-self l number)

module _ (t : Sheet) (p : ℕ) (l : Arrays) (v : Judged)
    (ev : v ≡ judged t p (sizes (lengths_of l)) (routine_of (field t p 0))) where
  judgement : judged t p (lengths l) (routine_of (field t p 0)) ≡ v
  judgement = ap (λ (size : ℕ → ℕ). judged t p size (routine_of (field t p 0))) (fun_ext (sizes-are l)) ∙ sym ev

  does : act t p l ≡ act_of t p v
  unfolding act
  does = act-is t p (lengths l) (routine_of (field t p 0)) ∙ ap (act_of t p) judgement

  pub number_small : (e : ℕ) → v ≡ Rejected e → e ≤ 33
  number_small e h = rejected-small t p (lengths l) (routine_of (field t p 0)) e (judgement ∙ h)

  pub step-rejected : (e : ℕ) → v ≡ Rejected e → (answers : List ℤ) (s : ℕ) → begin l (set answers p (pos e)) (p + 1) 0 ≡ perform (act t p l) (begin l answers p s)
  unfolding begin perform closed act_of
  step-rejected e h answers s =
      (λ i. record { arrays = l; answers = set answers p (pos e); p = add-one p i; s = 0 })
      ∙ sym (ap (λ (a : Act Arrays). perform a (begin l answers p s)) (does ∙ ap (act_of t p) h))

  pub rejected-counts : (e : ℕ) → v ≡ Rejected e → (st : Machine) → None ≡ then_some (counts (act t p l) st) p
  unfolding counts act_of
  rejected-counts e h st = sym (ap (λ (a : Act Arrays). then_some (counts a st) p) (does ∙ ap (act_of t p) h))

  pub rejected-strips : (e : ℕ) → v ≡ Rejected e → 0 ≡ strips_of (act t p l)
  unfolding strips_of act_of
  rejected-strips e h = sym (ap strips_of (does ∙ ap (act_of t p) h))

  -- an accepted record
  abbrev pub strip-update : Call → ℕ → Arrays → Arrays
  strip-update c s l = strip_done t p c.routine c (s * width_of t p) (suc s * width_of t p) l

  abbrev pub singular : Call → Arrays → Bool
  singular c l = not (negative (zero_of c.routine c (part t p A l)))

  module _ (c : Call) (w : ℕ) (ew : w ≡ width_of t p) (a : act t p l ≡ accepted t p c.routine c) where
    works : act t p l ≡ work (strips w c) (strip-update c) (singular c)
    unfolding accepted
    works = a ∙ ap (λ (k : ℕ). work (strips k c) (strip-update c) (singular c)) (sym ew)

    -- the state after a step, and the record if it counts
    pub accepted-step : (n : ℕ) → n ≡ strips w c → (st st' : Machine) (z : Option ℕ)
        → (st' ≡ perform (work n (strip-update c) (singular c)) st) × (z ≡ then_some (counts (work n (strip-update c) (singular c)) st) p)
        → (st' ≡ perform (act t p l) st) × (z ≡ then_some (counts (act t p l) st) p)
    accepted-step n en st st' z h =
        let e = sym (works ∙ ap (λ (k : ℕ). work k (strip-update c) (singular c)) (sym en)) in
        (h.0 ∙ ap (λ (a : Act Arrays). perform a st) e, h.1 ∙ ap (λ (a : Act Arrays). then_some (counts a st) p) e)

    pub accepted-strips : strips_of (act t p l) ≡ strips w c
    unfolding strips_of
    accepted-strips = ap strips_of works

  pub none-act : (c : Call) → v ≡ NoWork c → act t p l ≡ accepted t p c.routine c
  unfolding act_of
  none-act c h = does ∙ ap (act_of t p) h

  pub work-act : (c : Call) → v ≡ Work c → act t p l ≡ accepted t p c.routine c
  unfolding act_of
  work-act c h = does ∙ ap (act_of t p) h

  pub taken-act : (c : Call) → (v ≡ NoWork c) ⊎ (v ≡ Work c) → act t p l ≡ accepted t p c.routine c
  taken-act c h = ⊎_elim (none-act c) (work-act c) h

  -- what is known of it, by its call's own routine
  pub record Known (c : Call) : Type 0 where
    pub accepts : Accepted t p (lengths l) c.routine
    pub call-is : c ≡ record_call t p (lengths l) c.routine
    pub wide : (0 < width_of t p) × (width_of t p ≤ 64)
    pub blocks : (0 < width (field t p 19)) × (width (field t p 19) ≤ 64)

  routine-is : {o : _} (c : Call) (k : Taken t p (lengths l) o c) → k.f ≡ c.routine
  routine-is c k = sym (ap (λ (c : Call). c.routine) k.call-is ∙ record-routine t p (lengths l) k.f)

  known_by : {o : _} (c : Call) → Taken t p (lengths l) o c → Known c
  unfolding width_of
  known_by c k =
      let r = routine-is c k in
      let ok = subst (λ (f : Routine). Accepted t p (lengths l) f) r k.accepts in
      record {
        accepts = ok;
        call-is = k.call-is ∙ ap (record_call t p (lengths l)) r;
        wide = strip-width _ _ _ ok.direct-ok;
        blocks = block_size _ _ _ ok.direct-ok;
      }

  pub none-known : (c : Call) → v ≡ NoWork c → Known c
  none-known c h = known_by c (when-none t p (lengths l) _ c (judgement ∙ h)).0

  pub none-strip : (c : Call) → v ≡ NoWork c → (s : ℕ) → l ≡ strip-update c s l
  none-strip c h s = idle-strip t p _ c _ _ l (when-none t p (lengths l) _ c (judgement ∙ h)).1

  pub none-reports : (c : Call) → v ≡ NoWork c → false ≡ singular c l
  none-reports c h = sym (ap (λ (z : ℤ). not (negative z)) (idle-reports c (part t p A l) (when-none t p (lengths l) _ c (judgement ∙ h)).1))

  pub work-known : (c : Call) → v ≡ Work c → Known c
  work-known c h = known_by c (when-work t p (lengths l) _ c (judgement ∙ h)).0

  pub taken-known : (c : Call) → (v ≡ NoWork c) ⊎ (v ≡ Work c) → Known c
  taken-known c h = ⊎_elim (none-known c) (work-known c) h

  pub work-ready : (c : Call) → v ≡ Work c → checked (field t p 18) (field t p 19) (args_of t p c.routine (lengths l)) ≡ Ready c
  work-ready c h =
      let k = when-work t p (lengths l) _ c (judgement ∙ h) in
      subst (λ (f : Routine). checked (field t p 18) (field t p 19) (args_of t p f (lengths l)) ≡ Ready c) (routine-is c k.0) k.1

  -- a strip of a call with work begins below the extent
  pub work-begins : (c : Call) (s w : ℕ) → v ≡ Work c → 0 < w → s < strips w c → s * w < extent c
  unfolding empty
  work-begins c s w h wide b =
      let f = ready-fits (field t p 18) (field t p 19) (args_of t p c.routine (lengths l)) c (work-ready c h) in
      strip-begins c w s wide (or-both (eqb c.m 0) (eqb c.n 0) (ne_eqb c.m 0 (λ z. omega (arith, f.some-rows))) (ne_eqb c.n 0 (λ z. omega (arith, f.some-columns)))) b

-- a further strip's number is a word's
pub strip-small : (c : Call) (w s b : ℕ) → 0 < w → extent c < b → suc s < strips w c → suc s < b
unfolding strips
strip-small c w s b wide small h =
    by-test (empty c)
    (λ e. absurd (let n = subst (λ (k : ℕ). suc s < k) (one e) h in let f : ⊥ = omega arith in f))
    (λ e. omega (arith, strip-begins c w (suc s) wide e h, mul-le-mul_left (suc s) wide, mul-one (suc s)))
  where
    one : empty c ≡ true → strips w c ≡ 1
    one e = if-true (empty c) 1 _ e
