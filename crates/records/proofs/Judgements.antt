-- The tests of a record, as the code goes through them, are those of the definitions; and what an accepted record satisfies.
-- Assumes nothing.
use Prim.Native.Nat.{ℕ, zero, suc, ◌+◌, ◌*◌, ◌^◌, ◌≤◌, ◌<◌}
use mathlib.Core.Path.{◌≡◌, refl, sym, ap, subst, ◌∙◌}
use mathlib.Core.Bool.{Bool, true, false, ◌||◌}
use mathlib.Core.List.{[], ◌∷◌}
use mathlib.Core.Option.{Option, none, some}
use native.Mathlib.Omega.{arith}
use lib.Dec.{eqb, eqb-suc-zero}
use lib.IntN.{ℤ, pos, negsuc}
use lib.ListN.{get_or, get_elem?}
use lib.Signed.{mag}
use mir.Syntax.{w32}
use mir.Val.{to_z, of_z}
use mir.ValLaws.{to_z-of_z}
use borrow.Author.Tests.{ne_eqb}
use Rattle.std.specs.Prelude.{if◌then◌else◌}
use Rattle.arrays.proofs.Tests.{if-true, if-false, by-test}
use Rattle.definitions.specs.Call.{has_m, in_place, cuts_rows, extent}
use Rattle.definitions.specs.Check.{nat, side_of, refusal, idle, call_of, checked}
use Rattle.definitions.specs.Machine.{refuse}
use Rattle.definitions.specs.Sheet.{Sheet, Arrays, A, B, C, index, word, field, routine_of, output, inputs, any, array, lengths, bad_arrays, bad_offsets, args_of, record_refusal, accepted, act_by}
use Rattle.definitions.specs.declared.Routine.{Routine}
use Rattle.definitions.specs.declared.Routine.TheVariants.{Gemm, Symm, Syrk, Syr2k, Trmm, Trsm}
use Rattle.definitions.specs.declared.Args.{Args}
use Rattle.definitions.specs.declared.Call.{Call}
use Rattle.definitions.specs.declared.Checked.{Checked}
use Rattle.definitions.specs.declared.Checked.TheVariants.{Refused, Idle, Ready}
use Rattle.definitions.proofs.CheckLaws.{when-ready, when-idle, when-refused}
use Rattle.definitions.proofs.Records.{Accepted, record_call, record-routine}
use Rattle.records.specs.Judgement.{lengths_of, sizes, second, bad_number, bad_numbers, bad_offset, settled, judged, act_of, extent_of}
use Rattle.records.specs.declared.Judged.{Judged}
use Rattle.records.specs.declared.Judged.TheVariants.{Rejected, NoWork, Work}

-- ---- words and lengths

pub field_is : (t : Sheet) (p at : ℕ) → at ≡ nat (index t) + 20 * p → (q : ℕ) → get_or t.words (at + q) (pos 0) ≡ field t p q
unfolding field word
field_is t p at e q = λ i. get_or t.words (e i + q) (pos 0)

-- a word that goes through its bits
pub word-is : (z y : ℤ) → mag z < 2 ^ 31 → z ≡ y → to_z w32 (of_z w32 z) ≡ y
word-is z y fits e = to_z-of_z w32 z (record { sfits = fits }) ∙ e

pub sizes-are : (l : Arrays) (n : ℕ) → lengths l n ≡ sizes (lengths_of l) n
unfolding lengths sizes array
sizes-are l zero = refl
sizes-are l (suc zero) = refl
sizes-are l (suc (suc n)) = simp (eqb-suc-zero (suc n), ne_eqb (suc (suc n)) 1 (λ e. omega arith))

pub array-Z : (l : Arrays) (n : ℕ) → 1 < n → l.z ≡ array l n
unfolding array
array-Z l zero h = absurd (let f : ⊥ = omega arith in f)
array-Z l (suc zero) h = absurd (let f : ⊥ = omega arith in f)
array-Z l (suc (suc n)) h = refl

-- ---- the routine

-- a number from 1 on
pub routine-numbered : (z : ℤ) (n : ℕ) → nat z ≡ suc n → routine_of z ≡ get_elem? (Gemm ∷ Symm ∷ Syrk ∷ Syr2k ∷ Trmm ∷ Trsm ∷ []) n
unfolding routine_of
routine-numbered (pos zero) n h = absurd (let f : ⊥ = omega arith in f)
routine-numbered (pos (suc i)) n h = ap (λ (k : ℕ). get_elem? (Gemm ∷ Symm ∷ Syrk ∷ Syr2k ∷ Trmm ∷ Trsm ∷ []) k) (omega arith)
routine-numbered (negsuc i) n h = absurd (let f : ⊥ = omega arith in f)

-- a number that none of them has
pub routine-none : (z : ℤ) → (0 < nat z → 6 < nat z) → routine_of z ≡ none
unfolding routine_of
routine-none (pos zero) h = refl
routine-none (pos (suc zero)) h = absurd (omega (arith, h (omega arith)))
routine-none (pos (suc (suc zero))) h = absurd (omega (arith, h (omega arith)))
routine-none (pos (suc (suc (suc zero)))) h = absurd (omega (arith, h (omega arith)))
routine-none (pos (suc (suc (suc (suc zero))))) h = absurd (omega (arith, h (omega arith)))
routine-none (pos (suc (suc (suc (suc (suc zero)))))) h = absurd (omega (arith, h (omega arith)))
routine-none (pos (suc (suc (suc (suc (suc (suc zero))))))) h = absurd (omega (arith, h (omega arith)))
routine-none (pos (suc (suc (suc (suc (suc (suc (suc n)))))))) h = refl
routine-none (negsuc n) h = refl

-- ---- 32 and 33

last-test : (b : Bool) → b ≡ (b || false)
last-test true = refl
last-test false = refl

twice : (b : Bool) → (b || b) ≡ (b || false)
twice true = refl
twice false = refl

module _ (t : Sheet) (p : ℕ) where
  pub numbers-are : (f : Routine) → bad_numbers (field t p (output f)) (field t p A) (field t p (second f)) ≡ bad_arrays t p f
  unfolding bad_numbers bad_number bad_arrays any output inputs second in_place
  numbers-are f = go f
    where
      far : ℕ → Bool
      far q = bad_number (field t p q)

      same : ℕ → ℕ → Bool
      same o q = eqb (nat (field t p q)) (nat (field t p o))

      three : (o q : ℕ) → ((far o || (far A || far q)) || (same o A || same o q)) ≡ ((far o || (far A || (far q || false))) || (same o A || (same o q || false)))
      three o q = λ i. (far o || (far A || last-test (far q) i)) || (same o A || last-test (same o q) i)

      two : (o : ℕ) → ((far o || (far A || far A)) || (same o A || same o A)) ≡ ((far o || (far A || false)) || (same o A || false))
      two o = λ i. (far o || twice (far A) i) || twice (same o A) i

      go : (f : Routine) → bad_numbers (field t p (output f)) (field t p A) (field t p (second f)) ≡ bad_arrays t p f
      go Gemm = three _ _
      go Symm = three _ _
      go Syrk = two _
      go Syr2k = three _ _
      go Trmm = two _
      go Trsm = two _

  pub offsets_are : (size : ℕ → ℕ) (f : Routine) → let bad : ℕ → Bool = λ q. bad_offset size (field t p q) (field t p (q + 1)) in
      (bad (output f) || (bad A || bad (second f))) ≡ bad_offsets t p f size
  unfolding bad_offset bad_offsets any output inputs second in_place
  offsets_are size f = go f
    where
      bad : ℕ → Bool
      bad q = bad_offset size (field t p q) (field t p (q + 1))

      three : (o q : ℕ) → (bad o || (bad A || bad q)) ≡ (bad o || (bad A || (bad q || false)))
      three o q = λ i. bad o || (bad A || last-test (bad q) i)

      two : (o : ℕ) → (bad o || (bad A || bad A)) ≡ (bad o || (bad A || false))
      two o = λ i. bad o || twice (bad A) i

      go : (f : Routine) → (bad (output f) || (bad A || bad (second f))) ≡ bad_offsets t p f size
      go Gemm = three C B
      go Symm = three C B
      go Syrk = two C
      go Syr2k = three C B
      go Trmm = two B
      go Trsm = two B

-- a word that is not negative is below 2^31
pub word_small : (z : ℤ) → mag z < 2 ^ 31 → nat (to_z w32 (of_z w32 z)) < 2 ^ 31
word_small z h = subst (λ (y : ℤ). nat y < 2 ^ 31) (sym (to_z-of_z w32 z (record { sfits = h }))) (small z h)
  where
    small : (z : ℤ) → mag z < 2 ^ 31 → nat z < 2 ^ 31
    small (pos n) h = h
    small (negsuc n) h = omega arith

-- ---- all tests

module _ (t : Sheet) (p : ℕ) (size : ℕ → ℕ) where
  pub judged-31 : routine_of (field t p 0) ≡ none → Rejected 31 ≡ judged t p size (routine_of (field t p 0))
  unfolding judged
  judged-31 r = sym (ap (judged t p size) r)

  module _ (f : Routine) (r : routine_of (field t p 0) ≡ some f) where
    pub judged-32 : bad_arrays t p f ≡ true → Rejected 32 ≡ judged t p size (routine_of (field t p 0))
    unfolding judged
    judged-32 a = sym (ap (judged t p size) r ∙ if-true (bad_arrays t p f) _ _ a)

    pub judged-33 : bad_arrays t p f ≡ false → bad_offsets t p f size ≡ true → Rejected 33 ≡ judged t p size (routine_of (field t p 0))
    unfolding judged
    judged-33 a o = sym (ap (judged t p size) r ∙ if-false (bad_arrays t p f) _ _ a ∙ if-true (bad_offsets t p f size) _ _ o)

    pub judged-direct : bad_arrays t p f ≡ false → bad_offsets t p f size ≡ false
        → settled (checked (field t p 18) (field t p 19) (args_of t p f size)) (call_of (args_of t p f size)) ≡ judged t p size (routine_of (field t p 0))
    unfolding judged
    judged-direct a o = sym (ap (judged t p size) r ∙ if-false (bad_arrays t p f) _ _ a ∙ if-false (bad_offsets t p f size) _ _ o)

-- What the record does is what its judgement says.
pub act-is : (t : Sheet) (p : ℕ) (size : ℕ → ℕ) (o : Option Routine) → act_by t p size o ≡ act_of t p (judged t p size o)
unfolding act_by act_of judged record_refusal checked settled
act-is t p size none = refl
act-is t p size (some f) =
    by-test (bad_arrays t p f)
    (λ a. rw a refl)
    (λ a. by-test (bad_offsets t p f size) (λ o. rw (a, o) refl) (λ o. rw (a, o) (direct (field t p 18) (field t p 19))))
  where
    direct : (w r : ℤ) → (if eqb (refusal w r (args_of t p f size)) 0 then accepted t p f (record_call t p size f) else refuse (refusal w r (args_of t p f size)))
        ≡ act_of t p (settled (checked w r (args_of t p f size)) (record_call t p size f))
    direct w r =
        let c = record_call t p size f in
        let kept = ap (λ (f : Routine). accepted t p f c) (sym (record-routine t p size f)) in
        by-test (eqb (refusal w r (args_of t p f size)) 0)
        (λ e. by-test (idle c) (λ i. rw (e, i) kept) (λ i. rw (e, i) kept))
        (λ e. rw e refl)

-- ---- what a judgement says

clash : ◌≡◌ {A = ℕ} 0 1 → ⊥
clash z = omega arith

settled-work : (k : Checked) (c d : Call) → settled k c ≡ Work d → k ≡ Ready d
unfolding settled
settled-work (Refused e) c d h = absurd (clash cc)
settled-work Idle c d h = absurd (clash cc)
settled-work (Ready k) c d h = let e : k ≡ d = cc in ap Ready e

settled-none : (k : Checked) (c d : Call) → settled k c ≡ NoWork d → (k ≡ Idle) × (d ≡ c)
unfolding settled
settled-none (Refused e) c d h = absurd (clash cc)
settled-none Idle c d h = (refl, cc)
settled-none (Ready k) c d h = absurd (clash cc)

settled-rejected : (k : Checked) (c : Call) (e : ℕ) → settled k c ≡ Rejected e → k ≡ Refused e
unfolding settled
settled-rejected (Refused n) c e h = let q : n ≡ e = cc in ap Refused q
settled-rejected Idle c e h = absurd (clash cc)
settled-rejected (Ready k) c e h = absurd (clash cc)

-- the extent is a word's
pub extent-small : (w r : ℤ) (g : Args) → nat g.m < 2 ^ 31 → nat g.n < 2 ^ 31 → extent_of (settled (checked w r g) (call_of g)) < 2 ^ 31
unfolding settled extent_of extent call_of
extent-small w r g hm hn = go (checked w r g) refl
  where
    rows : (b : Bool) → (if b then nat g.m else nat g.n) < 2 ^ 31
    rows true = hm
    rows false = hn

    small : (b h : Bool) → (if b then (if h then nat g.m else nat g.n) else nat g.n) < 2 ^ 31
    small true h = rows h
    small false h = hn

    whole : extent (call_of g) < 2 ^ 31
    whole = small (cuts_rows g.routine (side_of g.side)) (has_m g.routine)

    go : (k : Checked) → checked w r g ≡ k → extent_of (settled k (call_of g)) < 2 ^ 31
    go (Refused e) h = omega arith
    go Idle h = whole
    go (Ready c) h = subst (λ (c : Call). extent c < 2 ^ 31) (sym (when-ready w r g c h).2) whole

module _ (t : Sheet) (p : ℕ) (size : ℕ → ℕ) where
  -- the record passes 31, 32 and 33, and its answer is that of the direct call's check
  record Passes (v : Judged) (o : Option Routine) : Type 0 where
    pub f : Routine
    pub routine-is : o ≡ some f
    pub arrays-ok : bad_arrays t p f ≡ false
    pub offsets-ok : bad_offsets t p f size ≡ false
    pub direct : settled (checked (field t p 18) (field t p 19) (args_of t p f size)) (call_of (args_of t p f size)) ≡ v

  passes : (v : Judged) → ((e : ℕ) → Rejected e ≡ v → ⊥) → (o : Option Routine) → judged t p size o ≡ v → Passes v o
  unfolding judged
  passes v goes none h = absurd (goes 31 h)
  passes v goes (some f) h =
      by-test (bad_arrays t p f)
      (λ a. absurd (goes 32 (sym (if-true (bad_arrays t p f) _ _ a) ∙ h)))
      (λ a. by-test (bad_offsets t p f size)
      (λ o. absurd (goes 33 (sym (if-true (bad_offsets t p f size) _ _ o) ∙ sym (if-false (bad_arrays t p f) _ _ a) ∙ h)))
      (λ o. record {
        f = f;
        routine-is = refl;
        arrays-ok = a;
        offsets-ok = o;
        direct = sym (if-false (bad_offsets t p f size) _ _ o) ∙ sym (if-false (bad_arrays t p f) _ _ a) ∙ h;
      }))

  -- An accepted record: its routine, what it satisfies, and its call.
  pub record Taken (o : Option Routine) (c : Call) : Type 0 where
    pub f : Routine
    pub routine-is : o ≡ some f
    pub accepts : Accepted t p size f
    pub call-is : c ≡ record_call t p size f

  pub when-work : (o : Option Routine) (c : Call) → judged t p size o ≡ Work c
      → (k : Taken o c) × (checked (field t p 18) (field t p 19) (args_of t p k.f size) ≡ Ready c)
  when-work o c h =
      let s = passes (Work c) (λ e z. clash cc) o h in
      let k = settled-work _ _ c s.direct in
      let r = when-ready (field t p 18) (field t p 19) (args_of t p s.f size) c k in
      (record { f = s.f; routine-is = s.routine-is; accepts = record { arrays-ok = s.arrays-ok; offsets-ok = s.offsets-ok; direct-ok = r.0 }; call-is = r.2 }, k)

  pub when-none : (o : Option Routine) (c : Call) → judged t p size o ≡ NoWork c → Taken o c × (idle c ≡ true)
  when-none o c h =
      let s = passes (NoWork c) (λ e z. clash cc) o h in
      let k = settled-none _ _ c s.direct in
      let r = when-idle (field t p 18) (field t p 19) (args_of t p s.f size) k.0 in (
        record { f = s.f; routine-is = s.routine-is; accepts = record { arrays-ok = s.arrays-ok; offsets-ok = s.offsets-ok; direct-ok = r.0 }; call-is = k.1 },
        ap idle k.1 ∙ r.1,
      )

  -- the number of a refusal
  pub rejected-small : (o : Option Routine) (e : ℕ) → judged t p size o ≡ Rejected e → e ≤ 33
  unfolding judged
  rejected-small none e h = let q : 31 ≡ e = cc in omega arith
  rejected-small (some f) e h =
      by-test (bad_arrays t p f)
      (λ a. let q : Rejected 32 ≡ Rejected e = sym (if-true (bad_arrays t p f) _ _ a) ∙ h in number 32 q (omega arith))
      (λ a. by-test (bad_offsets t p f size)
      (λ o. let q : Rejected 33 ≡ Rejected e = sym (if-true (bad_offsets t p f size) _ _ o) ∙ sym (if-false (bad_arrays t p f) _ _ a) ∙ h in number 33 q (omega arith))
      (λ o.
      let q = sym (if-false (bad_offsets t p f size) _ _ o) ∙ sym (if-false (bad_arrays t p f) _ _ a) ∙ h in
      omega (arith, (when-refused (field t p 18) (field t p 19) (args_of t p f size) e (settled-rejected _ _ e q)).2)))
    where
      number : (n : ℕ) → Rejected n ≡ Rejected e → n ≤ 33 → e ≤ 33
      number n q b = let z : n ≡ e = cc in omega arith
