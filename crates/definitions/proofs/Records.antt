-- The records of a sheet: the strips of an accepted record, one after the other, are its whole call; a strip changes no length, and so nothing of what the
-- records say.
-- Assumes nothing.
use Prim.Native.Nat.{ℕ, zero, suc, ◌+◌, ◌*◌, ◌≤◌, ◌<◌}
use mathlib.Core.Path.{◌≡◌, refl, sym, ap, ap₂, subst, fun_ext, ◌∙◌}
use mathlib.Core.Bool.{Bool, true, false, not, ◌||◌, true≢false}
use mathlib.Core.List.{List, [], ◌∷◌, ◌++◌}
use mathlib.Core.Option.{Option, none, some}
use native.Mathlib.Nat.{zero-mul, suc-mul}
use native.Mathlib.Omega.{arith}
use lib.Dec.{ltb, eqb}
use lib.IntN.{ℤ}
use lib.ListN.{length, take, drop, length-append, take-append-drop}
use lib.Seq.{length-take-le, take_at, drop_at}
use lib.Ieee.{Float}
use borrow.Author.Tests.{ltb-false, eqb-true, eqb-false}
use Rattle.arrays.specs.Update.{EntryMap, update, entries, only}
use Rattle.arrays.specs.Fold.{fold}
use Rattle.arrays.proofs.Tests.{or_left, or_right, if-true, if-false, by-test}
use Rattle.arrays.proofs.UpdateLaws.{length-update}
use Rattle.definitions.specs.Call.{in_place, ld_output, extent, strips, writes}
use Rattle.definitions.specs.Element.{value, zero_of, array_b, strip, result}
use Rattle.definitions.specs.Check.{nat, negative, width, refusal, call_of}
use Rattle.definitions.specs.Machine.{refuse, work}
use Rattle.definitions.specs.Sheet.{Sheet, Arrays, A, B, field, output, inputs, any, array, with_array, lengths, part, bad_arrays, bad_offsets, args_of, record_refusal, routine_of, width_of, strip_done, accepted, act_by, act}
use Rattle.definitions.specs.declared.Routine.{Routine}
use Rattle.definitions.specs.declared.Routine.TheVariants.{Gemm, Symm, Syrk, Syr2k, Trmm, Trsm}
use Rattle.definitions.specs.declared.Call.{Call}
use Rattle.definitions.proofs.Strips.{strip-join, strip-none, strips-cover, strips-positive}
use Rattle.definitions.proofs.CheckLaws.{strip-width, room-in-place}
use Rattle.definitions.proofs.MachineLaws.{Stable, Positive, Steady, whole}

-- ---- the three arrays

pub array_same : (l : Arrays) (k : ℕ) (v : List Float) → array (with_array l k v) k ≡ v
unfolding array with_array
array_same l zero v = refl
array_same l (suc zero) v = refl
array_same l (suc (suc k)) v = refl

pub array-twice : (l : Arrays) (k : ℕ) (v w : List Float) → with_array (with_array l k v) k w ≡ with_array l k w
unfolding with_array
array-twice l zero v w = refl
array-twice l (suc zero) v w = refl
array-twice l (suc (suc k)) v w = refl

pub array-self : (l : Arrays) (k : ℕ) → with_array l k (array l k) ≡ l
unfolding array with_array
array-self l zero = refl
array-self l (suc zero) = refl
array-self l (suc (suc k)) = refl

-- another array, both numbers being at most 2
pub array-other : (l : Arrays) (k n : ℕ) (v : List Float) → k ≤ 2 → n ≤ 2 → (n ≡ k → ⊥) → array (with_array l k v) n ≡ array l n
unfolding array with_array
array-other l zero zero v hk hn h = absurd (h refl)
array-other l zero (suc zero) v hk hn h = refl
array-other l zero (suc (suc n)) v hk hn h = refl
array-other l (suc zero) zero v hk hn h = refl
array-other l (suc zero) (suc zero) v hk hn h = absurd (h refl)
array-other l (suc zero) (suc (suc n)) v hk hn h = refl
array-other l (suc (suc k)) zero v hk hn h = refl
array-other l (suc (suc k)) (suc zero) v hk hn h = refl
array-other l (suc (suc k)) (suc (suc n)) v hk hn h = absurd (h (omega arith))

lengths-with : (l : Arrays) (k : ℕ) (v : List Float) → length v ≡ length (array l k) → (n : ℕ) → lengths (with_array l k v) n ≡ lengths l n
unfolding lengths with_array array
lengths-with l zero v h zero = h
lengths-with l zero v h (suc zero) = refl
lengths-with l zero v h (suc (suc n)) = refl
lengths-with l (suc zero) v h zero = refl
lengths-with l (suc zero) v h (suc zero) = h
lengths-with l (suc zero) v h (suc (suc n)) = refl
lengths-with l (suc (suc k)) v h zero = refl
lengths-with l (suc (suc k)) v h (suc zero) = refl
lengths-with l (suc (suc k)) v h (suc (suc n)) = h

length-strip : (c : Call) (a b : List Float) (from to : ℕ) (out : List Float) → length (strip c a b from to out) ≡ length out
unfolding strip
length-strip c a b from to out = length-update _ out

-- a strip changes no length
pub lengths-strip : (t : Sheet) (p : ℕ) (f : Routine) (c : Call) (from to : ℕ) (l : Arrays) → lengths (strip_done t p f c from to l) ≡ lengths l
unfolding strip_done part
lengths-strip t p f c from to l =
    let number = nat (field t p (output f)) in
    let offset = nat (field t p (output f + 1)) in
    fun_ext (lengths-with l number _
    (length-append (take offset (array l number)) _
    ∙ ap (λ (k : ℕ). length (take offset (array l number)) + k) (length-strip c _ _ from to (drop offset (array l number)))
    ∙ sym (length-append (take offset (array l number)) (drop offset (array l number)))
    ∙ ap length (take-append-drop offset (array l number))))

-- ---- an accepted record

any-member : (test : ℕ → Bool) (qs : List ℕ) (q : ℕ) → any test qs ≡ false → any (λ x. eqb x q) qs ≡ true → test q ≡ false
unfolding any
any-member test [] q h m = absurd (true≢false (sym m))
any-member test (x ∷ xs) q h m =
    by-test (eqb x q)
    (λ e. subst (λ (k : ℕ). test k ≡ false) (eqb-true x q e) (or_left (test x) _ h))
    (λ e. any-member test xs q (or_right (test x) _ h) (rw e at m))

-- whether the routine reads the matrix whose array number is word q
abbrev pub reads : Routine → ℕ → Bool
reads f q = any (λ x. eqb x q) (inputs f)

module _ (t : Sheet) (p : ℕ) (f : Routine) (ok : bad_arrays t p f ≡ false) where
  far : ℕ → Bool
  far q = negative (field t p q) || ltb 2 (nat (field t p q))

  numbers-ok : any far (output f ∷ inputs f) ≡ false
  unfolding bad_arrays far
  numbers-ok = or_left (any far (output f ∷ inputs f)) _ ok

  apart : any (λ q. eqb (nat (field t p q)) (nat (field t p (output f)))) (inputs f) ≡ false
  unfolding bad_arrays far
  apart = or_right (any far (output f ∷ inputs f)) (any (λ q. eqb (nat (field t p q)) (nat (field t p (output f)))) (inputs f)) ok

  pub output-small : nat (field t p (output f)) ≤ 2
  unfolding far any
  output-small = ltb-false 2 _ (or_right (negative (field t p (output f))) _ (or_left (far (output f)) _ numbers-ok))

  pub input-small : (q : ℕ) → reads f q ≡ true → nat (field t p q) ≤ 2
  unfolding far any
  input-small q m = ltb-false 2 _ (or_right (negative (field t p q)) _ (any-member far (inputs f) q (or_right (far (output f)) _ numbers-ok) m))

  pub input-apart : (q : ℕ) → reads f q ≡ true → nat (field t p q) ≡ nat (field t p (output f)) → ⊥
  input-apart q m = eqb-false _ _ (any-member (λ q. eqb (nat (field t p q)) (nat (field t p (output f)))) (inputs f) q apart m)

  -- a matrix that the routine reads is kept where the output's array is written
  input-kept : (q : ℕ) → reads f q ≡ true → (l : Arrays) (v : List Float) → part t p q (with_array l (nat (field t p (output f))) v) ≡ part t p q l
  unfolding part
  input-kept q m l v =
      ap (λ (xs : List Float). drop (nat (field t p (q + 1))) xs)
      (array-other l (nat (field t p (output f))) (nat (field t p q)) v output-small (input-small q m) (input-apart q m))

pub reads-A : (f : Routine) → reads f A ≡ true
unfolding inputs any
reads-A Gemm = refl
reads-A Symm = refl
reads-A Syrk = refl
reads-A Syr2k = refl
reads-A Trmm = refl
reads-A Trsm = refl

-- a routine that does not read B, or reads it where it writes
value-without-B : (c : Call) (f : Routine) (a b b' out : List Float) → c.routine ≡ f → reads f B ≡ false → value f c a (array_b c b out) ≡ value f c a (array_b c b' out)
unfolding value array_b in_place inputs any
value-without-B c Gemm a b b' out e m = absurd (true≢false m)
value-without-B c Symm a b b' out e m = absurd (true≢false m)
value-without-B c Syrk a b b' out e m = refl
value-without-B c Syr2k a b b' out e m = absurd (true≢false m)
value-without-B c Trmm a b b' out e m =
    ap (value Trmm c a) (if-true (in_place c.routine) out b (ap in_place e) ∙ sym (if-true (in_place c.routine) out b' (ap in_place e)))
value-without-B c Trsm a b b' out e m =
    ap (value Trsm c a) (if-true (in_place c.routine) out b (ap in_place e) ∙ sym (if-true (in_place c.routine) out b' (ap in_place e)))

pub strip-without-B : (c : Call) (a b b' : List Float) (from to : ℕ) (out : List Float) → reads c.routine B ≡ false → strip c a b from to out ≡ strip c a b' from to out
unfolding strip
strip-without-B c a b b' from to out m =
    ap (λ (v : EntryMap Float). update (entries (ld_output c) (only (writes c from to) v)) out) (value-without-B c c.routine a b b' out refl m)

-- ---- its strips

module _ (t : Sheet) (p : ℕ) (f : Routine) (c : Call) (l : Arrays) (ok : bad_arrays t p f ≡ false)
    (fits : nat (field t p (output f + 1)) ≤ length (array l (nat (field t p (output f)))))
    (e : c.routine ≡ f) (room : in_place c.routine ≡ true → c.m ≤ c.ldb) where
  abbrev number : ℕ
  number = nat (field t p (output f))

  abbrev offset : ℕ
  offset = nat (field t p (output f + 1))

  abbrev done : ℕ → ℕ → List Float
  done from to = strip c (part t p A l) (part t p B l) from to (part t p (output f) l)

  abbrev front : List Float
  front = take offset (array l number)

  output-part : (from mid : ℕ) → part t p (output f) (strip_done t p f c from mid l) ≡ done from mid
  unfolding part strip_done
  output-part from mid =
      ap (drop offset) (array_same l number _) ∙ drop_at front (done from mid) offset (length-take-le offset (array l number) fits)

  output-front : (from mid : ℕ) → take offset (array (strip_done t p f c from mid l) number) ≡ front
  unfolding strip_done
  output-front from mid =
      ap (take offset) (array_same l number _) ∙ take_at front (done from mid) offset (length-take-le offset (array l number) fits)

  -- two strips in turn
  strip_done-join : (from mid to : ℕ) → from ≤ mid → mid ≤ to → strip_done t p f c mid to (strip_done t p f c from mid l) ≡ strip_done t p f c from to l
  unfolding strip_done
  strip_done-join from mid to h k =
      array-twice l number _ _
      ∙ ap (with_array l number)
      (ap₂ (λ (x y : List Float). x ++ y) (output-front from mid)
      (ap₂ (λ (a o : List Float). strip c a (part t p B l') mid to o) (input-kept t p f ok A (reads-A f) l _) (output-part from mid)
      ∙ other-B
      ∙ strip-join c (part t p A l) (part t p B l) (part t p (output f) l) from mid room to h k))
    where
      l' : Arrays
      l' = strip_done t p f c from mid l

      other-B : strip c (part t p A l) (part t p B l') mid to (done from mid) ≡ strip c (part t p A l) (part t p B l) mid to (done from mid)
      other-B =
          by-test (reads f B)
          (λ m. ap (λ (b : List Float). strip c (part t p A l) b mid to (done from mid)) (input-kept t p f ok B m l _))
          (λ m. strip-without-B c _ _ _ mid to (done from mid) (ap (λ (f : Routine). reads f B) e ∙ m))

  strip_done-none : strip_done t p f c 0 0 l ≡ l
  unfolding strip_done part
  strip_done-none =
      ap (λ (xs : List Float). with_array l number (front ++ xs)) (strip-none c _ _ 0 _)
      ∙ ap (with_array l number) (take-append-drop offset (array l number)) ∙ array-self l number

  some-done : (w n : ℕ) → fold (λ l s. strip_done t p f c (s * w) (suc s * w) l) n l ≡ strip_done t p f c 0 (n * w) l
  unfolding fold
  some-done w zero = sym (ap (λ (k : ℕ). strip_done t p f c 0 k l) (zero-mul w) ∙ strip_done-none)
  some-done w (suc n) =
      ap (strip_done t p f c (n * w) (suc n * w)) (some-done w n) ∙ strip_done-join 0 (n * w) (suc n * w) (omega arith) (rw suc-mul (omega arith))

  -- The strips of the record, of any width, one after the other are its whole call.
  pub strips-are-the-record : (w : ℕ) → 0 < w → fold (λ l s. strip_done t p f c (s * w) (suc s * w) l) (strips w c) l ≡ strip_done t p f c 0 (extent c) l
  unfolding strip_done result
  strips-are-the-record w wide =
      some-done w (strips w c)
      ∙ ap (λ (xs : List Float). with_array l number (front ++ xs)) (strips-cover c (part t p A l) (part t p B l) w wide room (part t p (output f) l))

-- ---- what an accepted record satisfies

pub record Accepted (t : Sheet) (p : ℕ) (size : ℕ → ℕ) (f : Routine) : Type 0 where
  pub arrays-ok : bad_arrays t p f ≡ false
  pub offsets-ok : bad_offsets t p f size ≡ false
  pub direct-ok : refusal (field t p 18) (field t p 19) (args_of t p f size) ≡ 0

pub when-accepted : (t : Sheet) (p : ℕ) (size : ℕ → ℕ) (f : Routine) → record_refusal t p size (some f) ≡ 0 → Accepted t p size f
unfolding record_refusal
when-accepted t p size f h =
    by-test (bad_arrays t p f)
    (λ a. absurd (let z : 32 ≡ 0 = sym (if-true _ 32 _ a) ∙ h in let n : ⊥ = omega arith in n))
    (λ a.
    let h1 = sym (if-false _ 32 _ a) ∙ h in
    by-test (bad_offsets t p f size)
    (λ o. absurd (let z : 33 ≡ 0 = sym (if-true _ 33 _ o) ∙ h1 in let n : ⊥ = omega arith in n))
    (λ o. record { arrays-ok = a; offsets-ok = o; direct-ok = sym (if-false _ 33 _ o) ∙ h1 }))

pub output-fits : (t : Sheet) (p : ℕ) (l : Arrays) (f : Routine) → bad_offsets t p f (lengths l) ≡ false
    → nat (field t p (output f + 1)) ≤ length (array l (nat (field t p (output f))))
unfolding bad_offsets lengths any
output-fits t p l f h = ltb-false _ _ (or_right (negative (field t p (output f + 1))) _ (or_left _ (any _ (inputs f)) h))

pub input-fits : (t : Sheet) (p : ℕ) (size : ℕ → ℕ) (f : Routine) → bad_offsets t p f size ≡ false → (q : ℕ) → reads f q ≡ true
    → nat (field t p (q + 1)) ≤ size (nat (field t p q))
unfolding bad_offsets any
input-fits t p size f h q m =
    let bad : ℕ → Bool = λ q. negative (field t p (q + 1)) || ltb (size (nat (field t p q))) (nat (field t p (q + 1))) in
    ltb-false _ _ (or_right (negative (field t p (q + 1))) _ (any-member bad (inputs f) q (or_right (bad (output f)) _ h) m))

-- the record's call
abbrev pub record_call : Sheet → ℕ → (ℕ → ℕ) → Routine → Call
record_call t p size f = call_of (args_of t p f size)

pub record-routine : (t : Sheet) (p : ℕ) (size : ℕ → ℕ) (f : Routine) → (record_call t p size f).routine ≡ f
unfolding call_of args_of
record-routine t p size f = refl

args-routine : (t : Sheet) (p : ℕ) (size : ℕ → ℕ) (f : Routine) → (args_of t p f size).routine ≡ f
unfolding args_of
args-routine t p size f = refl

-- An accepted record comes to its whole call.
pub whole-record : (t : Sheet) (p : ℕ) (l : Arrays) (f : Routine) → record_refusal t p (lengths l) (some f) ≡ 0
    → whole (accepted t p f (record_call t p (lengths l) f)) l ≡ strip_done t p f (record_call t p (lengths l) f) 0 (extent (record_call t p (lengths l) f)) l
unfolding whole accepted width_of
whole-record t p l f h =
    let ok = when-accepted t p (lengths l) f h in
    strips-are-the-record t p f (record_call t p (lengths l) f) l ok.arrays-ok (output-fits t p l f ok.offsets-ok) (record-routine t p (lengths l) f)
    (λ k. room-in-place _ _ (args_of t p f (lengths l)) ok.direct-ok (ap in_place (args-routine t p (lengths l) f ∙ sym (record-routine t p (lengths l) f)) ∙ k)) (width (field t p 18)) (strip-width _ _ _ ok.direct-ok).0

-- ---- what the machine's laws ask of the records

work-is : {M : Type 0} (n n' : ℕ) (f f' : ℕ → M → M) (z z' : M → Bool) → work n f z ≡ work n' f' z' → (n ≡ n') × (f ≡ f') × (z ≡ z')
work-is n n' f f' z z' e = (cc, cc, cc)

refuse-works : {M : Type 0} (e n : ℕ) (f : ℕ → M → M) (z : M → Bool) → refuse e ≡ work n f z → ⊥
refuse-works e n f z h = let b : ◌≡◌ {A = ℕ} 0 1 = cc in omega arith

-- by whether a record is accepted
module _ (t : Sheet) (p : ℕ) (size : ℕ → ℕ) (n : ℕ) (g : ℕ → Arrays → Arrays) (z : Arrays → Bool) where
  pub record Works (f : Routine) : Type 0 where
    pub accepts : record_refusal t p size (some f) ≡ 0
    pub strips-are : strips (width_of t p) (record_call t p size f) ≡ n
    pub update-is : (λ s l. strip_done t p f (record_call t p size f) (s * width_of t p) (suc s * width_of t p) l) ≡ g
    pub singular-is : (λ l. not (negative (zero_of f (record_call t p size f) (part t p A l)))) ≡ z

  yes : (f : Routine) → eqb (record_refusal t p size (some f)) 0 ≡ true → act_by t p size (some f) ≡ work n g z → Works f
  unfolding act_by accepted
  yes f e h =
      let q = work-is _ _ _ _ _ _ (sym (if-true _ _ _ e) ∙ h) in
      record { accepts = eqb-true _ 0 e; strips-are = q.0; update-is = q.1; singular-is = q.2 }

  works : (o : Option Routine) → act_by t p size o ≡ work n g z → (f : Routine) × (o ≡ some f) × Works f
  unfolding act_by accepted
  works none h = absurd (refuse-works 31 n g z h)
  works (some f) h = (f, refl, by-test (eqb (record_refusal t p size (some f)) 0) (λ e. yes f e h) (λ e. absurd (refuse-works _ n g z (sym (if-false _ _ _ e) ∙ h))))

pub act-stable : (t : Sheet) → Stable (act t)
unfolding act
act-stable t p l n g z s h =
    let w = works t p (lengths l) n g z (routine_of (field t p 0)) h in
    ap (λ (size : ℕ → ℕ). act_by t p size (routine_of (field t p 0)))
    (ap (λ (u : ℕ → Arrays → Arrays). lengths (u s l)) (sym w.2.update-is) ∙ lengths-strip t p w.0 _ _ _ l)
    ∙ h

pub act-positive : (t : Sheet) → Positive (act t)
unfolding act width_of
act-positive t p l n g z h =
    let w = works t p (lengths l) n g z (routine_of (field t p 0)) h in
    let ok = when-accepted t p (lengths l) w.0 w.2.accepts in
    subst (λ (k : ℕ). 0 < k) w.2.strips-are (strips-positive _ _ (strip-width _ _ _ ok.direct-ok).0)

-- Every strip of a record reports what its call reports: A is in another array than the one that the strips write.
pub strip-reports : (t : Sheet) (p : ℕ) (f : Routine) (c : Call) (l : Arrays) (from to : ℕ) → bad_arrays t p f ≡ false
    → zero_of f c (part t p A (strip_done t p f c from to l)) ≡ zero_of f c (part t p A l)
unfolding strip_done
strip-reports t p f c l from to ok = ap (zero_of f c) (input-kept t p f ok A (reads-A f) l _)

pub act-steady : (t : Sheet) → Steady (act t)
unfolding act
act-steady t p l n g z s h =
    let w = works t p (lengths l) n g z (routine_of (field t p 0)) h in
    let c = record_call t p (lengths l) w.0 in
    let ok = when-accepted t p (lengths l) w.0 w.2.accepts in
    let same = strip-reports t p w.0 c l (s * width_of t p) (suc s * width_of t p) ok.arrays-ok in
    (λ i. sym w.2.singular-is i (sym w.2.update-is i s l)) ∙ ap (λ (x : ℤ). not (negative x)) same ∙ (λ i. w.2.singular-is i l)
