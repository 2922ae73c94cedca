-- Demand 3, for two sheets: alike except in strip widths and block sizes, each 0 to 64, they have the same arrays and answers at the finish, and report the same.
-- Assumes nothing.
use Prim.Native.Nat.{ℕ, ◌+◌, ◌-◌, ◌*◌, ◌<◌}
use mathlib.Core.Path.{◌≡◌, refl, sym, ap, ap₂, subst, ◌∙◌}
use mathlib.Core.Bool.{Bool, true, false, not, ◌&&◌, ◌||◌}
use mathlib.Core.List.{List, [], ◌∷◌, ◌++◌}
use mathlib.Core.Option.{Option, none, some}
use native.Mathlib.Omega.{arith}
use lib.Dec.{ltb, eqb}
use lib.IntN.{ℤ, pos}
use lib.ListN.{length, take, drop, get_or}
use lib.Ieee.{Float, nan}
use borrow.Author.Tests.{eqb-true, eq-eqb, ltb-true}
use Rattle.std.specs.Prelude.{if◌then◌else◌}
use Rattle.arrays.specs.Search as Search
use Rattle.arrays.proofs.Tests.{and_left, and_right, if-true, if-false, by-test}
use Rattle.definitions.specs.Number.{scalar}
use Rattle.definitions.specs.Call.{in_place, extent}
use Rattle.definitions.specs.Element.{strip, zero_of}
use Rattle.definitions.specs.Check.{nat, negative, places, arrays, first_bad, bad_width, refusal, call_of}
use Rattle.definitions.specs.Machine.{Act, refuse, iterate, reported}
use Rattle.definitions.specs.Sheet.{Sheet, Arrays, A, B, C, records, sound, field, output, inputs, any, alpha_of, beta_of, array, with_array, lengths, part, part_length, bad_arrays, bad_offsets, args_of, record_refusal, routine_of, strip_done, accepted, act_by, act}
use Rattle.definitions.specs.Run.{Machine, begin, after, zero_reported, too_short, Ran, ran_to, runs, last, first_zero, sum}
use Rattle.definitions.specs.declared.Routine.{Routine}
use Rattle.definitions.specs.declared.Routine.TheVariants.{Gemm, Symm, Syrk, Syr2k, Trmm, Trsm}
use Rattle.definitions.specs.declared.Args.{Args}
use Rattle.definitions.specs.declared.Call.{Call}
use Rattle.definitions.proofs.Answers.{refusal-allowed}
use Rattle.definitions.proofs.MachineLaws.{whole, answer, had, SameRecords, same-finish, same-report}
use Rattle.definitions.proofs.Records.{record_call, whole-record, act-stable, act-steady, act-positive}
use Rattle.definitions.proofs.Runs.{list-of-runs}

-- Two sheets that are alike except in strip widths and block sizes. (What stands before the first record is not read, so it may differ too.)
pub record Alike (t u : Sheet) : Type 0 where
  pub counts : records t ≡ records u
  pub scalars : t.scalars ≡ u.scalars
  pub words : (p q : ℕ) → p < records t → q < 18 → field t p q ≡ field u p q
  pub widths : (p : ℕ) → p < records t → (bad_width (field t p 18) ≡ false) × (bad_width (field u p 18) ≡ false)
  pub blocks : (p : ℕ) → p < records t → (bad_width (field t p 19) ≡ false) × (bad_width (field u p 19) ≡ false)

-- the words of array numbers and offsets come before w and r
abbrev near : List ℕ → Bool
near [] = true
near (q ∷ qs) = ltb (q + 1) 18 && near qs

same-any : (g h : ℕ → Bool) (qs : List ℕ) → near qs ≡ true → ((q : ℕ) → q + 1 < 18 → g q ≡ h q) → any g qs ≡ any h qs
unfolding any
same-any g h [] k e = refl
same-any g h (q ∷ qs) k e =
    ap₂ (λ (x y : Bool). x || y) (e q (ltb-true _ _ (and_left (ltb (q + 1) 18) _ k))) (same-any g h qs (and_right (ltb (q + 1) 18) _ k) e)

matrices-near : (f : Routine) → near (output f ∷ inputs f) ≡ true
unfolding output inputs in_place
matrices-near Gemm = refl
matrices-near Symm = refl
matrices-near Syrk = refl
matrices-near Syr2k = refl
matrices-near Trmm = refl
matrices-near Trsm = refl

-- what a refused and an accepted record come to
refused-keeps : (e : ℕ) (l : Arrays) → whole (refuse e) l ≡ l
unfolding whole
refused-keeps e l = refl

refused-answers : (e : ℕ) → answer {M = Arrays} (refuse e) ≡ e
unfolding answer
refused-answers e = refl

accepted-answers : (t : Sheet) (p : ℕ) (f : Routine) (c : Call) → answer (accepted t p f c) ≡ 0
unfolding answer accepted
accepted-answers t p f c = refl

refused-has : (e : ℕ) (l : Arrays) → had (refuse e) l ≡ false
unfolding had
refused-has e l = refl

accepted-has : (t : Sheet) (p : ℕ) (f : Routine) (c : Call) (l : Arrays) → had (accepted t p f c) l ≡ not (negative (zero_of f c (part t p A l)))
unfolding had accepted
accepted-has t p f c l = refl

module _ (t u : Sheet) (k : Alike t u) (p : ℕ) (h : p < records t) where
  same : (q : ℕ) → q < 18 → field t p q ≡ field u p q
  same q b = k.words p q h b

  output-near : (f : Routine) → output f + 1 < 18
  output-near f = ltb-true _ _ (and_left (ltb (output f + 1) 18) (near (inputs f)) (matrices-near f))

  inputs-near : (f : Routine) → near (inputs f) ≡ true
  inputs-near f = and_right (ltb (output f + 1) 18) (near (inputs f)) (matrices-near f)

  same_args : (f : Routine) (size : ℕ → ℕ) → args_of t p f size ≡ args_of u p f size
  unfolding args_of part_length alpha_of beta_of
  same_args f size =
      let e : (q : ℕ) → q < 18 → field t p q ≡ field u p q = same in
      let l : (q : ℕ) → q + 1 < 18 → size (nat (field t p q)) - nat (field t p (q + 1)) ≡ size (nat (field u p q)) - nat (field u p (q + 1)) =
      λ q b. ap₂ (λ (x y : ℤ). size (nat x) - nat y) (e q (omega arith)) (e (q + 1) b) in
      λ i. record {
        routine = f;
        side = e 1 (omega arith) i;
        uplo = e 2 (omega arith) i;
        transa = e 3 (omega arith) i;
        transb = e 4 (omega arith) i;
        diag = e 5 (omega arith) i;
        m = e 6 (omega arith) i;
        n = e 7 (omega arith) i;
        k = e 8 (omega arith) i;
        alpha = scalar (get_or (k.scalars i) (2 * p) nan);
        beta = scalar (get_or (k.scalars i) (2 * p + 1) nan);
        lda = e (A + 2) (omega arith) i;
        ldb = e (B + 2) (omega arith) i;
        ldc = e (C + 2) (omega arith) i;
        lena = l A (omega arith) i;
        lenb = l B (omega arith) i;
        lenc = l C (omega arith) i;
      }

  same-arrays : (f : Routine) → bad_arrays t p f ≡ bad_arrays u p f
  unfolding bad_arrays
  same-arrays f =
      ap₂ (λ (x y : Bool). x || y)
      (same-any _ _ (output f ∷ inputs f) (matrices-near f) (λ q b. ap (λ (z : ℤ). negative z || ltb 2 (nat z)) (same q (omega arith))))
      (same-any _ _ (inputs f) (inputs-near f)
      (λ q b. ap₂ (λ (x y : ℤ). eqb (nat x) (nat y)) (same q (omega arith)) (same (output f) (omega (arith, output-near f)))))

  same-offsets : (f : Routine) (size : ℕ → ℕ) → bad_offsets t p f size ≡ bad_offsets u p f size
  unfolding bad_offsets
  same-offsets f size =
      same-any _ _ (output f ∷ inputs f) (matrices-near f)
      (λ q b. ap₂ (λ (o x : ℤ). negative o || ltb (size (nat x)) (nat o)) (same (q + 1) b) (same q (omega arith)))

  -- both are refused with the same number, or both are accepted
  same-refusal : (size : ℕ → ℕ) (o : Option Routine) → record_refusal t p size o ≡ record_refusal u p size o
  unfolding record_refusal
  same-refusal size none = refl
  same-refusal size (some f) =
      let x = same-arrays f in
      let y = same-offsets f size in
      let z : refusal (field t p 18) (field t p 19) (args_of t p f size) ≡ refusal (field u p 18) (field u p 19) (args_of u p f size) =
      refusal-allowed _ _ _ (k.widths p h).0 (k.blocks p h).0
      ∙ ap (λ (g : Args). first_bad g (places g.routine ++ arrays g.routine)) (same_args f size)
      ∙ sym (refusal-allowed _ _ _ (k.widths p h).1 (k.blocks p h).1) in
      λ i. if x i then 32 else if y i then 33 else z i

  same-part : (q : ℕ) → q + 1 < 18 → (l : Arrays) → part t p q l ≡ part u p q l
  unfolding part
  same-part q b l = ap₂ (λ (x o : ℤ). drop (nat o) (array l (nat x))) (same q (omega arith)) (same (q + 1) b)

  same-done : (f : Routine) (c : Call) (from to : ℕ) (l : Arrays) → strip_done t p f c from to l ≡ strip_done u p f c from to l
  unfolding strip_done
  same-done f c from to l =
      let n = same (output f) (omega (arith, output-near f)) in
      let o = same (output f + 1) (output-near f) in
      let a = same-part A (omega arith) l in
      let b = same-part B (omega arith) l in
      let x = same-part (output f) (output-near f) l in
      λ i. with_array l (nat (n i)) (take (nat (o i)) (array l (nat (n i))) ++ strip c (a i) (b i) from to (x i))

  same-act : (l : Arrays) (o : Option Routine) → (whole (act_by t p (lengths l) o) l ≡ whole (act_by u p (lengths l) o) l) × (answer (act_by t p (lengths l) o) ≡ answer (act_by u p (lengths l) o))
      × (had (act_by t p (lengths l) o) l ≡ had (act_by u p (lengths l) o) l)
  unfolding act_by
  same-act l none = (refl, refl, refl)
  same-act l (some f) =
      by-test (eqb (record_refusal t p (lengths l) (some f)) 0)
      (λ e.
      let et = eqb-true _ 0 e in
      let eu = sym same_number ∙ et in
      let yt = if-true _ _ (refuse (record_refusal t p (lengths l) (some f))) e in
      let yu = if-true _ _ (refuse (record_refusal u p (lengths l) (some f))) (eq-eqb _ 0 eu) in (
        ap (λ (a : Act Arrays). whole a l) yt ∙ whole-record t p l f et
            ∙ same-done f (record_call t p (lengths l) f) 0 _ l
            ∙ ap (λ (g : Args). strip_done u p f (call_of g) 0 (extent (call_of g)) l) (same_args f (lengths l))
            ∙ sym (ap (λ (a : Act Arrays). whole a l) yu ∙ whole-record u p l f eu),
        ap answer yt ∙ accepted-answers t p f _ ∙ sym (ap answer yu ∙ accepted-answers u p f _),
        ap (λ (a : Act Arrays). had a l) yt ∙ accepted-has t p f _ l
            ∙ ap₂ (λ (g : Args) (a : List Float). not (negative (zero_of f (call_of g) a))) (same_args f (lengths l)) (same-part A (omega arith) l)
            ∙ sym (ap (λ (a : Act Arrays). had a l) yu ∙ accepted-has u p f _ l),
      ))
      (λ e.
      let nt = if-false _ (accepted t p f (record_call t p (lengths l) f)) _ e in
      let nu = if-false _ (accepted u p f (record_call u p (lengths l) f)) _ (sym (ap (λ (n : ℕ). eqb n 0) same_number) ∙ e) in (
        ap (λ (a : Act Arrays). whole a l) nt ∙ refused-keeps _ l ∙ sym (ap (λ (a : Act Arrays). whole a l) nu ∙ refused-keeps _ l),
        ap answer nt ∙ refused-answers _ ∙ same_number ∙ sym (ap answer nu ∙ refused-answers _),
        ap (λ (a : Act Arrays). had a l) nt ∙ refused-has _ l ∙ sym (ap (λ (a : Act Arrays). had a l) nu ∙ refused-has _ l),
      ))
    where
      same_number : record_refusal t p (lengths l) (some f) ≡ record_refusal u p (lengths l) (some f)
      same_number = same-refusal (lengths l) (some f)

same-records : (t u : Sheet) → Alike t u → SameRecords (records t) (act t) (act u)
unfolding act
same-records t u k p h l =
    let e : routine_of (field t p 0) ≡ routine_of (field u p 0) = ap routine_of (k.words p 0 h (omega arith)) in
    let s = same-act t u k p h l (routine_of (field t p 0)) in (
      s.0 ∙ ap (λ (o : Option Routine). whole (act_by u p (lengths l) o) l) e,
      s.1 ∙ ap (λ (o : Option Routine). answer (act_by u p (lengths l) o)) e,
      s.2 ∙ ap (λ (o : Option Routine). had (act_by u p (lengths l) o) l) e,
    )

-- The plain machines of two alike sheets, begun on the same arrays and answers at (0, 0), have the same arrays and answers at the finish, and the same report.
pub alike-machines : (t u : Sheet) → Alike t u → (l : Arrays) (answers : List ℤ) (n n' : ℕ)
    → (after t n (begin l answers 0 0)).p ≡ records t → (after u n' (begin l answers 0 0)).p ≡ records u
    → ((after t n (begin l answers 0 0)).arrays ≡ (after u n' (begin l answers 0 0)).arrays) × ((after t n (begin l answers 0 0)).answers ≡ (after u n' (begin l answers 0 0)).answers)
    × (zero_reported t n (begin l answers 0 0) ≡ zero_reported u n' (begin l answers 0 0))
unfolding after begin zero_reported
alike-machines t u k l answers n n' h h' =
    let st = begin l answers 0 0 in
    let to = subst (λ (m : ℕ). (iterate m (act u) n' st).p ≡ m) (sym k.counts) h' in
    let e : iterate (records t) (act t) n st ≡ iterate (records u) (act u) n' st =
    same-finish (records t) (act t) (act u) (act-stable t) (act-stable u) (act-steady t) (act-steady u) (act-positive t) (act-positive u) (same-records t u k) l answers n n' h to
    ∙ ap (λ (m : ℕ). iterate m (act u) n' st) k.counts in
    let z =
    same-report (records t) (act t) (act u) (act-stable t) (act-stable u) (act-steady t) (act-steady u) (act-positive t) (act-positive u) (same-records t u k) l answers n n' h to
    ∙ ap (λ (m : ℕ). reported m (act u) n' st) k.counts in
    (ap (λ (s : Machine). s.arrays) e, ap (λ (s : Machine). s.answers) e, z)

same-long : (t u : Sheet) → Alike t u → (answers : List ℤ) → too_short u answers ≡ too_short t answers
unfolding too_short
same-long t u k answers =
    ap₂ (λ (n : ℕ) (xs : List Float). ltb (length answers) n || ltb (length xs) (2 * n)) (sym k.counts) (sym k.scalars)

-- The same for lists of runs, whatever the budgets of either, that finish: their cursors are at the count.
pub alike_runs : (t u : Sheet) → sound t ≡ true → sound u ≡ true → Alike t u → (l : Arrays) (answers : List ℤ) → too_short t answers ≡ false → (bs cs : List ℕ)
    → let r : Ran = ran_to (begin l answers 0 0) 0 Search.none in
    (last r (runs t bs r)).end.p ≡ pos (records t) → (last r (runs u cs r)).end.p ≡ pos (records u)
    → ((last r (runs t bs r)).arrays ≡ (last r (runs u cs r)).arrays) × ((last r (runs t bs r)).answers ≡ (last r (runs u cs r)).answers)
    × (first_zero (runs t bs r) ≡ first_zero (runs u cs r))
alike_runs t u st su k l answers long bs cs h h' =
    let x = list-of-runs t st bs l answers long in
    let y = list-of-runs u su cs l answers (same-long t u k answers ∙ long) in
    let m = alike-machines t u k l answers (sum bs) (sum cs) (pos-is (sym x.cursor-p ∙ h)) (pos-is (sym y.cursor-p ∙ h')) in
    (x.arrays ∙ m.0 ∙ sym y.arrays, x.answers ∙ m.1 ∙ sym y.answers, x.first-zero ∙ m.2 ∙ sym y.first-zero)
  where
    pos-is : {a b : ℕ} → pos a ≡ pos b → a ≡ b
    pos-is e = cc
