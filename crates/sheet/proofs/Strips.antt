-- A strip of a record, on the parts of the arrays that are lent for it: it is that of the definitions, and the parts fit.
-- Assumes nothing.
use Prim.Native.Nat.{ℕ, suc, ◌+◌, ◌-◌, ◌*◌, ◌≤◌, ◌<◌, min}
use mathlib.Core.Path.{◌≡◌, refl, sym, ap, subst, ◌∙◌}
use mathlib.Core.Bool.{true, false}
use mathlib.Core.List.{List, ◌++◌}
use native.Mathlib.Nat.{suc-mul}
use native.Mathlib.Omega.{arith}
use lib.Dec.{ltb}
use lib.ListN.{length, take, drop}
use lib.Ieee.{Float}
use borrow.Author.Tests.{ltb-true, ltb-false}
use Rattle.std.specs.Prelude.{if◌then◌else◌}
use Rattle.arrays.proofs.Tests.{if-true, if-false, by-test}
use Rattle.definitions.specs.Storage.{needed}
use Rattle.definitions.specs.Call.{in_place, shape_b, shape_c, extent}
use Rattle.definitions.specs.Element.{strip, zero_of}
use Rattle.definitions.specs.Check.{nat, checked}
use Rattle.definitions.specs.Sheet.{Sheet, Arrays, A, B, C, field, inputs, any, output, array, with_array, lengths, part, part_length, args_of, strip_done}
use Rattle.definitions.specs.declared.Routine.{Routine}
use Rattle.definitions.specs.declared.Routine.TheVariants.{Gemm, Symm, Syrk, Syr2k, Trmm, Trsm}
use Rattle.definitions.specs.declared.Call.{Call}
use Rattle.definitions.specs.declared.Checked.TheVariants.{Ready}
use Rattle.definitions.proofs.Fits.{Fits, Room, ready-fits}
use Rattle.definitions.proofs.CheckLaws.{room-in-place}
use Rattle.definitions.proofs.Strips.{strip-clipped}
use Rattle.definitions.proofs.Records.{reads, reads-A, output-small, input-small, input-apart, input-fits, output-fits, strip-without-B, Accepted, record_call, record-routine}
use Rattle.definitions.proofs.Records.{array_same, array-twice, array-other}
use Rattle.strips.specs.Lengths.{FitsArrays}
use Rattle.records.specs.Judgement.{second, part_at, matrices_of}
use Rattle.records.specs.declared.Matrices.{Matrices}
use Rattle.sheet.specs.Lent.{strip_at, zero_at, Lends}

-- ---- what is lent, and what comes back

-- `out` is the output's array; the others are those of l
module _ (call : Call) (m : Matrices) (n : ℕ) (is : m.out.array ≡ n) (l : Arrays) (out : List Float) (h : Lends call m (with_array l n out)) where
  out-is : array (with_array l n out) m.out.array ≡ out
  out-is = ap (array (with_array l n out)) is ∙ array_same l n out

  a-is : array (with_array l n out) m.a.array ≡ array l m.a.array
  a-is = array-other l n m.a.array out (omega (arith, h.out-array)) h.a-array (λ e. h.a-apart (e ∙ sym is))

  b-is : array (with_array l n out) m.b.array ≡ array l m.b.array
  b-is = array-other l n m.b.array out (omega (arith, h.out-array)) h.b-array (λ e. h.b-apart (e ∙ sym is))

  pub lent_inside : (m.out.offset ≤ length out) × (m.a.offset ≤ length (array l m.a.array)) × (m.b.offset ≤ length (array l m.b.array))
  lent_inside = (omega (arith, h.out-offset, ap length out-is), omega (arith, h.a-offset, ap length a-is), omega (arith, h.b-offset, ap length b-is))

  pub lent_fits : FitsArrays call (length (array l m.a.array) - m.a.offset) (length (array l m.b.array) - m.b.offset) (length out - m.out.offset)
  lent_fits =
      subst (λ (xs : List Float). FitsArrays call (length xs - m.a.offset) (length (array l m.b.array) - m.b.offset) (length out - m.out.offset)) a-is
      (subst (λ (ys : List Float). FitsArrays call (length (array (with_array l n out) m.a.array) - m.a.offset) (length ys - m.b.offset) (length out - m.out.offset)) b-is
      (subst (λ (zs : List Float). FitsArrays call (length (array (with_array l n out) m.a.array) - m.a.offset) (length (array (with_array l n out) m.b.array) - m.b.offset) (length zs - m.out.offset)) out-is h.fits))

  pub comes_back : (from to : ℕ) (back : List Float)
      → back ≡ take m.out.offset out ++ strip call (drop m.a.offset (array l m.a.array)) (drop m.b.offset (array l m.b.array)) from to (drop m.out.offset out)
      → with_array l n back ≡ strip_at call m from to (with_array l n out)
  unfolding strip_at
  comes_back from to back e =
      ap (with_array l n) e ∙ sym (array-twice l n out _)
      ∙ sym (λ i. with_array (with_array l n out) (is i) (take m.out.offset (out-is i) ++ strip call (drop m.a.offset (a-is i)) (drop m.b.offset (b-is i)) from to (drop m.out.offset (out-is i))))

  pub report_is : zero_of call.routine call (drop m.a.offset (array l m.a.array)) ≡ zero_at call m.a (with_array l n out)
  unfolding zero_at
  report_is = ap (λ (xs : List Float). zero_of call.routine call (drop m.a.offset xs)) (sym a-is)

-- ---- the record's matrices

-- a call's fit goes by the lengths of the matrices that the routine has
refit : (f : Routine) (c : Call) (la lb lc lb' lc' : ℕ) → Fits f c la lb lc → (Room lb c.ldb (shape_b f c) → Room lb' c.ldb (shape_b f c))
    → (Room lc c.ldc (shape_c f c) → Room lc' c.ldc (shape_c f c)) → Fits f c la lb' lc'
refit f c la lb lc lb' lc' h toB to_c = record {
  routine-is = h.routine-is;
  some-rows = h.some-rows;
  some-columns = h.some-columns;
  square = h.square;
  ld-a = h.ld-a;
  ld-b = h.ld-b;
  ld-c = h.ld-c;
  room-a = h.room-a;
  room-b = λ s. toB (h.room-b s);
  room-written-b = λ s. toB (h.room-written-b s);
  room-c = to_c h.room-c;
}

fits-parts : (f : Routine) (c : Call) (la lb lc lb' lo : ℕ) → Fits f c la lb lc → (reads f B ≡ true → lb' ≡ lb) → (in_place f ≡ true → lo ≡ lb) → (in_place f ≡ false → lo ≡ lc)
    → Fits f c la (if in_place f then lo else lb') lo
unfolding inputs any in_place shape_b shape_c needed
fits-parts Gemm c la lb lc lb' lo h b o d = refit Gemm c la lb lc lb' lo h (λ r. omega (arith, r, b refl)) (λ r. omega (arith, r, d refl))
fits-parts Symm c la lb lc lb' lo h b o d = refit Symm c la lb lc lb' lo h (λ r. omega (arith, r, b refl)) (λ r. omega (arith, r, d refl))
fits-parts Syrk c la lb lc lb' lo h b o d = refit Syrk c la lb lc lb' lo h (λ r. omega arith) (λ r. omega (arith, r, d refl))
fits-parts Syr2k c la lb lc lb' lo h b o d = refit Syr2k c la lb lc lb' lo h (λ r. omega (arith, r, b refl)) (λ r. omega (arith, r, d refl))
fits-parts Trmm c la lb lc lb' lo h b o d = refit Trmm c la lb lc lo lo h (λ r. omega (arith, r, o refl)) (λ r. omega arith)
fits-parts Trsm c la lb lc lb' lo h b o d = refit Trsm c la lb lc lo lo h (λ r. omega (arith, r, o refl)) (λ r. omega arith)

second-B : (f : Routine) → reads f B ≡ true → second f ≡ B
unfolding second
second-B f h = if-true (reads f B) B A h

-- the routine reads A and the matrix that is lent as B
reads_second : (f : Routine) → reads f (second f) ≡ true
unfolding second inputs any
reads_second Gemm = refl
reads_second Symm = refl
reads_second Syrk = refl
reads_second Syr2k = refl
reads_second Trmm = refl
reads_second Trsm = refl

output-is : (f : Routine) → ((in_place f ≡ true) → output f ≡ B) × ((in_place f ≡ false) → output f ≡ C)
unfolding output
output-is f = (λ h. if-true (in_place f) B C h, λ h. if-false (in_place f) B C h)

module _ (t : Sheet) (p : ℕ) (l : Arrays) (f : Routine) (c : Call) (ok : Accepted t p (lengths l) f) (e : c ≡ record_call t p (lengths l) f)
    (ready : checked (field t p 18) (field t p 19) (args_of t p f (lengths l)) ≡ Ready c) where
  abbrev lo : ℕ
  lo = length (array l (nat (field t p (output f)))) - nat (field t p (output f + 1))

  abbrev lb : ℕ
  lb = length (array l (nat (field t p (second f)))) - nat (field t p (second f + 1))

  routine-is : c.routine ≡ f
  routine-is = ap (λ (c : Call). c.routine) e ∙ record-routine t p (lengths l) f

  part_length_lem : (q q' : ℕ) → q ≡ q' → length (array l (nat (field t p q))) - nat (field t p (q + 1)) ≡ part_length t p q' (lengths l)
  unfolding part_length lengths
  part_length_lem q q' e = ap (λ (q : ℕ). length (array l (nat (field t p q))) - nat (field t p (q + 1))) e

  fits : FitsArrays c (length (array l (nat (field t p A))) - nat (field t p (A + 1))) lb lo
  unfolding args_of
  fits =
      let h = ready-fits (field t p 18) (field t p 19) (args_of t p f (lengths l)) c ready in
      subst (λ (la : ℕ). Fits c.routine c la (if in_place c.routine then lo else lb) lo) (sym (part_length_lem A A refl))
      (fits-parts c.routine c _ _ _ lb lo h
      (λ r. part_length_lem (second f) B (second-B f (ap (λ (f : Routine). reads f B) (sym routine-is) ∙ r)))
      (λ r. part_length_lem (output f) B ((output-is f).0 (ap in_place (sym routine-is) ∙ r)))
      (λ r. part_length_lem (output f) C ((output-is f).1 (ap in_place (sym routine-is) ∙ r))))

  pub record-lends : Lends c (matrices_of t p f) l
  unfolding lengths matrices_of part_at
  record-lends = record {
    out-array = output-small t p f ok.arrays-ok;
    a-array = input-small t p f ok.arrays-ok A (reads-A f);
    b-array = input-small t p f ok.arrays-ok (second f) (reads_second f);
    a-apart = input-apart t p f ok.arrays-ok A (reads-A f);
    b-apart = input-apart t p f ok.arrays-ok (second f) (reads_second f);
    out-offset = output-fits t p l f ok.offsets-ok;
    a-offset = input-fits t p (lengths l) f ok.offsets-ok A (reads-A f);
    b-offset = input-fits t p (lengths l) f ok.offsets-ok (second f) (reads_second f);
    fits = fits;
  }

  -- the matrix that is lent as B stands for B
  other-B : (from to : ℕ) → strip c (part t p A l) (part t p (second f) l) from to (part t p (output f) l) ≡ strip c (part t p A l) (part t p B l) from to (part t p (output f) l)
  other-B from to =
      by-test (reads f B)
      (λ m. ap (λ (q : ℕ). strip c (part t p A l) (part t p q l) from to (part t p (output f) l)) (second-B f m))
      (λ m. strip-without-B c _ _ _ from to _ (ap (λ (f : Routine). reads f B) routine-is ∙ m))

  room : in_place c.routine ≡ true → c.m ≤ c.ldb
  unfolding args_of
  room h =
      subst (λ (c : Call). c.m ≤ c.ldb) (sym e)
      (room-in-place (field t p 18) (field t p 19) (args_of t p f (lengths l)) ok.direct-ok (ap in_place (sym routine-is) ∙ h))

  module _ (s w : ℕ) (inside : s * w < extent c) where
    -- the strip ends at its width or at the extent
    ends : (a b out : List Float) → strip c a b (s * w) (s * w + min w (extent c - s * w)) out ≡ strip c a b (s * w) (suc s * w) out
    ends a b out =
        by-test (ltb w (extent c - s * w))
        (λ h. ap (λ (n : ℕ). strip c a b (s * w) n out) (omega (arith, ltb-true w (extent c - s * w) h, suc-mul s w)))
        (λ h.
        ap (λ (n : ℕ). strip c a b (s * w) n out) (omega (arith, inside, ltb-false w (extent c - s * w) h))
        ∙ strip-clipped c a b (s * w) (suc s * w) out room (omega (arith, inside)) (omega (arith, ltb-false w (extent c - s * w) h, suc-mul s w)))

    pub record-strip : strip_at c (matrices_of t p f) (s * w) (s * w + min w (extent c - s * w)) l ≡ strip_done t p f c (s * w) (suc s * w) l
    unfolding strip_at strip_done part matrices_of part_at
    record-strip =
        let number = nat (field t p (output f)) in
        let offset = nat (field t p (output f + 1)) in
        ap (λ (ys : List Float). with_array l number (take offset (array l number) ++ ys)) (other-B _ _ ∙ ends _ _ _)

pub record-zero : (t : Sheet) (p : ℕ) (l : Arrays) (c : Call) → zero_at c (matrices_of t p c.routine).a l ≡ zero_of c.routine c (part t p A l)
unfolding zero_at part matrices_of part_at
record-zero t p l c = refl
