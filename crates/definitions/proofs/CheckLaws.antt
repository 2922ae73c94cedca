-- What the answer of the argument check says, and what an accepted call is known to satisfy: allowed widths, and no bad argument.
-- Assumes nothing.
use mathlib.Core.Path.{◌≡◌, refl, sym, ap, subst, ◌∙◌}
use mathlib.Core.Bool.{Bool, true, false, not, ◌&&◌, ◌||◌, true≢false}
use mathlib.Core.List.{List, [], ◌∷◌, ◌++◌}
use Prim.Native.Nat.{ℕ, zero, suc, ◌≤◌, ◌<◌}
use native.Mathlib.Nat.{le_trans, le-max_right}
use native.Mathlib.Omega.{arith}
use lib.Dec.{leb, eqb, eqb-suc-zero}
use lib.IntN.{ℤ, pos, negsuc}
use lib.ListN.{get_or}
use borrow.Author.Tests.{eqb-true, eqb-false, leb-true, ltb-false}
use Rattle.std.specs.Prelude.{if◌then◌else◌}
use Rattle.arrays.proofs.Tests.{and_left, and_right, or_left, or_right}
use Rattle.definitions.specs.Call.{in_place, shape_b}
use Rattle.definitions.specs.Check.{Argument, side, uplo, transa, transb, diag, size-m, size-n, size-k, ld-A, ld-B, ld-C, array-A, array-B, array-C, Place, places, arrays, nat, bad_ld, bad, bad_with, first_bad, bad_width, width, refusal, call_of, idle, checked}
use Rattle.definitions.specs.declared.Routine.{Routine}
use Rattle.definitions.specs.declared.Routine.TheVariants.{Gemm, Symm, Syrk, Syr2k, Trmm, Trsm}
use Rattle.definitions.specs.declared.Args.{Args}
use Rattle.definitions.specs.declared.Call.{Call}
use Rattle.definitions.specs.declared.Shape.{Shape}
use Rattle.definitions.specs.declared.Checked.{Checked}
use Rattle.definitions.specs.declared.Checked.TheVariants.{Refused, Idle, Ready}

clash : ◌≡◌ {A = ℕ} 0 1 → ⊥
clash z = omega arith

pub above_zero : (n : ℕ) → eqb n 0 ≡ false → 0 < n
above_zero zero h = absurd (eqb-false 0 0 h refl)
above_zero (suc n) h = omega arith

-- ---- the answer

abbrev answer : ℕ → Bool → Call → Checked
answer e i c = if eqb e 0 then (if i then Idle else Ready c) else Refused e

ready-answer : (e : ℕ) (i : Bool) (c k : Call) → answer e i c ≡ Ready k → (e ≡ 0) × (i ≡ false) × (k ≡ c)
ready-answer zero true c k h = absurd (clash cc)
ready-answer zero false c k h = (refl, refl, cc)
ready-answer (suc e) i c k h = let q : Refused (suc e) ≡ Ready k = simp (eqb-suc-zero e) at h in absurd (clash cc)

idle-answer : (e : ℕ) (i : Bool) (c : Call) → answer e i c ≡ Idle → (e ≡ 0) × (i ≡ true)
idle-answer zero true c h = (refl, refl)
idle-answer zero false c h = absurd (clash cc)
idle-answer (suc e) i c h = let q : Refused (suc e) ≡ Idle = simp (eqb-suc-zero e) at h in absurd (clash cc)

refused-answer : (e : ℕ) (i : Bool) (c : Call) (n : ℕ) → answer e i c ≡ Refused n → (n ≡ e) × (0 < n)
refused-answer zero true c n h = absurd (clash cc)
refused-answer zero false c n h = absurd (clash cc)
refused-answer (suc e) i c n h =
    let q : Refused (suc e) ≡ Refused n = simp (eqb-suc-zero e) at h in
    let s : n ≡ suc e = cc in
    (s, omega arith)

-- Every place of the list is from 1 to 30.
placed : List Place → Bool
placed [] = true
placed (p ∷ ps) = (not (eqb p.place 0) && leb p.place 30) && placed ps

all_placed : (f : Routine) → placed (places f ++ arrays f) ≡ true
unfolding placed places arrays
all_placed Gemm = refl
all_placed Symm = refl
all_placed Syrk = refl
all_placed Syr2k = refl
all_placed Trmm = refl
all_placed Trsm = refl

one_of : (b : Bool) (n rest : ℕ) → n ≤ 30 → rest ≤ 30 → (if b then n else rest) ≤ 30
one_of true n rest h e = h
one_of false n rest h e = e

first-bound : (g : Args) (ps : List Place) → placed ps ≡ true → first_bad g ps ≤ 30
unfolding placed first_bad
first-bound g [] h = omega arith
first-bound g (p ∷ ps) h =
    let here = not (eqb p.place 0) && leb p.place 30 in
    one_of (bad g p.argument) p.place (first_bad g ps)
    (leb-true p.place 30 (and_right (not (eqb p.place 0)) (leb p.place 30) (and_left here (placed ps) h)))
    (first-bound g ps (and_right here (placed ps) h))

refusal-bound : (w r : ℤ) (g : Args) → refusal w r g ≤ 30
unfolding refusal
refusal-bound w r g =
    one_of (bad_width w || bad_width r) 30 (first_bad g (places g.routine ++ arrays g.routine)) (omega arith)
    (first-bound g (places g.routine ++ arrays g.routine) (all_placed g.routine))

module _ (w r : ℤ) (g : Args) where
  pub when-ready : (k : Call) → checked w r g ≡ Ready k → (refusal w r g ≡ 0) × (idle (call_of g) ≡ false) × (k ≡ call_of g)
  unfolding checked
  when-ready k h = ready-answer (refusal w r g) (idle (call_of g)) (call_of g) k h

  pub when-idle : checked w r g ≡ Idle → (refusal w r g ≡ 0) × (idle (call_of g) ≡ true)
  unfolding checked
  when-idle h = idle-answer (refusal w r g) (idle (call_of g)) (call_of g) h

  pub when-refused : (e : ℕ) → checked w r g ≡ Refused e → (e ≡ refusal w r g) × (0 < e) × (e ≤ 30)
  unfolding checked
  when-refused e h =
      let s = refused-answer (refusal w r g) (idle (call_of g)) (call_of g) e h in
      (s.0, s.1, omega (arith, refusal-bound w r g))

-- ---- an accepted call: its widths

pub in-range : (w : ℤ) → bad_width w ≡ false → (0 < width w) × (width w ≤ 64)
unfolding bad_width width
in-range (pos zero) h = (omega arith, omega arith)
in-range (pos (suc n)) h = (omega arith, ltb-false 64 (suc n) h)
in-range (negsuc n) h = absurd (true≢false h)

chosen : (b : Bool) (e : ℕ) → (if b then 30 else e) ≡ 0 → (b ≡ false) × (e ≡ 0)
chosen true e h = absurd (omega arith)
chosen false e h = (refl, h)

module _ (w r : ℤ) (g : Args) (h : refusal w r g ≡ 0) where
  parts : ((bad_width w || bad_width r) ≡ false) × (first_bad g (places g.routine ++ arrays g.routine) ≡ 0)
  unfolding refusal
  parts = chosen (bad_width w || bad_width r) (first_bad g (places g.routine ++ arrays g.routine)) h

  pub strip-width : (0 < width w) × (width w ≤ 64)
  strip-width = in-range w (or_left (bad_width w) (bad_width r) parts.0)

  pub block_size : (0 < width r) × (width r ≤ 64)
  block_size = in-range r (or_right (bad_width w) (bad_width r) parts.0)

  pub none-bad : first_bad g (places g.routine ++ arrays g.routine) ≡ 0
  none-bad = parts.1

-- ---- an accepted call: each argument that the routine has

-- The column of an argument in the table.
unfoldable pub column : Argument → ℕ
column side = 0
column uplo = 1
column transa = 2
column transb = 3
column diag = 4
column size-m = 5
column size-n = 6
column size-k = 7
column ld-A = 8
column ld-B = 9
column ld-C = 10
column array-A = 11
column array-B = 12
column array-C = 13

-- The place that a list gives to the argument of a column, or 0.
unfoldable pub place_in : List Place → ℕ → ℕ
place_in [] k = 0
place_in (p ∷ ps) k = let rest = place_in ps k in if eqb (column p.argument) k then p.place else rest

argument_at : ℕ → Argument
argument_at k = get_or (side ∷ uplo ∷ transa ∷ transb ∷ diag ∷ size-m ∷ size-n ∷ size-k ∷ ld-A ∷ ld-B ∷ ld-C ∷ array-A ∷ array-B ∷ array-C ∷ []) k side

at-column : (x : Argument) → argument_at (column x) ≡ x
unfolding argument_at column
at-column side = refl
at-column uplo = refl
at-column transa = refl
at-column transb = refl
at-column diag = refl
at-column size-m = refl
at-column size-n = refl
at-column size-k = refl
at-column ld-A = refl
at-column ld-B = refl
at-column ld-C = refl
at-column array-A = refl
at-column array-B = refl
at-column array-C = refl

same-argument : (x y : Argument) → column x ≡ column y → x ≡ y
same-argument x y e = sym (at-column x) ∙ ap argument_at e ∙ at-column y

-- The routine has the argument.
unfoldable pub has : Routine → Argument → Bool
has f x = not (eqb (place_in (places f ++ arrays f) (column x)) 0)

head_passed : (n : ℕ) (b more : Bool) (rest : ℕ) → ((not (eqb n 0) && leb n 30) && more) ≡ true → (if b then n else rest) ≡ 0 → (b ≡ false) × (rest ≡ 0)
head_passed zero b more rest p h = absurd (clash cc)
head_passed (suc n) true more rest p h = absurd (omega arith)
head_passed (suc n) false more rest p h = (refl, h)

module _ (g : Args) (x : Argument) where
  in_list : (ps : List Place) → placed ps ≡ true → first_bad g ps ≡ 0 → not (eqb (place_in ps (column x)) 0) ≡ true → bad g x ≡ false
  unfolding placed first_bad place_in
  in_list [] p h e = absurd (clash cc)
  in_list (q ∷ ps) p h e =
      let s = head_passed q.place (bad g q.argument) (placed ps) (first_bad g ps) p h in
      go (eqb (column q.argument) (column x)) refl e s.0 (in_list ps (and_right (not (eqb q.place 0) && leb q.place 30) (placed ps) p) s.1)
    where
      go : (b : Bool) → eqb (column q.argument) (column x) ≡ b → not (eqb (if b then q.place else place_in ps (column x)) 0) ≡ true
          → bad g q.argument ≡ false → (not (eqb (place_in ps (column x)) 0) ≡ true → bad g x ≡ false) → bad g x ≡ false
      go true t n here after = subst (λ (y : Argument). bad g y ≡ false) (same-argument q.argument x (eqb-true _ _ t)) here
      go false t n here after = after n

  pub passed : (f : Routine) → first_bad g (places f ++ arrays f) ≡ 0 → has f x ≡ true → bad g x ≡ false
  unfolding has
  passed f h e = in_list (places f ++ arrays f) (all_placed f) h e

-- ---- leading dimensions

pub good-ld : (ld : ℤ) (s : Shape) → bad_ld ld s ≡ false → s.rows ≤ nat ld
unfolding bad_ld
good-ld ld s h = le_trans (le-max_right _ _) (ltb-false _ _ h)

-- the leading dimension of a B that is written over
pub room-in-place : (w r : ℤ) (g : Args) → refusal w r g ≡ 0 → in_place g.routine ≡ true → (call_of g).m ≤ (call_of g).ldb
unfolding in_place has place_in places arrays column shape_b bad bad_with call_of
room-in-place w r g h p = go g.routine refl p
  where
    rows : (f : Routine) → g.routine ≡ f → has f ld-B ≡ true → (shape_b f (call_of g)).rows ≤ nat g.ldb
    rows f e t =
        good-ld g.ldb (shape_b f (call_of g))
        (ap (λ (f : Routine). bad_ld g.ldb (shape_b f (call_of g))) (sym e) ∙ passed g ld-B g.routine (none-bad w r g h) (ap (λ (f : Routine). has f ld-B) e ∙ t))

    go : (f : Routine) → g.routine ≡ f → in_place f ≡ true → (call_of g).m ≤ nat g.ldb
    go Gemm e p = absurd (true≢false (sym p))
    go Symm e p = absurd (true≢false (sym p))
    go Syrk e p = absurd (true≢false (sym p))
    go Syr2k e p = absurd (true≢false (sym p))
    go Trmm e p = rows Trmm e refl
    go Trsm e p = rows Trsm e refl
