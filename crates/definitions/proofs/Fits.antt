-- What a call satisfies that the argument check answers with ready: positive sizes, leading dimensions of at least the stored rows, arrays long enough.
-- The strip updates ask it of their call.
-- Assumes nothing.
use mathlib.Core.Path.{◌≡◌, refl, sym, subst}
use mathlib.Core.Bool.{Bool, true, false, not, ◌&&◌, true≢false}
use mathlib.Core.List.{◌++◌}
use Prim.Native.Nat.{ℕ, zero, suc, ◌+◌, ◌*◌, ◌≤◌, ◌<◌}
use native.Mathlib.Nat.{mul-le-mul_left, mul_comm, suc-mul}
use native.Mathlib.Omega.{arith}
use lib.Dec.{ltb, eqb}
use lib.IntN.{ℤ}
use borrow.Author.Tests.{ltb-false}
use Rattle.std.specs.Prelude.{if◌then◌else◌}
use Rattle.arrays.proofs.Tests.{or_left, or_right}
use Rattle.definitions.specs.Number.{is_one}
use Rattle.definitions.specs.Storage.{needed}
use Rattle.definitions.specs.Call.{◌by◌, has_m, in_place, empty, start_only, shape_a, shape_b, shape_c, ld_output}
use Rattle.definitions.specs.Check.{ld-A, ld-B, ld-C, array-A, array-B, array-C, places, arrays, nat, short, untested, bad_with, bad, first_bad, call_of, idle, checked}
use Rattle.definitions.specs.declared.Routine.{Routine}
use Rattle.definitions.specs.declared.Routine.TheVariants.{Gemm, Symm, Syrk, Syr2k, Trmm, Trsm}
use Rattle.definitions.specs.declared.Args.{Args}
use Rattle.definitions.specs.declared.Checked.TheVariants.{Ready}
use Rattle.definitions.specs.declared.Call.{Call}
use Rattle.definitions.specs.declared.Shape.{Shape}
use Rattle.definitions.proofs.CheckLaws.{above_zero, when-ready, none-bad, column, place_in, has, passed, good-ld}

-- An array of `len` elements has room for a matrix.
abbrev pub Room : ℕ → ℕ → Shape → Type 0
Room len ld s = needed ld s.rows s.cols ≤ len

-- Of a call of the routine f. The inputs have room if they are read: if neither α nor, where the routine has it, k is 0. What is written always has: C, or B for TRMM and
-- TRSM. (A matrix that the routine lacks is 0 by 0.)
pub record Fits (f : Routine) (c : Call) (lena lenb lenc : ℕ) : Type 0 where
  pub routine-is : c.routine ≡ f
  pub some-rows : 0 < c.m
  pub some-columns : 0 < c.n
  pub square : has_m f ≡ false → c.m ≡ c.n
  pub ld-a : (shape_a f c).rows ≤ c.lda
  pub ld-b : (shape_b f c).rows ≤ c.ldb
  pub ld-c : (shape_c f c).rows ≤ c.ldc
  pub room-a : start_only c ≡ false → Room lena c.lda (shape_a f c)
  pub room-b : start_only c ≡ false → Room lenb c.ldb (shape_b f c)
  pub room-written-b : in_place f ≡ true → Room lenb c.ldb (shape_b f c)
  pub room-c : Room lenc c.ldc (shape_c f c)

-- An entry of a matrix for which the array has room is in the array.
pub entry-inside : (ld p q len : ℕ) → needed ld p q ≤ len → (i j : ℕ) → i < p → j < q → j * ld + i < len
unfolding needed
entry-inside ld zero q len h i j hi hj = omega arith
entry-inside ld (suc p) zero len h i j hi hj = omega arith
entry-inside ld (suc p) (suc q) len h i j hi hj = let le : j ≤ q = omega arith in omega (arith, mul-le-mul_left ld le, mul_comm j ld)

-- The same bound without a difference.
pub room-sum : (ld p q len : ℕ) → needed ld p q ≤ len → 0 < p → 0 < q → q * ld + p ≤ len + ld
unfolding needed
room-sum ld zero q len h hp hq = omega arith
room-sum ld (suc p) zero len h hp hq = omega arith
room-sum ld (suc p) (suc q) len h hp hq = omega (arith, suc-mul q ld, mul_comm q ld)

-- ---- a ready call fits

tested : (skip b : Bool) → (not skip && b) ≡ false → skip ≡ false → b ≡ false
tested true b h k = absurd (true≢false k)
tested false b h k = h

-- What holds of an empty shape and of the shape of a matrix that the routine has, holds of the matrix's shape.
module _ (k : Call) (P : Shape → Type 0) (none : P (0 by 0)) where
  by-A : (f : Routine) → (has f ld-A ≡ true → has f array-A ≡ true → P (shape_a f k)) → P (shape_a f k)
  unfolding has place_in places arrays column
  by-A Gemm h = h refl refl
  by-A Symm h = h refl refl
  by-A Syrk h = h refl refl
  by-A Syr2k h = h refl refl
  by-A Trmm h = h refl refl
  by-A Trsm h = h refl refl

  by-B : (f : Routine) → (has f ld-B ≡ true → has f array-B ≡ true → P (shape_b f k)) → P (shape_b f k)
  unfolding has place_in places arrays column shape_b
  by-B Gemm h = h refl refl
  by-B Symm h = h refl refl
  by-B Syrk h = none
  by-B Syr2k h = h refl refl
  by-B Trmm h = h refl refl
  by-B Trsm h = h refl refl

  by-C : (f : Routine) → (has f ld-C ≡ true → has f array-C ≡ true → P (shape_c f k)) → P (shape_c f k)
  unfolding has place_in places arrays column shape_c
  by-C Gemm h = h refl refl
  by-C Symm h = h refl refl
  by-C Syrk h = h refl refl
  by-C Syr2k h = h refl refl
  by-C Trmm h = none
  by-C Trsm h = none

has_room : (skip : Bool) (len ld : ℕ) (s : Shape) → (not skip && short len ld s) ≡ false → skip ≡ false → Room len ld s
unfolding short
has_room skip len ld s h e = ltb-false len (needed ld s.rows s.cols) (tested skip (ltb len (needed ld s.rows s.cols)) h e)

no-room-needed : (len ld : ℕ) → Room len ld (0 by 0)
unfolding needed
no-room-needed len ld = omega arith

module _ (g : Args) (h : first_bad g (places g.routine ++ arrays g.routine) ≡ 0) (busy : idle (call_of g) ≡ false) where
  abbrev f : Routine
  f = g.routine

  abbrev k : Call
  k = call_of g

  not-empty : empty k ≡ false
  unfolding idle
  not-empty = or_left (empty k) (not (in_place k.routine) && (start_only k && is_one k.beta)) busy

  is-tested : start_only k ≡ false → untested k ≡ false
  unfolding untested
  is-tested e = rw (not-empty, e)

  pub accepted-fits : Fits k.routine k g.lena g.lenb g.lenc
  unfolding empty call_of bad bad_with
  accepted-fits = record {
    routine-is = refl;
    some-rows = above_zero k.m (or_left (eqb k.m 0) (eqb k.n 0) not-empty);
    some-columns = above_zero k.n (or_right (eqb k.m 0) (eqb k.n 0) not-empty);
    square = λ e. rw e;
    ld-a = by-A k (λ s. s.rows ≤ nat g.lda) (omega arith) f (λ e d. good-ld g.lda (shape_a f k) (passed g ld-A f h e));
    ld-b = by-B k (λ s. s.rows ≤ nat g.ldb) (omega arith) f (λ e d. good-ld g.ldb (shape_b f k) (passed g ld-B f h e));
    ld-c = by-C k (λ s. s.rows ≤ nat g.ldc) (omega arith) f (λ e d. good-ld g.ldc (shape_c f k) (passed g ld-C f h e));
    room-a = λ some. by-A k (Room g.lena k.lda) (no-room-needed _ _) f
        (λ d e. has_room (untested k) g.lena k.lda (shape_a f k) (passed g array-A f h e) (is-tested some));
    room-b = λ some. by-B k (Room g.lenb k.ldb) (no-room-needed _ _) f
        (λ d e. has_room (if in_place f then empty k else untested k) g.lenb k.ldb (shape_b f k) (passed g array-B f h e) (written-or-read some));
    room-written-b = λ place. by-B k (Room g.lenb k.ldb) (no-room-needed _ _) f
        (λ d e. has_room (if in_place f then empty k else untested k) g.lenb k.ldb (shape_b f k) (passed g array-B f h e) (rw place not-empty));
    room-c = by-C k (Room g.lenc k.ldc) (no-room-needed _ _) f
        (λ d e. has_room (empty k) g.lenc k.ldc (shape_c f k) (passed g array-C f h e) not-empty);
  }
    where
      written-or-read : start_only k ≡ false → (if in_place f then empty k else untested k) ≡ false
      written-or-read some = go (in_place f)
        where
          go : (b : Bool) → (if b then empty k else untested k) ≡ false
          go true = not-empty
          go false = is-tested some

module _ (w r : ℤ) (g : Args) where
  pub ready-fits : (k : Call) → checked w r g ≡ Ready k → Fits k.routine k g.lena g.lenb g.lenc
  ready-fits k h =
      let s = when-ready w r g k h in
      subst (λ (c : Call). Fits c.routine c g.lena g.lenb g.lenc) (sym s.2) (accepted-fits g (none-bad w r g s.0) s.1)

-- ---- what follows of a call that fits

-- What is written is m by n, in the array of C, or of B for TRMM and TRSM.
pub output-fits : (c : Call) (lena lenb lenc : ℕ) → Fits c.routine c lena lenb lenc
    → (c.m ≤ ld_output c) × Room (if in_place c.routine then lenb else lenc) (ld_output c) (c.m by c.n)
unfolding ld_output has_m in_place shape_b shape_c
output-fits c lena lenb lenc h = go c.routine h.square h.ld-b h.ld-c h.room-written-b h.room-c
  where
    go : (f : Routine) → (has_m f ≡ false → c.m ≡ c.n) → (shape_b f c).rows ≤ c.ldb → (shape_c f c).rows ≤ c.ldc
        → (in_place f ≡ true → Room lenb c.ldb (shape_b f c)) → Room lenc c.ldc (shape_c f c)
        → (c.m ≤ (if in_place f then c.ldb else c.ldc)) × Room (if in_place f then lenb else lenc) (if in_place f then c.ldb else c.ldc) (c.m by c.n)
    go Gemm q b d u v = (d, v)
    go Symm q b d u v = (d, v)
    go Syrk q b d u v = rw (q refl) (d, v)
    go Syr2k q b d u v = rw (q refl) (d, v)
    go Trmm q b d u v = (b, u refl)
    go Trsm q b d u v = (b, u refl)
