-- A strip's part is lent to the routine's update and comes back, what the update asks of it, and what it reports; then all strips in turn.
-- Assumes nothing.
use Prim.Native.Nat.{ℕ, ◌+◌, ◌-◌, ◌*◌, ◌≤◌, ◌<◌}
use mathlib.Core.Path.{◌≡◌, refl, sym, ap, subst, ◌∙◌}
use mathlib.Core.Bool.{Bool, true, false, ◌&&◌, true≢false}
use mathlib.Core.List.{List}
use native.Mathlib.Omega.{arith}
use lib.IntN.{ℤ}
use lib.ListN.{length, take, drop}
use lib.Ieee.{Float}
use borrow.Rule.Slice.PartMut.{put_mid}
use Rattle.std.specs.Prelude.{if◌then◌else◌}
use Rattle.arrays.proofs.Tests.{if-true, if-false}
use Rattle.arrays.proofs.UpdateLaws.{length-update}
use Rattle.arrays.proofs.PartLaws.{tail, tail-length, put-tail}
use Rattle.definitions.specs.Call.{◌by◌, by_side, in_place, ld_output, cuts_rows, extent}
use Rattle.definitions.specs.Element.{zero_of, strip, result, StripOf}
use Rattle.definitions.specs.declared.Routine.{Routine}
use Rattle.definitions.specs.declared.Side.{Side}
use Rattle.definitions.specs.declared.Side.TheVariants.{Left, Right}
use Rattle.definitions.specs.declared.Call.{Call}
use Rattle.definitions.proofs.Fits.{Room, Fits, entry-inside, output-fits}
use Rattle.definitions.proofs.Strips.{strip-join}
use Rattle.arguments.specs.Strip.{strip_start}
use Rattle.strips.specs.Lengths.{FitsArrays}

-- ---- one strip

output-room : (c : Call) (la lb len : ℕ) → FitsArrays c la lb len → Room len (ld_output c) (c.m by c.n)
output-room c la lb len h =
    subst (λ (n : ℕ). Room n (ld_output c) (c.m by c.n)) (own (in_place c.routine)) (output-fits c la (if in_place c.routine then len else lb) len h).1
  where
    own : (b : Bool) → (if b then (if b then len else lb) else len) ≡ len
    own true = refl
    own false = refl

-- the strip starts within the output
pub start-inside : (c : Call) (la lb len from lines : ℕ) → FitsArrays c la lb len → 0 < lines → from + lines ≤ extent c → strip_start c from ≤ len
unfolding extent
start-inside c la lb len from lines h some within = go (cuts_rows c.routine c.side) within
  where
    inside : (i j : ℕ) → i < c.m → j < c.n → j * ld_output c + i < len
    inside i j hi hj = entry-inside (ld_output c) c.m c.n len (output-room c la lb len h) i j hi hj

    go : (b : Bool) → from + lines ≤ (if b then c.m else c.n) → (if b then from else from * ld_output c) ≤ len
    go true k = omega (arith, inside from 0 (omega arith) h.some-columns)
    go false k = omega (arith, inside 0 from h.some-rows (omega arith))

-- the part comes back
pub put-strip : (c : Call) (a b : List Float) (from to x y : ℕ) (l ys : List Float) → x ≤ length l → x ≡ y
    → StripOf c a b from to y (take (length l - x) (drop x l)) ys → put_mid x (length l - x) l ys ≡ strip c a b from to l
put-strip c a b from to x y l ys xl e h =
    put-tail x l ys xl ∙ subst (λ (n : ℕ). StripOf c a b from to n (take (length l - x) (drop x l)) ys) (sym e) h l xl (tail x l)

module _ (f : Routine) (c : Call) (is : c.routine ≡ f) where
  fits-of : (la lb len : ℕ) → FitsArrays c la lb len → Fits f c la (if in_place f then len else lb) len
  fits-of la lb len h = subst (λ (f : Routine). Fits f c la (if in_place f then len else lb) len) is h

  -- what the routine reports the call reports
  pub reports : (a : List Float) (z : ℤ) → z ≡ zero_of f c a → z ≡ zero_of c.routine c a
  reports a z h = h ∙ ap (λ (f : Routine). zero_of f c a) (sym is)

  -- A routine that writes C: strips cut columns, and what the part has, with what stands before it, is what the array has.
  module _ (writes-C : in_place f ≡ false) where
    not-in-place : in_place c.routine ≡ false
    not-in-place = ap in_place is ∙ writes-C

    pub start-in-C : (from x : ℕ) → x ≡ strip_start c from → x ≡ from * c.ldc
    unfolding cuts_rows ld_output
    start-in-C from x e = e ∙ rw not-in-place

    pub columns-of-C : extent c ≡ c.n
    unfolding extent cuts_rows
    columns-of-C = rw not-in-place

    pub fits-C : (la lb from x : ℕ) (l : List Float) → x ≡ strip_start c from → x ≤ length l → FitsArrays c la lb (length l)
        → Fits f c la lb (from * c.ldc + length (take (length l - x) (drop x l)))
    fits-C la lb from x l e xl h =
        subst (λ (n : ℕ). Fits f c la lb n) (omega (arith, tail-length x l, start-in-C from x e))
        (subst (λ (n : ℕ). Fits f c la n (length l)) (if-false (in_place f) (length l) lb writes-C) (fits-of la lb (length l) h))

  -- One that writes over B: strips cut columns for side L and rows for side R.
  module _ (writes-B : in_place f ≡ true) where
    in_place_lem : in_place c.routine ≡ true
    in_place_lem = ap in_place is ∙ writes-B

    pub start-in-B : (from x : ℕ) → x ≡ strip_start c from → x ≡ by_side c.side (from * c.ldb) from
    unfolding cuts_rows ld_output by_side
    start-in-B from x e = e ∙ go (in_place c.routine) c.side in_place_lem
      where
        go : (b : Bool) (s : Side) → b ≡ true
            → (if b && by_side s false true then from else from * (if b then c.ldb else c.ldc)) ≡ by_side s (from * c.ldb) from
        go true Left t = refl
        go true Right t = refl
        go false s t = absurd (true≢false (sym t))

    pub fits-B : (la lb from x : ℕ) (l : List Float) → x ≡ strip_start c from → x ≤ length l → FitsArrays c la lb (length l)
        → (lenc : ℕ) × Fits f c la (by_side c.side (from * c.ldb) from + length (take (length l - x) (drop x l))) lenc
    fits-B la lb from x l e xl h = (
      length l,
      subst (λ (n : ℕ). Fits f c la n (length l)) (if-true (in_place f) (length l) lb writes-B ∙ omega (arith, tail-length x l, start-in-B from x e)) (fits-of la lb (length l) h),
    )

-- ---- all strips

in-place-room : (c : Call) (la lb len : ℕ) → FitsArrays c la lb len → in_place c.routine ≡ true → c.m ≤ c.ldb
unfolding ld_output
in-place-room c la lb len h e =
    subst (λ (n : ℕ). c.m ≤ n) (if-true (in_place c.routine) c.ldb c.ldc e) (output-fits c la (if in_place c.routine then len else lb) len h).0

-- there is a strip
pub some-lines : (c : Call) (la lb len : ℕ) → FitsArrays c la lb len → 0 < extent c
unfolding extent
some-lines c la lb len h = go (cuts_rows c.routine c.side)
  where
    go : (b : Bool) → 0 < (if b then c.m else c.n)
    go true = h.some-rows
    go false = h.some-columns

-- one strip more: from x on, up to y
pub strip-next : (c : Call) (a b : List Float) (la lb len from to x y : ℕ) (l m r : List Float) → FitsArrays c la lb len → from ≤ to → x ≡ from → y ≡ to
    → m ≡ strip c a b 0 x l → r ≡ strip c a b from to m → r ≡ strip c a b 0 y l
strip-next c a b la lb len from to x y l m r h k ex ey em er =
    er ∙ ap (strip c a b from to) (em ∙ ap (λ (n : ℕ). strip c a b 0 n l) ex) ∙ strip-join c a b l 0 from (in-place-room c la lb len h) to (omega arith) k
    ∙ ap (λ (n : ℕ). strip c a b 0 n l) (sym ey)

-- strips up to the extent are the call
pub strips-end : (c : Call) (a b : List Float) (from : ℕ) (l m : List Float) → from ≡ extent c → m ≡ strip c a b 0 from l → m ≡ result c a b l
unfolding result
strips-end c a b from l m e h = h ∙ ap (λ (n : ℕ). strip c a b 0 n l) e

pub length-strip : (c : Call) (a b : List Float) (from to : ℕ) (l m : List Float) → m ≡ strip c a b from to l → length m ≡ length l
unfolding strip
length-strip c a b from to l m h = ap length h ∙ length-update _ l
