-- The strips of a call, one after the other, are the whole call, whatever their width: for all six routines, those that write over B included.
-- Assumes nothing.
use Prim.Native.Nat.{ℕ, zero, suc, ◌+◌, ◌-◌, ◌*◌, ◌/◌, ◌%◌, ◌≤◌, ◌<◌}
use mathlib.Core.Path.{◌≡◌, refl, sym, ap, subst, ◌∙◌}
use mathlib.Core.Bool.{Bool, true, false, ◌&&◌}
use mathlib.Core.List.{List}
use native.Mathlib.Nat.{zero-mul, suc-mul, mul-le-mul_right, mod-lt, div-add-mod'}
use native.Mathlib.Omega.{arith}
use lib.Dec.{leb, ltb, eqb}
use lib.Ieee.{Float, nan}
use borrow.Author.Tests.{ltb-true, leb-true, leb-false, eqb-true, eqb-false, lt-ltb, le-ltb, le-leb}
use Rattle.std.specs.Prelude.{if◌then◌else◌}
use Rattle.arrays.specs.Update.{entries}
use Rattle.arrays.specs.Fold.{fold}
use Rattle.arrays.proofs.Tests.{and_left, and_right, if-true, if-false, by-test}
use Rattle.arrays.proofs.UpdateLaws.{update-then}
use Rattle.arrays.proofs.EntryLaws.{entry_kept, entries-keep, only_same, only-join, only_out}
use Rattle.definitions.specs.Storage.{stored}
use Rattle.definitions.specs.Call.{by_side, in_place, empty, order, ld_output, in_output, cuts_rows, extent, strips, cut, writes}
use Rattle.definitions.specs.Element.{value, array_b, strip, result}
use Rattle.definitions.specs.declared.Routine.{Routine}
use Rattle.definitions.specs.declared.Routine.TheVariants.{Gemm, Symm, Syrk, Syr2k, Trmm, Trsm}
use Rattle.definitions.specs.declared.Side.{Side}
use Rattle.definitions.specs.declared.Side.TheVariants.{Left, Right}
use Rattle.definitions.specs.declared.Call.{Call}
use Rattle.definitions.proofs.InPlace.{line, trmm-same, trsm-same}

-- ---- what a strip writes

-- an entry that a strip writes: it is within the output, and its column (or row) within the strip
pub record Written (c : Call) (from to i j : ℕ) : Type 0 where
  pub row : i < c.m
  pub column : j < c.n
  pub from_on : from ≤ cut c i j
  pub below-to : cut c i j < to

pub written : (c : Call) (from to i j : ℕ) → writes c from to i j ≡ true → Written c from to i j
unfolding writes in_output
written c from to i j w =
    let sizes = and_left (ltb i c.m && ltb j c.n) _ (and_left (in_output c i j) _ w) in
    let range = and_right (in_output c i j) (leb from (cut c i j) && ltb (cut c i j) to) w in
    record {
      row = ltb-true _ _ (and_left (ltb i c.m) _ sizes);
      column = ltb-true _ _ (and_right (ltb i c.m) _ sizes);
      from_on = leb-true _ _ (and_left (leb from (cut c i j)) _ range);
      below-to = ltb-true _ _ (and_right (leb from (cut c i j)) _ range);
    }

pub not_written : (c : Call) (from to i j : ℕ) → (Written c from to i j → ⊥) → writes c from to i j ≡ false
not_written c from to i j h = by-test (writes c from to i j) (λ w. absurd (h (written c from to i j w))) (λ w. w)

-- the columns below mid and those from mid on are those of both
range-join : (base : Bool) (x from mid to : ℕ) → from ≤ mid → mid ≤ to
    → (base && (leb from x && ltb x to)) ≡ (if base && (leb from x && ltb x mid) then true else (base && (leb mid x && ltb x to)))
range-join false x from mid to h k = refl
range-join true x from mid to h k =
    by-test (leb mid x)
    (λ e.
    let m : mid ≤ x = leb-true mid x e in
    rw (e, le-leb from x (omega arith), le-ltb x mid m))
    (λ e.
    let m : x < mid = leb-false mid x e in
    by-test (leb from x) (λ f. rw (e, f, lt-ltb x mid m, lt-ltb x to (omega arith))) (λ f. rw (e, f)))

-- ---- two strips in turn

-- where TRMM and TRSM read B, a strip below mid has left it as it was
cut-is : (f : Routine) (s : Side) (i j : ℕ) → in_place f ≡ true → (if cuts_rows f s then i else j) ≡ by_side s j i
unfolding cuts_rows by_side
cut-is f Left i j h = rw h
cut-is f Right i j h = rw h

in_place_lem : (c : Call) (b out : List Float) → in_place c.routine ≡ true → array_b c b out ≡ out
unfolding array_b
in_place_lem c b out h = if-true (in_place c.routine) out b h

not-in-place : (c : Call) (b out : List Float) → in_place c.routine ≡ false → array_b c b out ≡ b
unfolding array_b
not-in-place c b out h = if-false (in_place c.routine) out b h

module _ (c : Call) (a b out : List Float) (from mid : ℕ) (room : in_place c.routine ≡ true → c.m ≤ c.ldb) where
  abbrev next : List Float
  next = strip c a b from mid out

  line_kept : (s : Side) (i j l : ℕ) → c.side ≡ s → in_place c.routine ≡ true → i < c.m → mid ≤ by_side s j i → l < by_side s c.m c.n
      → line s (stored nan next c.ldb) i j l ≡ line s (stored nan out c.ldb) i j l
  unfolding by_side stored strip ld_output cut
  line_kept Left i j l e p hi hm hl =
      rw p
      (entry_kept nan c.ldb _ out l j (let k = room p in omega (arith, k))
      (λ x. only_out (writes c from mid) _ l j x
      (not_written c from mid l j (λ w. let k = cut-is c.routine c.side l j p ∙ ap (λ (t : Side). by_side t j l) e in omega (arith, w.below-to, k)))))
  line_kept Right i j l e p hi hm hl =
      rw p
      (entry_kept nan c.ldb _ out i l (let k = room p in omega (arith, k))
      (λ x. only_out (writes c from mid) _ i l x
      (not_written c from mid i l (λ w. let k = cut-is c.routine c.side i l p ∙ ap (λ (t : Side). by_side t l i) e in omega (arith, w.below-to, k)))))

  lines-kept : (i j : ℕ) → in_place c.routine ≡ true → i < c.m → mid ≤ cut c i j → (l : ℕ) → l < order c
      → line c.side (stored nan next c.ldb) i j l ≡ line c.side (stored nan out c.ldb) i j l
  unfolding cut order
  lines-kept i j p hi hm l hl = line_kept c.side i j l refl p hi (subst (λ (k : ℕ). mid ≤ k) (cut-is c.routine c.side i j p) hm) hl

  lines_same : (i j : ℕ) → in_place c.routine ≡ true → i < c.m → mid ≤ cut c i j → (l : ℕ) → l < order c
      → line c.side (stored nan (array_b c b next) c.ldb) i j l ≡ line c.side (stored nan (array_b c b out) c.ldb) i j l
  lines_same i j p hi hm l hl =
      ap (λ (xs : List Float). line c.side (stored nan xs c.ldb) i j l) (in_place_lem c b next p)
      ∙ lines-kept i j p hi hm l hl
      ∙ ap (λ (xs : List Float). line c.side (stored nan xs c.ldb) i j l) (sym (in_place_lem c b out p))

  value-kept : (f : Routine) → c.routine ≡ f → (i j : ℕ) (x : Float) → i < c.m → j < c.n → mid ≤ cut c i j
      → value f c a (array_b c b next) i j x ≡ value f c a (array_b c b out) i j x
  unfolding value in_place
  value-kept Gemm e i j x hi hj hm = ap (λ (xs : List Float). value Gemm c a xs i j x) (not-in-place c b next (ap in_place e) ∙ sym (not-in-place c b out (ap in_place e)))
  value-kept Symm e i j x hi hj hm = ap (λ (xs : List Float). value Symm c a xs i j x) (not-in-place c b next (ap in_place e) ∙ sym (not-in-place c b out (ap in_place e)))
  value-kept Syrk e i j x hi hj hm = refl
  value-kept Syr2k e i j x hi hj hm = ap (λ (xs : List Float). value Syr2k c a xs i j x) (not-in-place c b next (ap in_place e) ∙ sym (not-in-place c b out (ap in_place e)))
  value-kept Trmm e i j x hi hj hm = trmm-same c _ _ _ i j x (lines_same i j (ap in_place e) hi hm)
  value-kept Trsm e i j x hi hj hm = trsm-same c _ _ _ i j x hi hj (lines_same i j (ap in_place e) hi hm)

  pub strip-join : (to : ℕ) → from ≤ mid → mid ≤ to → strip c a b mid to next ≡ strip c a b from to out
  unfolding strip entries writes
  strip-join to h k =
      update-then _ _ _ out
      (λ p _ x.
      let i : ℕ = p % ld_output c in
      let j : ℕ = p / ld_output c in
      only_same (writes c mid to) _ i j _ (value c.routine c a (array_b c b out))
      (λ w. let r = written c mid to i j w in value-kept c.routine refl i j _ r.row r.column r.from_on)
      ∙ only-join (writes c from mid) (writes c mid to) (writes c from to) (value c.routine c a (array_b c b out)) i j x
      (λ w. let r = written c from mid i j w in not_written c mid to i j (λ v. omega (arith, r.below-to, v.from_on)))
      (join i j))
    where
      join : (i j : ℕ) → writes c from to i j ≡ (if writes c from mid i j then true else writes c mid to i j)
      join i j = range-join (in_output c i j) (cut c i j) from mid to h k

-- ---- all strips

-- a call without rows or without columns writes nothing
pub strip-empty : (c : Call) (a b : List Float) (from to : ℕ) (out : List Float) → empty c ≡ true → strip c a b from to out ≡ out
unfolding strip empty
strip-empty c a b from to out h =
    entries-keep (ld_output c) _ out (λ i j x. only_out (writes c from to) _ i j x (not_written c from to i j (λ w. none w)))
  where
    none : {i j : ℕ} → Written c from to i j → ⊥
    none w =
        by-test (eqb c.m 0)
        (λ e. omega (arith, w.row, eqb-true c.m 0 e))
        (λ e. omega (arith, w.column, eqb-true c.n 0 (rw e at h)))

pub strip-none : (c : Call) (a b : List Float) (at : ℕ) (out : List Float) → strip c a b at at out ≡ out
unfolding strip
strip-none c a b at out =
    entries-keep (ld_output c) _ out
    (λ i j x. only_out (writes c at at) _ i j x (not_written c at at i j (λ w. omega (arith, w.from_on, w.below-to))))

-- what a routine writes is below the extent
below-extent : (c : Call) (from to i j : ℕ) → Written c from to i j → cut c i j < extent c
unfolding cut extent
below-extent c from to i j w = go (cuts_rows c.routine c.side)
  where
    go : (b : Bool) → (if b then i else j) < (if b then c.m else c.n)
    go true = w.row
    go false = w.column

strip-beyond : (c : Call) (a b : List Float) (from to : ℕ) (out : List Float) → extent c ≤ from → strip c a b from to out ≡ out
unfolding strip
strip-beyond c a b from to out h =
    entries-keep (ld_output c) _ out
    (λ i j x. only_out (writes c from to) _ i j x (not_written c from to i j (λ w. omega (arith, h, w.from_on, below-extent c from to i j w))))

-- the strips of width w below strip n, one after the other
abbrev pub in_turn : Call → List Float → List Float → ℕ → ℕ → List Float → List Float
in_turn c a b w n out = fold (λ o s. strip c a b (s * w) (suc s * w) o) n out

-- w strips cover the extent
ceil : (d w : ℕ) → 0 < w → d ≤ (d + w - 1) / w * w
ceil d w h =
    let e : (d + w - 1) / w * w + (d + w - 1) % w ≡ d + w - 1 = div-add-mod' (d + w - 1) w in
    let m : (d + w - 1) % w < w = mod-lt (d + w - 1) h in
    omega arith

-- a strip of a call that has elements begins below the extent
pub strip-begins : (c : Call) (w s : ℕ) → 0 < w → empty c ≡ false → s < strips w c → s * w < extent c
unfolding strips
strip-begins c w s wide some h =
    let q = (extent c + w - 1) / w in
    let below : suc s ≤ q = rw some at h in
    let e : q * w + (extent c + w - 1) % w ≡ extent c + w - 1 = div-add-mod' (extent c + w - 1) w in
    omega (arith, mul-le-mul_right w below, suc-mul s w)

-- and a strip that is cut off at the extent is the whole of it
pub strip-clipped : (c : Call) (a b : List Float) (from to : ℕ) (out : List Float) → (in_place c.routine ≡ true → c.m ≤ c.ldb)
    → from ≤ extent c → extent c ≤ to → strip c a b from (extent c) out ≡ strip c a b from to out
strip-clipped c a b from to out room h k = sym (strip-beyond c a b (extent c) to _ (omega arith)) ∙ strip-join c a b out from (extent c) room to h k

module _ (c : Call) (a b : List Float) (w : ℕ) (wide : 0 < w) (room : in_place c.routine ≡ true → c.m ≤ c.ldb) (out : List Float) where
  some-strips : (n : ℕ) → in_turn c a b w n out ≡ strip c a b 0 (n * w) out
  unfolding fold
  some-strips zero = sym (ap (λ (k : ℕ). strip c a b 0 k out) (zero-mul w) ∙ strip-none c a b 0 out)
  some-strips (suc n) =
      ap (λ (o : List Float). strip c a b (n * w) (suc n * w) o) (some-strips n)
      ∙ strip-join c a b out 0 (n * w) room (suc n * w) (omega arith) (rw suc-mul (omega arith))

  -- past the extent there is nothing to write, so all strips reach as far as the call
  pub strips-cover : strip c a b 0 (strips w c * w) out ≡ result c a b out
  unfolding strips result
  strips-cover =
      by-test (empty c)
      (λ e. strip-empty c a b 0 _ out e ∙ sym (strip-empty c a b 0 (extent c) out e))
      (λ e.
      ap (λ (n : ℕ). strip c a b 0 (n * w) out) (if-false (empty c) 1 _ e)
      ∙ sym (strip-join c a b out 0 (extent c) room _ (omega arith) (ceil (extent c) w wide))
      ∙ strip-beyond c a b (extent c) _ _ (omega arith))

  -- The strips of a call, of any width, one after the other leave what the whole call leaves.
  pub strips-are-the-call : in_turn c a b w (strips w c) out ≡ result c a b out
  strips-are-the-call = some-strips (strips w c) ∙ strips-cover

-- a call has at least one strip
pub strips-positive : (c : Call) (w : ℕ) → 0 < w → 0 < strips w c
unfolding strips empty extent
strips-positive c w wide =
    by-test (eqb c.m 0)
    (λ e. rw e (omega arith))
    (λ e. by-test (eqb c.n 0)
    (λ f. rw (e, f) (omega arith))
    (λ f. rw (e, f) (some ((extent c + w - 1) / w) (extent c) (ceil (extent c) w wide) (positive (cuts_rows c.routine c.side) e f))))
  where
    some : (q d : ℕ) → d ≤ q * w → 0 < d → 0 < q
    some zero d h k = omega (arith, zero-mul w)
    some (suc q) d h k = omega arith

    above_zero : (n : ℕ) → eqb n 0 ≡ false → 0 < n
    above_zero zero h = absurd (eqb-false 0 0 h refl)
    above_zero (suc n) h = omega arith

    positive : (rows : Bool) → eqb c.m 0 ≡ false → eqb c.n 0 ≡ false → 0 < (if rows then c.m else c.n)
    positive true e f = above_zero c.m e
    positive false e f = above_zero c.n f
