-- The call for one A and many right sides: its strip width and block size change nothing, 9 and 12 test up to the last item's end, and every C is what its own GEMM gives.
-- Assumes nothing.
use Prim.Native.Nat.{ℕ, zero, suc, ◌+◌, ◌-◌, ◌*◌, ◌/◌, ◌%◌, ◌≤◌, ◌<◌}
use mathlib.Core.Path.{◌≡◌, refl, sym, ap, ◌∙◌}
use mathlib.Core.Logic.{⊎_elim}
use mathlib.Core.Bool.{Bool, true, false, not, ◌&&◌, ◌||◌}
use mathlib.Core.List.{List, [], ◌∷◌, ◌++◌}
use native.Mathlib.Nat.{suc-mul, mul-le-mul_right, div-add-mod', eq-or-lt_of_le, le_of_suc-le-suc}
use native.Mathlib.Omega.{arith}
use lib.Dec.{ltb, eqb}
use lib.IntN.{ℤ, pos}
use lib.ListN.{length, take, drop, length-drop}
use lib.Seq.{drop-drop}
use lib.Ieee.{Float}
use borrow.Author.Tests.{ltb-true, ltb-false, lt-ltb, le-ltb, eqb-true, eqb-false, eq-eqb, ne_eqb}
use Rattle.std.specs.Prelude.{if◌then◌else◌}
use Rattle.arrays.specs.Update.{entries}
use Rattle.arrays.specs.Fold.{fold}
use Rattle.arrays.proofs.Tests.{or_right, if-true, if-false, by-test}
use Rattle.arrays.proofs.UpdateLaws.{length-update, update-drop}
use Rattle.arrays.proofs.EntryLaws.{only_out}
use Rattle.arrays.proofs.PartLaws.{column-room, take_back, drop-back, among_first}
use Rattle.definitions.specs.Storage.{needed}
use Rattle.definitions.specs.Call.{has_m, in_place, empty, ld_output, shape_c, extent, writes}
use Rattle.definitions.specs.Element.{strip, result}
use Rattle.definitions.specs.Check.{negative, nat, 'N', call_of, array-A, array-B, array-C, Place, places, arrays, short, untested, bad, bad_with, first_bad, bad_width}
use Rattle.definitions.specs.Check as Check
use Rattle.definitions.specs.Direct as Direct
use Rattle.definitions.specs.Many.{copied, packed, bad_stride, from_last, first_number, refusal, item, items_of, last_args, many, Done}
use Rattle.definitions.specs.declared.Routine.TheVariants.{Gemm}
use Rattle.definitions.specs.declared.Args.{Args}
use Rattle.definitions.specs.declared.Call.{Call}
use Rattle.definitions.specs.declared.Items.{Items}
use Rattle.definitions.specs.declared.Shape.{Shape}
use Rattle.definitions.proofs.Strips.{not_written}
use Rattle.definitions.proofs.CheckLaws.{column, place_in, has, passed}
use Rattle.definitions.proofs.Fits.{Room, entry-inside}
use Rattle.definitions.proofs.Answers.{direct_is, alike-calls}

-- ---- the numbers

-- "when the array ends before its last item's needed length": what an array has from its last item on is too short for a matrix with elements
pub last-item : (len : ℕ) (stride count : ℤ) (ld : ℕ) (s : Shape) → 0 < needed ld s.rows s.cols
    → short (from_last len stride count) ld s ≡ ltb len ((nat count - 1) * nat stride + needed ld s.rows s.cols)
unfolding short from_last
last-item len stride count ld s h =
    let begin = (nat count - 1) * nat stride in
    let room = needed ld s.rows s.cols in
    by-test (ltb len (begin + room))
    (λ e. lt-ltb (len - begin) room (omega (arith, ltb-true len (begin + room) e)) ∙ sym e)
    (λ e. le-ltb (len - begin) room (omega (arith, ltb-false len (begin + room) e)) ∙ sym e)

-- the number is the same for all widths that are allowed
refusal-alike : (w r w' r' : ℤ) (g : Args) (t : Items) (pack : ℕ) → bad_width w ≡ false → bad_width r ≡ false → bad_width w' ≡ false → bad_width r' ≡ false
    → refusal w r g t pack ≡ refusal w' r' g t pack
unfolding refusal
refusal-alike w r w' r' g t pack hw hr hw' hr' = rw (hw, hr, hw', hr')

-- where the first number is 0, all are
all-zero : (e : ℕ) (es : List ℕ) → first_number (e ∷ es) ≡ 0 → (e ≡ 0) × (first_number es ≡ 0)
unfolding first_number
all-zero e es h =
    by-test (eqb e 0)
    (λ t. (eqb-true e 0 t, sym (if-true (eqb e 0) (first_number es) e t) ∙ h))
    (λ t. absurd (eqb-false e 0 t (sym (if-false (eqb e 0) (first_number es) e t) ∙ h)))

not-given : (b : Bool) (e : ℕ) → (if b then suc e else 0) ≡ 0 → b ≡ false
not-given true e h = absurd (omega arith)
not-given false e h = refl

-- What an accepted call satisfies: allowed widths, no bad argument, a C stride of at least the needed length of C, and room in the pack area for what is copied.
pub record Accepted (w r : ℤ) (g : Args) (t : Items) (pack : ℕ) : Type 0 where
  pub widths : (bad_width w || bad_width r) ≡ false
  pub none-bad : first_bad g (places g.routine) ≡ 0
  pub stride : Room (nat t.stridec) (call_of g).ldc (shape_c (call_of g).routine (call_of g))
  pub no-array-bad : 0 < nat t.count → first_bad g (arrays g.routine) ≡ 0
  pub room : copied (call_of g) (nat t.count) ≤ pack

pub when-accepted : (w r : ℤ) (g : Args) (t : Items) (pack : ℕ) → refusal w r g t pack ≡ 0 → Accepted w r g t pack
unfolding refusal bad_stride short
when-accepted w r g t pack h =
    let places-on = all-zero _ _ h in
    let count-on = all-zero _ _ places-on.1 in
    let stride_on = all-zero _ _ count-on.1 in
    let arrays-on = all-zero _ _ stride_on.1 in
    let pack-on = all-zero _ _ arrays-on.1 in
    record {
      widths = not-given _ 29 places-on.0;
      none-bad = count-on.0;
      stride = ltb-false _ _ (or_right (negative t.strideb || negative t.stridec) _ (not-given _ 42 arrays-on.0));
      no-array-bad = λ some. sym (if-false _ 0 _ (ne_eqb (nat t.count) 0 (λ e. omega arith))) ∙ pack-on.0;
      room = ltb-false _ _ (not-given _ 43 (all-zero _ _ pack-on.1).0);
    }

-- ---- an item's arrays are as long as those of the last one, or longer

-- two lists of arguments none of which is bad, one after the other
pub none-in-both : (g : Args) (ps qs : List Place) → first_bad g ps ≡ 0 → first_bad g qs ≡ 0 → first_bad g (ps ++ qs) ≡ 0
unfolding first_bad
none-in-both g [] qs h k = k
none-in-both g (p ∷ ps) qs h k = go (bad g p.argument) h (λ e. none-in-both g ps qs e k)
  where
    go : (b : Bool) → (if b then p.place else first_bad g ps) ≡ 0 → (first_bad g ps ≡ 0 → first_bad g (ps ++ qs) ≡ 0) → (if b then p.place else first_bad g (ps ++ qs)) ≡ 0
    go true e f = e
    go false e f = f e

-- an array that is long enough still is where it has more elements
still-long : (skip : Bool) (len more ld : ℕ) (s : Shape) → len ≤ more → (not skip && short len ld s) ≡ false → (not skip && short more ld s) ≡ false
unfolding short
still-long true len more ld s h k = refl
still-long false len more ld s h k = le-ltb more _ (omega (arith, ltb-false len _ k))

-- an array has at least as many elements from any item on as from the last
from-item : (stride count : ℤ) (i : ℕ) (l : List Float) → i < nat count → from_last (length l) stride count ≤ length (drop (i * nat stride) l)
unfolding from_last
from-item stride count i l h =
    let early : i ≤ nat count - 1 = omega arith in
    rw length-drop (omega (arith, mul-le-mul_right (nat stride) early))

-- ---- what a direct call leaves as it was

-- a strip changes nothing from the output's needed length on
strip-drop : (c : Call) (a b : List Float) (from to n : ℕ) (out : List Float) → needed (ld_output c) c.m c.n ≤ n → drop n (strip c a b from to out) ≡ drop n out
unfolding strip entries
strip-drop c a b from to n out h =
    let ld = ld_output c in
    update-drop n _ out
    (λ p behind x.
    only_out (writes c from to) _ (p % ld) (p / ld) x
    (not_written c from to (p % ld) (p / ld)
    (λ v. omega (arith, div-add-mod' p ld, entry-inside ld c.m c.n n h (p % ld) (p / ld) v.row v.column))))

-- what the values of a call leave as it was, the direct call leaves so, refused or not
done-keeps : {P : Type 0} (part : List Float → P) (w r : ℤ) (g : Args) (a b out : List Float)
    → part (result (call_of g) a b out) ≡ part out → part (Direct.done w r g a b out).array ≡ part out
done-keeps part w r g a b out h =
    ap (λ (d : Direct.Done). part d.array) (direct_is w r g a b out)
    ∙ by-test (eqb (Check.refusal w r g) 0)
    (λ e. ap part (if-true _ _ out e) ∙ h)
    (λ e. ap part (if-false _ (result (call_of g) a b out) _ e))

-- ---- items one after the other

-- An item's own work keeps the length of what it is handed, and its elements from the stride on.
module _ (own : List Float → List Float → List Float) (strideb stridec : ℕ) (b : List Float)
    (same_length : (x y : List Float) → length (own x y) ≡ length y) (rest-kept : (x y : List Float) → drop stridec (own x y) ≡ drop stridec y) (c : List Float) where
  abbrev after : ℕ → List Float
  after n = fold (item own strideb stridec b) n c

  -- an item changes nothing before its own part
  item-before : (n : ℕ) → take (n * stridec) (after (suc n)) ≡ take (n * stridec) (after n)
  unfolding fold item
  item-before n = take_back (n * stridec) (after n) _ (same_length _ _)

  item-own : (n : ℕ) → drop (n * stridec) (after (suc n)) ≡ own (drop (n * strideb) b) (drop (n * stridec) (after n))
  unfolding fold item
  item-own n = drop-back (n * stridec) (after n) _ (same_length _ _)

  -- what lies behind the items is as it was
  items-rest : (n : ℕ) → drop (n * stridec) (after n) ≡ drop (n * stridec) c
  unfolding fold
  items-rest zero = refl
  items-rest (suc n) =
      simp (suc-mul, ← drop-drop)
      (ap (λ (l : List Float). drop stridec l) (item-own n) ∙ rest-kept _ _ ∙ ap (λ (l : List Float). drop stridec l) (items-rest n))

  -- and an item's part is what its own work leaves of it
  items-own : (n i : ℕ) → i < n → take stridec (drop (i * stridec) (after n)) ≡ take stridec (own (drop (i * strideb) b) (drop (i * stridec) c))
  items-own zero i h = absurd (omega arith)
  items-own (suc n) i h =
      ⊎_elim
      (λ e. rw e (ap (λ (l : List Float). take stridec l) (item-own n ∙ ap (own (drop (n * strideb) b)) (items-rest n))))
      (λ before.
      let within = column-room stridec before in
      sym (among_first (i * stridec) stridec (n * stridec) (after (suc n)) within)
      ∙ ap (λ (l : List Float). take stridec (drop (i * stridec) l)) (item-before n)
      ∙ among_first (i * stridec) stridec (n * stridec) (after n) within
      ∙ items-own n i before)
      (eq-or-lt_of_le (le_of_suc-le-suc h))

  -- work that leaves the same of such parts leaves the same of all
  items-same : (other : List Float → List Float → List Float) (n : ℕ)
      → ((i : ℕ) → i < n → (y : List Float) → length y ≡ length (drop (i * stridec) c) → own (drop (i * strideb) b) y ≡ other (drop (i * strideb) b) y)
      → after n ≡ fold (item other strideb stridec b) n c
  unfolding fold item
  items-same other zero h = refl
  items-same other (suc n) h =
      ap (λ (l : List Float). take (n * stridec) (after n) ++ l) (h n (omega arith) (drop (n * stridec) (after n)) (ap length (items-rest n)))
      ∙ ap (λ (l : List Float). item other strideb stridec b l n) (items-same other n (λ i k. h i (omega arith)))

-- ---- the call

module _ (transb m n k : ℤ) (alpha : Float) (a : List Float) (lda : ℤ) (b : List Float) (ldb strideb : ℤ) (beta : Float) (c : List Float) (ldc stridec items : ℤ) (pack : List Float) where
  abbrev call : ℤ → ℤ → Done
  call w r = many transb m n k alpha a lda b ldb strideb beta c ldc stridec items pack w r

  abbrev last : Args
  last = last_args transb m n k alpha (length a) lda (length b) ldb strideb beta (length c) ldc stridec items

  abbrev layout : Items
  layout = items_of items strideb stridec

  abbrev args : List Float → List Float → Args
  args x y = Direct.gemm_args (pos 'N') transb m n k alpha (length a) lda (length x) ldb beta (length y) ldc

  -- GEMM with x for its B and y for its C
  abbrev gemm : ℤ → ℤ → List Float → List Float → Direct.Done
  gemm w r x y = Direct.gemm (pos 'N') transb m n k alpha a lda x ldb beta y ldc w r

  -- Two calls that are alike except in strip widths and block sizes, each 0 to 64, end alike.
  pub alike-many : (w r w' r' : ℤ) → bad_width w ≡ false → bad_width r ≡ false → bad_width w' ≡ false → bad_width r' ≡ false → call w r ≡ call w' r'
  unfolding many Direct.gemm
  alike-many w r w' r' hw hr hw' hr' =
      let number = refusal-alike w r w' r' last layout (length pack) hw hr hw' hr' in
      λ i. ended (number i) (λ x y. (alike-calls w r w' r' (args x y) a x y hw hr hw' hr' i).array)
    where
      ended : ℕ → (List Float → List Float → List Float) → Done
      ended e own =
          let n = if eqb e 0 then copied (call_of last) (nat items) else 0 in
          record {
            end = record { number = pos e; copied = n };
            array = if eqb e 0 then fold (item own (nat strideb) (nat stridec) b) (nat items) c else c;
            pack = packed (call_of last) a n pack;
          }

  module _ (w r : ℤ) (accepted : refusal w r last layout (length pack) ≡ 0) where
    same_length : (x y : List Float) → length (gemm w r x y).array ≡ length y
    unfolding Direct.gemm result strip
    same_length x y = done-keeps length w r (args x y) a x y (length-update _ y)

    rest-kept : (x y : List Float) → drop (nat stridec) (gemm w r x y).array ≡ drop (nat stridec) y
    unfolding Direct.gemm result call_of has_m ld_output in_place shape_c
    rest-kept x y =
        done-keeps (λ l. drop (nat stridec) l) w r (args x y) a x y
        (strip-drop (call_of (args x y)) a x 0 (extent (call_of (args x y))) (nat stridec) y (when-accepted w r last layout (length pack) accepted).stride)

    all-items : (call w r).array ≡ fold (item (λ x y. (gemm w r x y).array) (nat strideb) (nat stridec) b) (nat items) c
    unfolding many
    all-items = ap (λ (e : ℕ). if eqb e 0 then fold (item (λ x y. (gemm w r x y).array) (nat strideb) (nat stridec) b) (nat items) c else c) accepted

    -- "Every C is what its own GEMM gives", from the arrays as they were at entry
    pub own-gemm : (i : ℕ) → i < nat items
        → take (nat stridec) (drop (i * nat stridec) (call w r).array) ≡ take (nat stridec) (gemm w r (drop (i * nat strideb) b) (drop (i * nat stridec) c)).array
    own-gemm i h =
        ap (λ (l : List Float). take (nat stridec) (drop (i * nat stridec) l)) all-items
        ∙ items-own (λ x y. (gemm w r x y).array) (nat strideb) (nat stridec) b same_length rest-kept c (nat items) i h

    -- and what lies behind all of them is as it was
    pub behind-items : drop (nat items * nat stridec) (call w r).array ≡ drop (nat items * nat stridec) c
    behind-items =
        ap (λ (l : List Float). drop (nat items * nat stridec) l) all-items
        ∙ items-rest (λ x y. (gemm w r x y).array) (nat strideb) (nat stridec) b same_length rest-kept c (nat items)

    -- a GEMM whose arrays have at least what they have from the last item on is accepted
    accepts : (x y : List Float) → 0 < nat items → from_last (length b) strideb items ≤ length x → from_last (length c) stridec items ≤ length y
        → Check.refusal w r (args x y) ≡ 0
    unfolding Check.refusal places arrays first_bad bad bad_with call_of in_place has place_in column
    accepts x y some hx hy =
        let own = args x y in
        let ok = when-accepted w r last layout (length pack) accepted in
        let none = none-in-both last (places Gemm) (arrays Gemm) ok.none-bad (ok.no-array-bad some) in
        if-false (bad_width w || bad_width r) 30 _ ok.widths
        ∙ none-in-both own (places Gemm) (arrays Gemm) ok.none-bad
        (if-false (bad own array-A) 7 _ (passed last array-A Gemm none refl)
        ∙ if-false (bad own array-B) 9 _ (still-long (untested (call_of own)) _ _ _ _ hx (passed last array-B Gemm none refl))
        ∙ if-false (bad own array-C) 12 _ (still-long (empty (call_of own)) _ _ _ _ hy (passed last array-C Gemm none refl)))

    -- and each own GEMM is accepted
    pub own-accepted : (i : ℕ) → i < nat items → (gemm w r (drop (i * nat strideb) b) (drop (i * nat stridec) c)).number ≡ pos 0
    unfolding Direct.gemm
    own-accepted i h =
        let x = drop (i * nat strideb) b in
        let y = drop (i * nat stridec) c in
        ap (λ (d : Direct.Done). d.number) (direct_is w r (args x y) a x y)
        ∙ ap pos (accepts x y (omega arith) (from-item strideb items i b h) (from-item stridec items i c h))

    -- so that each leaves the values of the call
    pub items-result : (call w r).array ≡ fold (item (result (call_of last) a) (nat strideb) (nat stridec) b) (nat items) c
    unfolding Direct.gemm call_of
    items-result =
        all-items
        ∙ items-same (λ x y. (gemm w r x y).array) (nat strideb) (nat stridec) b same_length rest-kept c (result (call_of last) a) (nat items)
        (λ i h y e.
        let x = drop (i * nat strideb) b in
        ap (λ (d : Direct.Done). d.array) (direct_is w r (args x y) a x y)
        ∙ if-true _ _ y (eq-eqb _ 0 (accepts x y (omega arith) (from-item strideb items i b h) (omega (arith, from-item stridec items i c h)))))
