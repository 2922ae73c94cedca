-- What a call that is not refused has for its items: room in all arrays, and the panel where it is looked for.
-- Assumes nothing.
use Prim.Native.Nat.{ℕ, zero, suc, ◌+◌, ◌-◌, ◌*◌, ◌≤◌, ◌<◌}
use mathlib.Core.Path.{◌≡◌, refl, sym, ap, subst, ◌∙◌}
use mathlib.Core.Bool.{Bool, true, false, not, ◌&&◌, ◌||◌, and-false, true≢false}
use mathlib.Core.List.{List}
use native.Mathlib.Nat.{mul-suc, mul_comm, mul-le-mul_right}
use native.Mathlib.Omega.{arith}
use lib.Dec.{eqb}
use lib.IntN.{ℤ, pos}
use lib.ListN.{length, get_or}
use lib.Seq.{get_or-take}
use lib.Ieee.{Float, nan}
use borrow.Author.Tests.{eq-eqb, ne_eqb, eqb-true, not-true}
use Rattle.std.specs.Prelude.{if◌then◌else◌}
use Rattle.arrays.specs.Fold.{fold}
use Rattle.arrays.proofs.Tests.{and_left, or_left, or_right, or-both, if-true, if-false, by-test}
use Rattle.arrays.proofs.UpdateLaws.{length-update, at-update, below_in}
use Rattle.arrays.proofs.EntryLaws.{entry}
use Rattle.arrays.proofs.PartLaws.{column-room}
use Rattle.definitions.specs.Number.{is_zero}
use Rattle.definitions.specs.Storage.{needed, stored}
use Rattle.definitions.specs.Call.{has_m, has_k, in_place, empty, start_only, stored_as, shape_a, shape_b, shape_c}
use Rattle.definitions.specs.Check.{nat, untested, idle, bad_width, width, call_of}
use Rattle.definitions.specs.Element.{result}
use Rattle.definitions.specs.Many.{copies, copied, packed, from_last, refusal, copied_by, item, items_of, last_args, many}
use Rattle.definitions.specs.declared.Routine.{Routine}
use Rattle.definitions.specs.declared.Routine.TheVariants.{Gemm}
use Rattle.definitions.specs.declared.Transpose.{Transpose}
use Rattle.definitions.specs.declared.Transpose.TheVariants.{No}
use Rattle.definitions.specs.declared.Args.{Args}
use Rattle.definitions.specs.declared.Call.{Call}
use Rattle.definitions.specs.declared.Items.{Items}
use Rattle.definitions.specs.declared.ManyEnd.{ManyEnd}
use Rattle.definitions.proofs.CheckLaws.{above_zero, in-range}
use Rattle.definitions.proofs.Fits.{Room, Fits, entry-inside, accepted-fits}
use Rattle.definitions.proofs.ManyLaws.{none-in-both, when-accepted, items-result}
use Rattle.strips.specs.Lengths.{FitsArrays}
use Rattle.many.specs.Panel.{panel_size, panel_of, over_panel, Prepared, OfLast}
use Rattle.many.proofs.PanelLaws.{copied-own, copied-panel}

-- columns without padding need as many elements as they have
needed-full : (m k : ℕ) → 0 < m → 0 < k → needed m m k ≡ m * k
unfolding needed
needed-full zero k h i = absurd (omega arith)
needed-full (suc m) zero h i = absurd (omega arith)
needed-full (suc m) (suc k) h i = sym (mul-suc (suc m) k)

-- ---- a GEMM that fits, A as it is stored

module _ (c : Call) (is : c.routine ≡ Gemm) (plain : c.transa ≡ No) (la lb lc : ℕ) (h : Fits c.routine c la lb lc) where
  gemm-fits : Fits Gemm c la lb lc
  gemm-fits = subst (λ (f : Routine). Fits f c la lb lc) is h

  some-terms : start_only c ≡ false → 0 < c.k
  unfolding start_only has_k
  some-terms s = above_zero c.k (ap (λ (f : Routine). has_k f && eqb c.k 0) (sym is) ∙ or_right (is_zero c.alpha) _ s)

  reads : is_zero c.alpha ≡ false → 0 < c.k → start_only c ≡ false
  unfolding start_only has_k
  reads z k = or-both (is_zero c.alpha) _ z (ap (λ (f : Routine). has_k f && eqb c.k 0) is ∙ ne_eqb c.k 0 (λ e. omega arith))

  tested : start_only c ≡ false → untested c ≡ false
  unfolding untested empty
  tested s =
      or-both (empty c) (start_only c)
      (or-both (eqb c.m 0) (eqb c.n 0) (ne_eqb c.m 0 (λ e. omega (arith, h.some-rows))) (ne_eqb c.n 0 (λ e. omega (arith, h.some-columns)))) s

  whole-panel : start_only c ≡ false → panel_size c ≡ c.m * c.k
  unfolding panel_size
  whole-panel s = if-false (untested c) 0 _ (tested s)

  no-panel : start_only c ≡ true → panel_size c ≡ 0
  unfolding panel_size untested
  no-panel s = by-test (empty c) (λ e. rw e) (λ e. rw (e, s))

  columns-fit : c.m ≤ c.lda
  unfolding shape_a stored_as
  columns-fit = rw plain at gemm-fits.ld-a

  columns-there : start_only c ≡ false → needed c.lda c.m c.k ≤ la
  unfolding shape_a stored_as
  columns-there s = rw plain at (gemm-fits.room-a s)

  -- over the panel, with longer B and C
  over : (lb' lc' : ℕ) → lb ≤ lb' → lc ≤ lc' → Fits Gemm (over_panel c) (panel_size c) lb' lc'
  unfolding over_panel in_place has_m start_only shape_a shape_b shape_c stored_as
  over lb' lc' hb hc = record {
    routine-is = is;
    some-rows = h.some-rows;
    some-columns = h.some-columns;
    square = gemm-fits.square;
    ld-a = subst (λ (t : Transpose). (stored_as t c.m c.k).rows ≤ c.m) (sym plain) (omega arith);
    ld-b = gemm-fits.ld-b;
    ld-c = gemm-fits.ld-c;
    room-a = λ s. subst (λ (t : Transpose). Room (panel_size c) c.m (stored_as t c.m c.k)) (sym plain)
        (omega (arith, needed-full c.m c.k h.some-rows (some-terms s), whole-panel s));
    room-b = λ s. omega (arith, gemm-fits.room-b s);
    room-written-b = λ e. absurd (true≢false (sym e));
    room-c = omega (arith, gemm-fits.room-c);
  }

  panel-fits : (lb' lc' : ℕ) → lb ≤ lb' → lc ≤ lc' → FitsArrays (over_panel c) (panel_size c) lb' lc'
  unfolding over_panel in_place
  panel-fits lb' lc' hb hc = subst (λ (f : Routine). Fits f (over_panel c) (panel_size c) (if in_place f then lc' else lb') lc') (sym is) (over lb' lc' hb hc)

  -- C has an element
  some-C : 0 < lc
  unfolding shape_c
  some-C = omega (arith, entry-inside c.ldc c.m c.n lc gemm-fits.room-c 0 0 h.some-rows h.some-columns)

  -- ---- the panel

  module _ (count n : ℕ) (some : eqb count 0 ≡ false) (en : n ≡ copied c count) (a pack packs : List Float) (ea : la ≡ length a) (np : n ≤ length pack) (ep : packs ≡ packed c a n pack) where
    -- where a copy is made the panel is all that is copied
    by-owner : (P : Bool → Type 0) → (c.lda ≡ c.m → P true) → (panel_size c ≡ n → P (eqb n 0)) → P (eqb n 0)
    by-owner P own copy =
        by-test (eqb c.lda c.m)
        (λ e. let z : n ≡ 0 = en ∙ sym (copied-own c count (eqb-true _ _ e)) in subst P (sym (eq-eqb n 0 z)) (own (eqb-true _ _ e)))
        (λ e. copy (copied-panel c count some e ∙ sym en))

    packs-length : length packs ≡ length pack
    unfolding packed
    packs-length = ap length ep ∙ length-update _ pack

    has_room : panel_size c ≤ length (if eqb n 0 then a else packs)
    has_room =
        by-owner (λ b. panel_size c ≤ length (if b then a else packs))
        (λ own. by-test (start_only c)
        (λ s. omega (arith, no-panel s))
        (λ s.
        let there = subst (λ (ld : ℕ). needed ld c.m c.k ≤ la) own (columns-there s) in
        omega (arith, whole-panel s, needed-full c.m c.k h.some-rows (some-terms s), there, ea)))
        (λ e. by-test (eqb n 0)
        (λ z. omega (arith, e, eqb-true n 0 z))
        (λ z. subst (λ (l : List Float). panel_size c ≤ length l) (sym (if-false (eqb n 0) a packs z)) (omega (arith, e, packs-length))))

    copied-entry : (i l : ℕ) → i < c.m → l * c.m + i < n → get_or packs (l * c.m + i) nan ≡ stored nan a c.lda i l
    unfolding packed
    copied-entry i l hi hp =
        ap (λ (x : List Float). get_or x (l * c.m + i) nan) ep
        ∙ at-update _ pack (l * c.m + i) nan (omega arith)
        ∙ below_in n _ (l * c.m + i) _ hp
        ∙ entry c.m (λ i l old. stored nan a c.lda i l) i l (l * c.m + i) _ hi refl

    same_entries : is_zero c.alpha ≡ false → (i l : ℕ) → i < c.m → l < c.k → stored nan (panel_of c (eqb n 0) a packs) c.m i l ≡ stored nan a c.lda i l
    unfolding stored
    same_entries z i l hi hl =
        let s = reads z (omega arith) in
        let p = l * c.m + i in
        let inside : p < panel_size c = omega (arith, whole-panel s, column-room c.m hl, mul_comm c.m c.k) in
        get_or-take (panel_size c) (if eqb n 0 then a else packs) p nan inside
        ∙ by-owner (λ b. get_or (if b then a else packs) p nan ≡ get_or a (l * c.lda + i) nan)
        (λ own. ap (λ (ld : ℕ). get_or a (l * ld + i) nan) (sym own))
        (λ e.
        ap (λ (x : List Float). get_or x p nan) (if-false (eqb n 0) a packs (ne_eqb n 0 (λ y. omega arith)))
        ∙ copied-entry i l hi (omega arith))

    -- all that the items ask for
    all-prepared : (lenb lenc strideb stridec : ℕ) → lb ≡ lenb - (count - 1) * strideb → lc ≡ lenc - (count - 1) * stridec
        → Prepared c (eqb n 0) a packs lenb lenc strideb stridec count
    all-prepared lenb lenc strideb stridec eb ec = record {
      is-gemm = is;
      plain = plain;
      room = has_room;
      same = same_entries;
      fits = λ i hi.
          let early : i ≤ count - 1 = omega arith in
          let b = mul-le-mul_right strideb early in
          let d = mul-le-mul_right stridec early in
          (omega (arith, some-C, d), panel-fits (lenb - i * strideb) (lenc - i * stridec) (omega (arith, b)) (omega (arith, d)));
    }

-- ---- a call that is not refused

-- where something is copied there are items, and something to do, and it is m·k elements
copying : (c : Call) (count : ℕ) → 0 < copied c count → (0 < count) × (idle c ≡ false) × (start_only c ≡ false) × (copied c count ≡ c.m * c.k)
unfolding copied copies untested idle
copying c count h =
    by-test (copies c count)
    (λ e.
    let read = not-true _ (and_left (not (eqb count 0 || untested c)) _ e) in
    let tested = or_right (eqb count 0) _ read in
    let s = or_right (empty c) _ tested in (
      above_zero count (or_left (eqb count 0) _ read),
      or-both (empty c) _ (or_left (empty c) _ tested) (rw s (and-false (not (in_place c.routine)))),
      s,
      if-true (copies c count) _ 0 e,
    ))
    (λ e. absurd (omega (arith, if-false (copies c count) (c.m * c.k) 0 e)))

module _ (w r : ℤ) (g : Args) (t : Items) (lena lenb lenc pack : ℕ) (of : OfLast g t lena lenb lenc) (accepted : refusal w r g t pack ≡ 0) where
  -- the last item's GEMM fits
  last_fits : 0 < nat t.count → idle (call_of g) ≡ false
      → Fits (call_of g).routine (call_of g) lena (from_last lenb t.strideb t.count) (from_last lenc t.stridec t.count)
  last_fits some busy =
      let ok = when-accepted w r g t pack accepted in
      let f = accepted-fits g (none-in-both g _ _ ok.none-bad (ok.no-array-bad some)) busy in
      subst (λ (n : ℕ). Fits (call_of g).routine (call_of g) n (from_last lenb t.strideb t.count) (from_last lenc t.stridec t.count)) of.has-a
      (subst (λ (n : ℕ). Fits (call_of g).routine (call_of g) g.lena n (from_last lenc t.stridec t.count)) of.has-b
      (subst (λ (n : ℕ). Fits (call_of g).routine (call_of g) g.lena g.lenb n) of.has-c f))

  module _ (c : Call) (strideb stridec count n : ℕ) (ec : c ≡ call_of g) (eb : strideb ≡ nat t.strideb) (es : stridec ≡ nat t.stridec) (et : count ≡ nat t.count) (en : n ≡ copied c count) where
    call_fits : 0 < count → idle c ≡ false → Fits c.routine c lena (from_last lenb t.strideb t.count) (from_last lenc t.stridec t.count)
    call_fits some busy =
        subst (λ (c : Call). Fits c.routine c lena (from_last lenb t.strideb t.count) (from_last lenc t.stridec t.count)) (sym ec)
        (last_fits (omega arith) (ap idle (sym ec) ∙ busy))

    routine : c.routine ≡ Gemm
    unfolding call_of
    routine = ap (λ (c : Call). c.routine) ec ∙ of.is-gemm

    as-stored : c.transa ≡ No
    as-stored = ap (λ (c : Call). c.transa) ec ∙ of.plain

    room : n ≤ pack
    room =
        let e : copied c count ≡ copied (call_of g) (nat t.count) = λ i. copied (ec i) (et i) in
        omega (arith, en, e, (when-accepted w r g t pack accepted).room)

    pub fills : (0 < n → (n ≡ c.m * c.k) × (0 < c.m) × (c.m ≤ c.lda) × (needed c.lda c.m c.k ≤ lena)) × (n ≤ pack)
    fills = (
      λ some.
          let h = copying c count (omega arith) in
          let f = call_fits h.0 h.1 in
          (en ∙ h.3, f.some-rows, columns-fit c routine as-stored _ _ _ f, columns-there c routine as-stored _ _ _ f h.2),
      room,
    )

    pub prepared : (a pack₀ packs : List Float) → lena ≡ length a → pack ≡ length pack₀ → packs ≡ packed c a n pack₀
        → 0 < count → idle c ≡ false → Prepared c (eqb n 0) a packs lenb lenc strideb stridec count
    unfolding from_last
    prepared a pack₀ packs ea ep eq some busy =
        all-prepared c routine as-stored _ _ _ (call_fits some busy) count n (ne_eqb count 0 (λ z. omega arith)) en a pack₀ packs ea (omega (arith, room)) eq lenb lenc strideb stridec
        (sym (λ i. lenb - (et i - 1) * eb i)) (sym (λ i. lenc - (et i - 1) * es i))

  pub widths : (v u : ℕ) → v ≡ width w → u ≡ width r → (0 < v) × (v ≤ 64) × (0 < u) × (u ≤ 64)
  widths v u ev eu =
      let ok = (when-accepted w r g t pack accepted).widths in
      let x = in-range w (or_left (bad_width w) (bad_width r) ok) in
      let y = in-range r (or_right (bad_width w) (bad_width r) ok) in
      (omega (arith, x), omega (arith, x), omega (arith, y), omega (arith, y))

-- ---- the call as it is defined

pub is-many : (transb m n k : ℤ) (alpha : Float) (a : List Float) (lda : ℤ) (b : List Float) (ldb strideb : ℤ) (beta : Float) (c : List Float) (ldc stridec items : ℤ) (pack : List Float) (w r : ℤ)
    (x : ManyEnd) (ys ps : List Float)
    → let g = last_args transb m n k alpha (length a) lda (length b) ldb strideb beta (length c) ldc stridec items in
    let t = items_of items strideb stridec in
    let e = refusal w r g t (length pack) in
    (x.number ≡ pos e) × (x.copied ≡ copied_by w r g t (length pack))
    × (ys ≡ (if eqb e 0 then fold (item (result (call_of g) a) (nat strideb) (nat stridec) b) (nat items) c else c)) × (ps ≡ packed (call_of g) a (copied_by w r g t (length pack)) pack)
    → let d = many transb m n k alpha a lda b ldb strideb beta c ldc stridec items pack w r in
    (x ≡ d.end) × (ys ≡ d.array) × (ps ≡ d.pack)
unfolding many
is-many transb m n k alpha a lda b ldb strideb beta c ldc stridec items pack w r x ys ps h =
    let g = last_args transb m n k alpha (length a) lda (length b) ldb strideb beta (length c) ldc stridec items in
    let e = refusal w r g (items_of items strideb stridec) (length pack) in (
      (λ i. record { number = h.0 i; copied = h.1 i }),
      h.2
          ∙ by-test (eqb e 0)
          (λ z. if-true (eqb e 0) _ c z ∙ sym (items-result transb m n k alpha a lda b ldb strideb beta c ldc stridec items pack w r (eqb-true e 0 z)))
          (λ z. if-false (eqb e 0) _ c z ∙ sym (if-false (eqb e 0) _ c z)),
      h.3,
    )
