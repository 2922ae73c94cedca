-- Laws of the coefficients within a diagonal block: the elements after one of them or before it, and a row or a column of the buffer more.
-- Assumes nothing.
use mathlib.Core.Bool.{Bool, true, false, not, true≢false}
use mathlib.Core.Path.{◌≡◌, refl, sym, ap, subst, ◌∙◌}
use mathlib.Core.Logic.{⊎_elim}
use mathlib.Core.List.{List, ◌++◌}
use Prim.Native.Nat.{ℕ, ◌+◌, ◌-◌, ◌*◌, ◌<◌, ◌≤◌}
use native.Mathlib.Omega.{arith}
use lib.ListN.{length, get_or, take, drop, get_or-append}
use lib.Seq.{length-take-le, get_or-take, get_or-append-add}
use lib.Ieee.{Float, nan}
use borrow.Rule.Slice.PartMut.{put_mid, same_len_mid}
use Rattle.std.specs.Prelude.{if◌then◌else◌}
use Rattle.arrays.specs.Update.{EntryMap, update, below, only, box, region}
use Rattle.arrays.proofs.UpdateLaws.{lt-or-ge, length-update, at-update, below_in}
use Rattle.arrays.proofs.EntryLaws.{entry_kept, only-keep}
use Rattle.arrays.proofs.PartLaws.{tail_at, tail-length, put-tail}
use Rattle.arrays.proofs.RegionLaws.{region-at, region-keep, region-block}
use Rattle.floats.specs.Array.{at}
use Rattle.definitions.specs.declared.Transpose.{Transpose}
use Rattle.definitions.specs.declared.Transpose.TheVariants.{No, Yes}
use Rattle.packing.specs.Factor.{index_of, entry_of, turn}
use Rattle.packing.proofs.FactorLaws.{turn_up, turn-down, turn_below}
use Rattle.forms.specs.Forms.{op_form}
use Rattle.lines.specs.Lines.{within, coefficient, by_columns, Beside, RowOf, ColumnOf}
use Rattle.lines.proofs.GridLaws.{by-within}

-- ---- the elements after element k, or before it: `count` of n elements from lo on

abbrev first_beside : Bool → ℕ → ℕ
first_beside after k = if after then k + 1 else 0

abbrev count_beside : Bool → ℕ → ℕ → ℕ
count_beside after n k = if after then n - 1 - k else k

pub run_room : (after : Bool) (n k lo count : ℕ) → lo ≡ first_beside after k → count ≡ count_beside after n k → k < n → lo + count ≤ n
run_room true n k lo count el ec h = omega arith
run_room false n k lo count el ec h = omega arith

in-run : (after : Bool) (n k lo count p : ℕ) → lo ≡ first_beside after k → count ≡ count_beside after n k → p < n → Beside after k p → (lo ≤ p) × (p < lo + count)
in-run true n k lo count p el ec h b = (omega arith, omega arith)
in-run false n k lo count p el ec h b = (omega arith, omega arith)

pub other-side : (after : Bool) (i p : ℕ) → Beside after i p → Beside (not after) p i
other-side true i p b = b
other-side false i p b = b

turns-apart : (down : Bool) (n p k : ℕ) → p < k → k < n → turn down n p ≡ turn down n k → ⊥
unfolding turn
turns-apart false n p k h b e = omega arith
turns-apart true n p k h b e = omega arith

-- ---- a part that was lent and came back

updated-part : {A : Type 0} (a : ℕ) (l ys : List A) (f : ℕ → A → A) → ys ≡ update f (take (length l - a) (drop a l)) → length (put_mid a (length l - a) l ys) ≡ length l
updated-part a l ys f e = same_len_mid a (length l - a) l ys (ap length e ∙ length-update _ _)

module _ {A : Type 0} (a : ℕ) (l ys : List A) (d : A) (al : a ≤ length l) where
  part-before : (p : ℕ) → p < a → get_or (put_mid a (length l - a) l ys) p d ≡ get_or l p d
  part-before p b =
      ap (λ (k : List A). get_or k p d) (put-tail a l ys al)
      ∙ get_or-append (take a l) ys d p (omega (arith, length-take-le a l al)) ∙ get_or-take a l p d b

  part-at : (i : ℕ) → get_or (put_mid a (length l - a) l ys) (a + i) d ≡ get_or ys i d
  part-at i =
      ap (λ (k : List A). get_or k (a + i) d) (put-tail a l ys al)
      ∙ subst (λ (n : ℕ). get_or (take a l ++ ys) (n + i) d ≡ get_or ys i d) (length-take-le a l al) (get_or-append-add (take a l) ys i d)

-- ---- one row of the buffer

pub row_up : {down : Bool} (n lo count : ℕ) (a v ys : List Float) → down ≡ false → lo + count ≤ n → n ≤ length v
    → ys ≡ update (below count (λ y _. at a y)) (take (length v - lo) (drop lo v))
    → RowOf down n lo count a v (put_mid lo (length v - lo) v ys)
row_up n lo count a v ys d hc hv e = record {
  same_length = updated-part lo v ys _ e;
  held = λ y h.
      ap (at (put_mid lo (length v - lo) v ys)) (turn_up n (lo + y) d)
      ∙ part-at lo v ys nan (omega arith) y ∙ ap (λ (l : List Float). at l y) e ∙ at-update _ _ y nan (omega (arith, tail-length lo v))
      ∙ below_in count _ y _ h;
}

pub row-down : {down : Bool} (n lo count to : ℕ) (a v ys : List Float) → down ≡ true → lo + count ≤ n → n ≤ length v → to ≡ n - (lo + count)
    → ys ≡ update (below count (λ y _. at a (count - 1 - y))) (take (length v - to) (drop to v))
    → RowOf down n lo count a v (put_mid to (length v - to) v ys)
row-down n lo count to a v ys d hc hv et e = record {
  same_length = updated-part to v ys _ e;
  held = λ y h.
      let z : ℕ = count - 1 - y in
      ap (at (put_mid to (length v - to) v ys)) (turn-down n (lo + y) d ∙ (let k : n - 1 - (lo + y) ≡ to + (count - 1 - y) = omega arith in k))
      ∙ part-at to v ys nan (omega arith) z ∙ ap (λ (l : List Float). at l z) e ∙ at-update _ _ z nan (omega (arith, tail-length to v))
      ∙ below_in count _ z _ (omega arith) ∙ ap (at a) (let k : count - 1 - (count - 1 - y) ≡ y = omega arith in k);
}

-- ---- place q of some rows

module _ (q lo count to : ℕ) (a v ys : List Float) (hq : q < 64) (hc : lo + count ≤ 64) (hv : 4096 ≤ length v) (et : to ≡ lo * 64 + q) (al : to ≤ length v)
    (e : ys ≡ update (region 64 1 count (λ y x _. at a x)) (take (length v - to) (drop to v))) where
  abbrev placed : EntryMap Float
  placed i j x = if within q 1 i then (if within lo count j then at a (j - lo) else x) else x

  placed-in : (j : ℕ) (x : Float) → j < count → placed q (lo + j) x ≡ at a j
  placed-in j x h =
      by-within q 1 q _ _ _
      (λ u w. by-within lo count (lo + j) _ _ _ (λ u w. ap (at a) (omega arith)) (λ u. let z : ⊥ = omega arith in absurd z) (λ u. let z : ⊥ = omega arith in absurd z))
      (λ u. let z : ⊥ = omega arith in absurd z)
      (λ u. let z : ⊥ = omega arith in absurd z)

  placed-out : (i j : ℕ) (x : Float) → (q ≤ i → i < q + 1 → lo ≤ j → j < lo + count → ⊥) → placed i j x ≡ x
  placed-out i j x out =
      by-within q 1 i _ _ _ (λ u w. by-within lo count j _ _ _ (λ b c. absurd (out u w b c)) (λ b. refl) (λ b. refl)) (λ u. refl) (λ u. refl)

  is-placed : put_mid to (length v - to) v ys ≡ update (region 64 64 64 placed) v
  is-placed =
      region-block nan 64 (omega arith) q lo 1 count 64 64 to (λ i j x. x) _ placed v v ys et (omega arith) (omega arith) hc al
      (region-keep 64 64 64 _ v (λ i j hi hj x. refl)) e
      (λ i j hi hj x. sym (ap (λ (r : ℕ). placed r (lo + j) x) (omega arith) ∙ placed-in j x hj))
      (λ i j hi hj out x. sym (placed-out i j x out))

  pub column-of : ColumnOf q lo count a v (put_mid to (length v - to) v ys)
  unfolding region
  column-of = record {
    same_length = updated-part to v ys _ e;
    held = λ y h.
        ap (λ (l : List Float). at l ((lo + y) * 64 + q)) is-placed
        ∙ at-update (region 64 64 64 placed) v ((lo + y) * 64 + q) nan (omega arith)
        ∙ region-at 64 64 64 placed q (lo + y) _ hq hq (omega arith)
        ∙ placed-in y _ h;
    kept = λ i p h apart.
        ap (λ (l : List Float). at l (i * 64 + p)) is-placed
        ∙ entry_kept nan 64 (only (box 64 64) placed) v p i h
        (λ x. only-keep (box 64 64) placed p i x (placed-out p i x (λ u w b c. apart (omega arith))));
  }

-- none of them
pub column-none : (q lo count : ℕ) (a v : List Float) → count ≡ 0 → ColumnOf q lo count a v v
column-none q lo count a v e = record { same_length = refl; held = λ y h. let z : ⊥ = omega arith in absurd z; kept = λ i p h z. refl }

-- ---- the loops: k columns of A are done

module _ (after down : Bool) (a : List Float) (lda x0 n : ℕ) where
  -- those are the coefficients of the elements below k
  abbrev pub Rows : ℕ → List Float → Type 0
  Rows k v = (i p : ℕ) → i < k → p < n → Beside after i p → at v (i * 64 + turn down n p) ≡ at a ((x0 + i) * lda + (x0 + p))

  -- those of the terms of the elements below k
  abbrev pub Places : ℕ → List Float → Type 0
  Places k v = (i p : ℕ) → i < n → p < k → Beside after p i → at v (i * 64 + turn down n p) ≡ at a ((x0 + p) * lda + (x0 + i))

  module _ (k lo count from : ℕ) (few : n ≤ 64) (low : k < n) (ef : from ≡ (x0 + k) * lda + (x0 + lo)) where
    pub row_more : lo ≡ first_beside after k → count ≡ count_beside after n k → (to : ℕ) (v ys : List Float) → to ≡ k * 64 → to ≤ length v → Rows k v
        → RowOf down n lo count (take (length a - from) (drop from a)) (take (length v - to) (drop to v)) ys
        → Rows (k + 1) (put_mid to (length v - to) v ys)
    row_more el ec to v ys et al done new i p hi hp b =
        ⊎_elim
        (λ (h : i < k).
        part-before to v ys nan al (i * 64 + turn down n p) (omega (arith, turn_below down n p hp)) ∙ done i p h hp b)
        (λ h.
        let s : k ≡ i = omega arith in
        let w = in-run after n k lo count p el ec hp (subst (λ (j : ℕ). Beside after j p) (sym s) b) in
        let y : ℕ = p - lo in
        ap (at (put_mid to (length v - to) v ys)) (let z : i * 64 + turn down n p ≡ to + turn down n p = omega arith in z)
        ∙ part-at to v ys nan al (turn down n p)
        ∙ ap (λ (j : ℕ). at ys (turn down n j)) (let z : p ≡ lo + (p - lo) = omega (arith, w) in z)
        ∙ new.held y (omega (arith, w))
        ∙ tail_at from a y nan
        ∙ ap (at a) (let z : from + (p - lo) ≡ (x0 + k) * lda + (x0 + p) = omega (arith, w) in z)
        ∙ ap (λ (j : ℕ). at a ((x0 + j) * lda + (x0 + p))) s)
        (lt-or-ge i k)

    pub place-more : lo ≡ first_beside after k → count ≡ count_beside after n k → (q : ℕ) (v r : List Float) → q ≡ turn down n k → Places k v
        → ColumnOf q lo count (take (length a - from) (drop from a)) v r
        → Places (k + 1) r
    place-more el ec q v r eq done new i p hi hp b =
        ⊎_elim
        (λ (h : p < k).
        new.kept i (turn down n p) (omega (arith, turn_below down n p (omega arith))) (λ z. turns-apart down n p k h low (z ∙ eq)) ∙ done i p hi h b)
        (λ h.
        let s : k ≡ p = omega arith in
        let w = in-run after n k lo count i el ec hi (subst (λ (j : ℕ). Beside after j i) (sym s) b) in
        let y : ℕ = i - lo in
        ap (λ (j : ℕ). at r (i * 64 + turn down n j)) (sym s)
        ∙ ap (λ (j : ℕ). at r (i * 64 + j)) (sym eq)
        ∙ ap (λ (j : ℕ). at r (j * 64 + q)) (let z : i ≡ lo + (i - lo) = omega (arith, w) in z)
        ∙ new.held y (omega (arith, w))
        ∙ tail_at from a y nan
        ∙ ap (at a) (let z : from + (i - lo) ≡ (x0 + k) * lda + (x0 + i) = omega (arith, w) in z)
        ∙ ap (λ (j : ℕ). at a ((x0 + j) * lda + (x0 + i))) s)
        (lt-or-ge p k)

-- ---- where the coefficients stand

pub columns-are : (left : Bool) (t : Transpose) (a : List Float) (lda i p : ℕ) → by_columns left t ≡ true → at a (i * lda + p) ≡ coefficient left (entry_of (op_form t) a lda) i p
unfolding coefficient entry_of index_of
columns-are true No a lda i p e = absurd (true≢false (sym e))
columns-are false No a lda i p e = refl
columns-are true Yes a lda i p e = refl
columns-are false Yes a lda i p e = absurd (true≢false (sym e))

pub rows_are : (left : Bool) (t : Transpose) (a : List Float) (lda i p : ℕ) → by_columns left t ≡ false → at a (p * lda + i) ≡ coefficient left (entry_of (op_form t) a lda) i p
unfolding coefficient entry_of index_of
rows_are true No a lda i p e = refl
rows_are false No a lda i p e = absurd (true≢false e)
rows_are true Yes a lda i p e = absurd (true≢false e)
rows_are false Yes a lda i p e = refl

pub block_inside : (t : Transpose) (lda x0 n len : ℕ) → ((i j : ℕ) → i < n → j < n → index_of (op_form t) lda (x0 + i) (x0 + j) < len)
    → (i p : ℕ) → i < n → p < n → (x0 + i) * lda + (x0 + p) < len
unfolding index_of
block_inside No lda x0 n len h i p hi hp = h p i hp hi
block_inside Yes lda x0 n len h i p hi hp = h i p hi hp
