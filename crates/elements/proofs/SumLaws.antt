-- Laws of the sum of one element of each line: one term more, one line more, some more lines that are lent and come back.
-- Assumes nothing.
use mathlib.Core.Bool.{Bool, true, false}
use mathlib.Core.Path.{◌≡◌, refl, sym, ap, ap₂, subst, ◌∙◌}
use mathlib.Core.Logic.{⊎_elim}
use mathlib.Core.List.{List}
use Prim.Native.Nat.{ℕ, ◌+◌, ◌-◌, ◌*◌, ◌/◌, ◌%◌, ◌<◌, ◌≤◌}
use native.Mathlib.Nat.{div-add-mod', add-mul, mul-le-mul_right}
use native.Mathlib.Numerals.{add-one}
use native.Mathlib.Omega.{arith}
use lib.Ieee.{Float, nan}
use lib.ListN.{length, get_or, take, drop, set, length-set}
use lib.Seq.{get_or-set_same, get_or-set_other}
use borrow.Rule.Slice.PartMut.{put_mid}
use Rattle.std.specs.Prelude.{if◌then◌else◌}
use Rattle.arrays.specs.Update.{update, entries, only, box, region}
use Rattle.arrays.specs.Fold.{fold}
use Rattle.arrays.proofs.UpdateLaws.{lt-or-ge, same_or_not, length-update, at-update, is-update}
use Rattle.arrays.proofs.EntryLaws.{entry_kept}
use Rattle.arrays.proofs.PartLaws.{column-room, columns-room, tail_at}
use Rattle.arrays.proofs.RegionLaws.{boxed, boxed-in, boxed-row-out, boxed-column-out, region-columns, region-rows}
use Rattle.arrays.proofs.FoldLaws.{fold_same}
use Rattle.floats.specs.Array.{at}
use Rattle.packing.specs.Factor.{along}
use Rattle.lines.specs.Lines.{cell, grid, within, Room}
use Rattle.elements.specs.Sums.{term_of, begun, finished, line_sum, Summed}
use Rattle.elements.specs.declared.Start.{Start}
use Rattle.elements.specs.declared.End.{End}
use Rattle.lines.proofs.GridLaws.{by-within, cell-inside, some-ld, grid-cell, grid-keep, grid-same}

-- ---- room and places

-- the first l lines
fewer-lines : (left : Bool) (ld m lines l len : ℕ) → l ≤ lines → Room left ld m lines len → Room left ld m l len
fewer-lines true ld m lines l len h r = (r.0, omega (arith, mul-le-mul_right ld h))
fewer-lines false ld m lines l len h r = (omega arith, omega arith)

-- the lines from l on, n of them, as a part
pub lines-room : (left : Bool) (ld m lines l n len : ℕ) {a across : ℕ} → 0 < m → 0 < n → l + n ≤ lines → across ≡ (if left then ld else 1) → a ≡ l * across
    → Room left ld m lines len → (a ≤ len) × Room left ld m n (len - a)
lines-room true ld m lines l n len {a} hm hn h e ea r =
    let z : a ≡ l * ld = rw e at ea in
    (omega (arith, columns-room ld l n h, column-room ld hn), (r.0, omega (arith, columns-room ld l n h, column-room ld hn)))
lines-room false ld m lines l n len {a} hm hn h e ea r =
    let z : a ≡ l * 1 = rw e at ea in
    (omega (arith, column-room ld hm), (omega arith, omega (arith, column-room ld hm)))

-- element q of line l, by strides
cell-strides : (left : Bool) (ld q l : ℕ) {across step : ℕ} → across ≡ (if left then ld else 1) → step ≡ (if left then 1 else ld)
    → q * step + l * across ≡ cell left ld q l
unfolding cell
cell-strides true ld q l ea es = rw (ea, es) (omega arith)
cell-strides false ld q l ea es = rw (ea, es) (omega arith)

pub strides-inside : (left : Bool) (ld m lines len q l : ℕ) {across step : ℕ} → across ≡ (if left then ld else 1) → step ≡ (if left then 1 else ld)
    → Room left ld m lines len → q < m → l < lines → q * step + l * across < len
strides-inside left ld m lines len q l ea es r hq hl = omega (arith, cell-strides left ld q l ea es, cell-inside left ld m lines len q l r hq hl)

-- line l + l', in the part that begins with line l
cell-from : (left : Bool) (ld q l l' : ℕ) {a across : ℕ} → across ≡ (if left then ld else 1) → a ≡ l * across → a + cell left ld q l' ≡ cell left ld q (l + l')
unfolding cell
cell-from true ld q l l' e ea = rw (ea, e) (omega (arith, add-mul l l' ld))
cell-from false ld q l l' e ea = rw (ea, e) (omega arith)

-- ---- the lines below l

module _ {A : Type 0} where
  -- the lines from l on are kept
  grid-beyond : (d : A) (left : Bool) (ld m lines l : ℕ) (f : ℕ → ℕ → A → A) (b c : List A) (q l' : ℕ) → Room left ld m lines (length b) → q < m → l ≤ l' → l' < lines
      → c ≡ update (grid left ld m l f) b → get_or c (cell left ld q l') d ≡ get_or b (cell left ld q l') d
  unfolding grid cell region
  grid-beyond d true ld m lines l f b c q l' r hq hl h e =
      ap (λ (k : List A). get_or k (l' * ld + q) d) e
      ∙ entry_kept d ld (only (box m l) f) b q l' (omega arith) (λ x. boxed-column-out m l f q l' x hl)
  grid-beyond d false ld m lines l f b c q l' r hq hl h e =
      ap (λ (k : List A). get_or k (q * ld + l') d) e
      ∙ entry_kept d ld (only (box l m) (λ i j x. f j i x)) b l' q (omega arith) (λ x. boxed-row-out l m (λ i j x. f j i x) l' q x hl)

  -- n lines more, which were lent as `&mut c[a..]` and came back
  grid-more : (d : A) (left : Bool) (ld m lines l n : ℕ) {a across : ℕ} (f : ℕ → ℕ → A → A) (b c ys : List A) → 0 < ld → Room left ld m lines (length b)
      → l + n ≤ lines → across ≡ (if left then ld else 1) → a ≡ l * across → a ≤ length b → c ≡ update (grid left ld m l f) b
      → ys ≡ update (grid left ld m n (λ q l' x. f q (l + l') x)) (take (length c - a) (drop a c))
      → put_mid a (length c - a) c ys ≡ update (grid left ld m (l + n) f) b
  unfolding grid
  grid-more d true ld m lines l n {a} f b c ys pos r h e ea al ec ey =
      let z : a ≡ l * ld = ea ∙ ap (λ (k : ℕ). l * k) e in
      rw z (region-columns d ld pos m l n f b c ys r.0 (omega arith) ec (rw z at ey))
  grid-more d false ld m lines l n {a} f b c ys pos r h e ea al ec ey =
      let z : a ≡ l = ea ∙ ap (λ (k : ℕ). l * k) e ∙ omega arith in
      rw z (region-rows d ld pos l n m (λ i j x. f j i x) b c ys (omega arith) (omega arith) ec (rw z at ey))

  -- ---- element i of each line

  -- element i of line l by s l, the others as they are
  abbrev chosen : ℕ → (ℕ → A → A) → ℕ → ℕ → A → A
  chosen i s q l y = if within i 1 q then s l y else y

  -- a line more is the same but for its element i
  grid-next : (left : Bool) (ld m i l : ℕ) (s : ℕ → A → A) (p : ℕ) (x : A) → (p ≡ cell left ld i l → ⊥)
      → grid left ld m l (chosen i s) p x ≡ grid left ld m (l + 1) (chosen i s) p x
  unfolding grid cell region entries
  grid-next true ld m i l s p x other =
      let r : ℕ = p % ld in
      let c : ℕ = p / ld in
      sym (boxed m (l + 1) (chosen i s) r c x (only (box m l) (chosen i s) r c x)
      (λ hr hc. ⊎_elim
      (λ (k : c < l). sym (boxed-in m l (chosen i s) r c x hr k))
      (λ k.
      let e : c * ld ≡ l * ld = ap (λ (n : ℕ). n * ld) (omega arith) in
      by-within i 1 r (s c x) x x (λ u v. absurd (other (omega (arith, div-add-mod' p ld)))) (λ u. refl) (λ u. refl)
      ∙ sym (boxed-column-out m l (chosen i s) r c x k))
      (lt-or-ge c l))
      (λ hr. sym (boxed-row-out m l (chosen i s) r c x hr))
      (λ hc. sym (boxed-column-out m l (chosen i s) r c x (omega arith))))
  grid-next false ld m i l s p x other =
      let r : ℕ = p % ld in
      let c : ℕ = p / ld in
      sym (boxed (l + 1) m (λ l q y. chosen i s q l y) r c x (only (box l m) (λ l q y. chosen i s q l y) r c x)
      (λ hr hc. ⊎_elim
      (λ (k : r < l). sym (boxed-in l m (λ l q y. chosen i s q l y) r c x k hc))
      (λ k.
      by-within i 1 c (s r x) x x
      (λ u v. let e : c * ld ≡ i * ld = ap (λ (n : ℕ). n * ld) (omega arith) in absurd (other (omega (arith, div-add-mod' p ld))))
      (λ u. refl) (λ u. refl)
      ∙ sym (boxed-row-out l m (λ l q y. chosen i s q l y) r c x k))
      (lt-or-ge r l))
      (λ hr. sym (boxed-row-out l m (λ l q y. chosen i s q l y) r c x (omega arith)))
      (λ hc. sym (boxed-column-out l m (λ l q y. chosen i s q l y) r c x hc)))

  -- element i of line l is set, after that of the lines before it
  set_more : (d : A) (left : Bool) (ld m lines i l : ℕ) (s : ℕ → A → A) (b c : List A) {p : ℕ} {v : A} → Room left ld m lines (length b) → i < m → l < lines
      → p ≡ cell left ld i l → v ≡ s l (get_or b p d) → c ≡ update (grid left ld m l (chosen i s)) b → set c p v ≡ update (grid left ld m (l + 1) (chosen i s)) b
  set_more d left ld m lines i l s b c {p} {v} room hi hl ep ev ec =
      is-update d after b (set c p v) (length-set c p v ∙ cl)
      (λ k h.
      ⊎_elim
      (λ (z : p ≡ k). subst (λ (n : ℕ). get_or (set c p v) n d ≡ after n (get_or b n d)) z here)
      (λ z.
      get_or-set_other c p k v d (λ y. z (sym y)) ∙ ap (λ (n : List A). get_or n k d) ec ∙ at-update _ b k d h
      ∙ grid-next left ld m i l s k (get_or b k d) (λ y. z (ep ∙ sym y)))
      (same_or_not p k))
    where
      after : ℕ → A → A
      after = grid left ld m (l + 1) (chosen i s)

      cl : length c ≡ length b
      cl = ap length ec ∙ length-update _ b

      here : get_or (set c p v) p d ≡ after p (get_or b p d)
      here =
          get_or-set_same c p v d (omega (arith, cl, cell-inside left ld m lines (length b) i l room hi hl)) ∙ ev
          ∙ sym (ap (λ (n : ℕ). after n (get_or b p d)) ep
          ∙ grid-cell left ld m (l + 1) (length b) _ i l (get_or b p d) (fewer-lines left ld m lines (l + 1) (length b) (omega arith) room) hi (omega arith)
          ∙ by-within i 1 i _ _ _ (λ u v. refl) (λ u. let z : ⊥ = omega arith in absurd z) (λ u. let z : ⊥ = omega arith in absurd z))

-- ---- terms

-- one term more
pub term-more : (left : Bool) (alpha : Float) (u v : ℕ → Float) (down : Bool) (from k : ℕ) {p : ℕ} (s : Float) {e r : Float} → p ≡ along down from k
    → e ≡ fold (λ e k. term_of left alpha (u (along down from k)) e (v (along down from k))) k s → r ≡ term_of left alpha (u p) e (v p)
    → r ≡ fold (λ e k. term_of left alpha (u (along down from k)) e (v (along down from k))) (k + 1) s
unfolding fold
term-more left alpha u v down from k s ep ee er =
    rw add-one (er ∙ ap₂ (λ (p : ℕ) (e : Float). term_of left alpha (u p) e (v p)) ep ee)

module _ (left : Bool) (ld m i : ℕ) (alpha : Float) (start : Start) (end : End) (w : ℕ → Float) (p : ℕ → ℕ) (count : ℕ) where
  pub no_lines : (b : List Float) → Summed left ld m 0 i alpha start end w p count b b
  no_lines b = grid-keep left ld m 0 _ b (λ q l hq hl y. let z : ⊥ = omega arith in absurd z)

  -- n lines more, which were lent as `&mut c[a..]` and came back
  pub lines_more : (lines l n : ℕ) {a across : ℕ} (b c ys : List Float) → i < m → 0 < n → l + n ≤ lines → ((k : ℕ) → k < count → p k < m)
      → across ≡ (if left then ld else 1) → a ≡ l * across → Room left ld m lines (length b)
      → Summed left ld m l i alpha start end w p count b c → Summed left ld m n i alpha start end w p count (take (length c - a) (drop a c)) ys
      → Summed left ld m (l + n) i alpha start end w p count b (put_mid a (length c - a) c ys)
  unfolding line_sum
  lines_more lines l n {a} b c ys hi hn h inside e ea room ec ey =
      grid-more nan left ld m lines l n _ b c ys pos room h e ea (lines-room left ld m lines l n (length b) (omega arith) hn h e ea room).0 ec
      (ey
      ∙ grid-same left ld m n _ _ _ pos
      (λ q l' hq hl y.
      ap (λ (z : Float). if within i 1 q then z else y)
      (ap (λ (z : Float). finished left alpha end z y)
      (fold_same _ _ count _
      (λ k hk z.
      ap (term_of left alpha (w k) z)
      (tail_at a c _ nan ∙ ap (at c) (cell-from left ld (p k) l l' e ea)
      ∙ grid-beyond nan left ld m lines l _ b c (p k) (l + l') room (inside k hk) (omega arith) (omega arith) ec))))))
    where
      pos : 0 < ld
      pos = some-ld left ld m lines (length b) (omega arith) (omega arith) room

  -- element i of line l becomes its sum, after that of the lines before it
  pub line-more : (lines l : ℕ) (b c : List Float) (across step x : ℕ) (place : ℕ → ℕ) (s e v : Float) → Room left ld m lines (length b) → i < m → l < lines
      → across ≡ (if left then ld else 1) → step ≡ (if left then 1 else ld) → x ≡ i * step + l * across → ((k : ℕ) → place k ≡ p k * step + l * across)
      → s ≡ begun left alpha start (at b x) → e ≡ fold (λ e k. term_of left alpha (w k) e (at b (place k))) count s
      → v ≡ finished left alpha end e (at b x) → Summed left ld m l i alpha start end w p count b c
      → Summed left ld m (l + 1) i alpha start end w p count b (set c x v)
  unfolding line_sum
  line-more lines l b c across step x place s e v room hi hl ea es ex same eb ee ev ec =
      set_more nan left ld m lines i l sum b c room hi hl (ex ∙ cell-strides left ld i l ea es)
      (ev ∙ ap (λ (z : Float). finished left alpha end z (at b x))
      (ee ∙ ap (fold (λ e k. term_of left alpha (w k) e (at b (place k))) count) eb
      ∙ fold_same _ _ count _ (λ k hk z. ap (λ (n : ℕ). term_of left alpha (w k) z (at b n)) (same k ∙ cell-strides left ld (p k) l ea es))))
      ec
    where
      sum : ℕ → Float → Float
      sum l y = line_sum left alpha start end w (λ k. at b (cell left ld (p k) l)) count y
