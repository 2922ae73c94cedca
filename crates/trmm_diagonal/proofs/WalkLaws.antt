-- The walk over a small triangle: an element's terms are a range of the triangle's, which one column of a product of packed blocks makes. A group of a diagonal
-- block has such a triangle, and the terms on one side of it, which all of its elements have.
-- Assumes nothing.
use mathlib.Core.Bool.{Bool, true, false}
use mathlib.Core.Path.{◌≡◌, refl, sym, ap, ap₂, ◌∙◌}
use mathlib.Core.List.{List}
use Prim.Native.Nat.{ℕ, ◌+◌, ◌-◌, ◌*◌, ◌<◌, ◌≤◌}
use native.Mathlib.Omega.{arith}
use lib.ListN.{length, take, drop}
use lib.Ieee.{Float, nan}
use borrow.Rule.Slice.PartMut.{put_mid}
use Rattle.std.specs.Prelude.{if◌then◌else◌}
use Rattle.arrays.specs.Update.{update, below, region}
use Rattle.arrays.specs.Fold.{fold, among}
use Rattle.arrays.proofs.Tests.{if-true, by-test}
use Rattle.arrays.proofs.FoldLaws.{fold-split, fold_same, fold-keep}
use Rattle.arrays.proofs.UpdateLaws.{length-update, below-same}
use Rattle.arrays.proofs.RegionLaws.{region-no-columns, region-column}
use Rattle.arrays.proofs.PartLaws.{tail_at}
use Rattle.floats.specs.Array.{at}
use Rattle.floats.specs.Operations.{◌⊕◌, ◌⊗◌}
use Rattle.blocks.specs.Terms.{accumulate, packed}
use Rattle.lines.specs.Lines.{cell, grid, within}
use Rattle.lines.proofs.GridLaws.{within_in, grid-then, grid-same-at, grid-at, grid-lent}
use Rattle.trmm_diagonal.specs.Terms.{has, held_terms}
use Rattle.trmm_diagonal.proofs.ChosenLaws.{within-bounds, buffer-room}
use Rattle.trmm_diagonal.proofs.HasLaws.{has-after, has-not-after, has-before, has-not-before, has-from, block-then-after, before-then-block}

-- ---- the terms that an element has

-- those of n that element j has: `count` of them from lo on
pub record Span (after : Bool) (n j lo count : ℕ) : Type 0 where
  pub low : lo ≤ j
  pub high : lo + count ≤ n
  pub before : (p : ℕ) → p < lo → has after j p ≡ false
  pub inside : (i : ℕ) → i < count → has after j (lo + i) ≡ true
  pub behind : (p : ℕ) → lo + count ≤ p → p < n → has after j p ≡ false

pub span_of : (after : Bool) (n j lo count : ℕ) → j < n → lo ≡ (if after then j else 0) → count ≡ (if after then n - j else j + 1) → Span after n j lo count
span_of true n j lo count h el ec =
    record {
      low = omega arith;
      high = omega arith;
      before = λ p b. has-not-after j p refl (omega arith);
      inside = λ i b. has-after j (lo + i) refl (omega arith);
      behind = λ p b k. let z : ⊥ = omega arith in absurd z;
    }
span_of false n j lo count h el ec =
    record {
      low = omega arith;
      high = omega arith;
      before = λ p b. let z : ⊥ = omega arith in absurd z;
      inside = λ i b. has-before j (lo + i) refl (omega arith);
      behind = λ p b k. has-not-before j p refl (omega arith);
    }

-- a fold that passes over all terms but those of a range
among-range : {E : Type 0} (t : ℕ → Bool) (step : E → ℕ → E) (lo count n : ℕ) (e : E) → lo + count ≤ n
    → ((p : ℕ) → p < lo → t p ≡ false) → ((i : ℕ) → i < count → t (lo + i) ≡ true) → ((p : ℕ) → lo + count ≤ p → p < n → t p ≡ false)
    → fold (among t step) n e ≡ fold (λ e i. step e (lo + i)) count e
unfolding among
among-range {E} t step lo count n e fit before inside behind =
    ap (λ (k : ℕ). fold (among t step) k e) whole
    ∙ fold-split (among t step) (lo + count) (n - (lo + count)) e
    ∙ fold-keep _ (n - (lo + count)) _ (λ i b x. rw (behind (lo + count + i) (omega arith) (omega arith)))
    ∙ fold-split (among t step) lo count e
    ∙ ap (fold (λ x q. among t step x (lo + q)) count) (fold-keep _ lo e (λ p b x. rw (before p b)))
    ∙ fold_same _ _ count e (λ i b x. rw (inside i b))
  where
    whole : n ≡ lo + count + (n - (lo + count))
    whole = omega arith

module _ (after : Bool) (n lines : ℕ) (u v : List Float) where
  -- a term of element r, whose factors are held in the parts from row j and element lo on
  part-term : (j lo q r l i : ℕ) (e : Float) → j + q ≡ r
      → e ⊕ at (take (length v - (j * 64 + lo)) (drop (j * 64 + lo) v)) (q * 64 + i) ⊗ at (take (length u - lo * 64) (drop (lo * 64) u)) (i * 64 + l)
      ≡ e ⊕ at v (r * 64 + (lo + i)) ⊗ at u ((lo + i) * 64 + l)
  part-term j lo q r l i e row =
      ap₂ (λ (y x : Float). e ⊕ y ⊗ x)
      (tail_at (j * 64 + lo) v (q * 64 + i) nan ∙ ap (at v) (omega arith))
      (tail_at (lo * 64) u (i * 64 + l) nan ∙ ap (at u) (omega arith))

  column-terms : (j lo count l : ℕ) (e : Float) → Span after n j lo count
      → packed count (take (length u - lo * 64) (drop (lo * 64) u)) (take (length v - (j * 64 + lo)) (drop (j * 64 + lo) v)) l 0 e ≡ held_terms after n u v j l e
  unfolding packed accumulate held_terms
  column-terms j lo count l e s =
      fold_same _ _ count e (λ i b x. part-term j lo 0 j l i x (omega arith))
      ∙ sym (among-range (has after j) (λ e p. e ⊕ at v (j * 64 + p) ⊗ at u (p * 64 + l)) lo count n e s.high s.before s.inside s.behind)

  -- ---- a turn of the walk: the elements before j are done

  pub walk_none : (s : List Float) → s ≡ update (grid false 64 0 lines (λ q l e. held_terms after n u v q l e)) s
  unfolding grid
  walk_none s = region-no-columns 64 lines _ s

  pub walk_more : (j lo count : ℕ) (s₀ s ys : List Float) → lines ≤ 64 → j * 64 ≤ length s₀ → Span after n j lo count
      → s ≡ update (grid false 64 j lines (λ q l e. held_terms after n u v q l e)) s₀
      → ys ≡ update (below lines (λ l e. packed count (take (length u - lo * 64) (drop (lo * 64) u)) (take (length v - (j * 64 + lo)) (drop (j * 64 + lo) v)) l 0 e)) (take (length s - j * 64) (drop (j * 64) s))
      → put_mid (j * 64) (length s - j * 64) s ys ≡ update (grid false 64 (j + 1) lines (λ q l e. held_terms after n u v q l e)) s₀
  unfolding grid
  walk_more j lo count s₀ s ys few low span es ey =
      region-column nan 64 (omega arith) lines j (λ l q e. held_terms after n u v q l e) s₀ s ys few low es
      (ey ∙ below-same _ _ (take (length s - j * 64) (drop (j * 64) s)) lines (λ l b e. column-terms j lo count l e span))

  -- ---- a group of h elements from the j-th on: its own triangle, and the terms on one side of it

  -- the terms of the group for its own elements
  own-terms : (j h q l : ℕ) (e : Float)
      → held_terms after h (take (length u - j * 64) (drop (j * 64) u)) (take (length v - (j * 64 + j)) (drop (j * 64 + j) v)) q l e
      ≡ fold (λ e i. among (has after (j + q)) (λ e p. e ⊕ at v ((j + q) * 64 + p) ⊗ at u (p * 64 + l)) e (j + i)) h e
  unfolding held_terms among
  own-terms j h q l e =
      fold_same _ _ h e (λ i b x. ap₂ (λ (t : Bool) (r : Float). if t then r else x) (has-from after j q i) (part-term j j q (j + q) l i x refl))

  module _ (j h : ℕ) (s : List Float) (fit : j + h ≤ n) (few : n ≤ 64) (short : lines ≤ 64) (room : 4096 ≤ length s) where
    -- its elements are lent, and then again
    lent-twice : (f g : ℕ → ℕ → Float → Float) (ys c zs : List Float) → c ≡ put_mid (j * 64) (length s - j * 64) s ys
        → ys ≡ update (grid false 64 h lines f) (take (length s - j * 64) (drop (j * 64) s))
        → zs ≡ update (grid false 64 h lines g) (take (length c - j * 64) (drop (j * 64) c))
        → ((q l : ℕ) → q < h → (e : Float) → g q l (f q l e) ≡ held_terms after n u v (j + q) l e)
        → put_mid (j * 64) (length c - j * 64) c zs ≡ update (grid false 64 n lines (λ q l e. if within j h q then held_terms after n u v q l e else e)) s
    unfolding cell
    lent-twice f g ys c zs ec ey ez both =
        grid-then false 64 n lines _ _ _ s c _ (omega arith) first (lent g c zs (omega (arith, same)) ez)
        (λ q l hq hl e.
        by-test (within j h q)
        (λ w.
        let k = within-bounds j h q w in
        let own : j + (q - j) ≡ q = omega (arith, k) in
        rw w (both (q - j) l (omega (arith, k)) e ∙ ap (λ (r : ℕ). held_terms after n u v r l e) own))
        (λ w. rw w))
      where
        lent : (f : ℕ → ℕ → Float → Float) (b ys : List Float) → 4096 ≤ length b
            → ys ≡ update (grid false 64 h lines f) (take (length b - j * 64) (drop (j * 64) b))
            → put_mid (j * 64) (length b - j * 64) b ys ≡ update (grid false 64 n lines (λ q l e. if within j h q then f (q - j) l e else e)) b
        lent f b ys long ey =
            grid-lent nan false 64 n lines j h (j * 64) (λ q l e. f (q - j) l e) f b ys (omega arith) (omega arith, omega arith) fit (omega arith) (omega arith) ey
            (λ q l hq hl e. let k : q ≡ j + q - j = omega arith in ap (λ (r : ℕ). f r l e) k)

        first : c ≡ update (grid false 64 n lines (λ q l e. if within j h q then f (q - j) l e else e)) s
        first = ec ∙ lent f s ys room ey

        same : length c ≡ length s
        same = ap length first ∙ length-update _ s

    -- the triangle, and then the terms after it
    pub group-after : (ys c zs : List Float) → after ≡ true → c ≡ put_mid (j * 64) (length s - j * 64) s ys
        → ys ≡ update (grid false 64 h lines (λ q l e. held_terms after h (take (length u - j * 64) (drop (j * 64) u)) (take (length v - (j * 64 + j)) (drop (j * 64 + j) v)) q l e)) (take (length s - j * 64) (drop (j * 64) s))
        → zs ≡ update (region 64 lines h (packed (n - (j + h)) (take (length u - (j + h) * 64) (drop ((j + h) * 64) u)) (take (length v - (j * 64 + (j + h))) (drop (j * 64 + (j + h)) v)))) (take (length c - j * 64) (drop (j * 64) c))
        → put_mid (j * 64) (length c - j * 64) c zs ≡ update (grid false 64 n lines (λ q l e. if within j h q then held_terms after n u v q l e else e)) s
    unfolding grid packed accumulate held_terms
    group-after ys c zs a ec ey ez =
        lent-twice _ _ ys c zs ec ey ez
        (λ q l hq e.
        fold_same _ _ (n - (j + h)) _ (λ i b x. part-term j (j + h) q (j + q) l i x refl)
        ∙ ap (fold _ (n - (j + h))) (own-terms j h q l e)
        ∙ block-then-after (λ e p. e ⊕ at v ((j + q) * 64 + p) ⊗ at u (p * 64 + l)) (j + q) j h (n - (j + h)) n e (omega arith) (omega arith) (omega arith) a)

    -- the terms before the triangle, and then the triangle
    pub group-before : (ys c zs : List Float) → after ≡ false → c ≡ put_mid (j * 64) (length s - j * 64) s ys
        → ys ≡ update (region 64 lines h (packed j u (take (length v - j * 64) (drop (j * 64) v)))) (take (length s - j * 64) (drop (j * 64) s))
        → zs ≡ update (grid false 64 h lines (λ q l e. held_terms after h (take (length u - j * 64) (drop (j * 64) u)) (take (length v - (j * 64 + j)) (drop (j * 64 + j) v)) q l e)) (take (length c - j * 64) (drop (j * 64) c))
        → put_mid (j * 64) (length c - j * 64) c zs ≡ update (grid false 64 n lines (λ q l e. if within j h q then held_terms after n u v q l e else e)) s
    unfolding grid packed accumulate held_terms
    group-before ys c zs a ec ey ez =
        lent-twice _ _ ys c zs ec ey ez
        (λ q l hq e.
        own-terms j h q l _
        ∙ ap (fold _ h)
        (fold_same _ _ j e (λ i b x. ap (λ (y : Float). x ⊕ y ⊗ at u (i * 64 + l)) (tail_at (j * 64) v (q * 64 + i) nan ∙ ap (at v) (omega arith))))
        ∙ before-then-block (λ e p. e ⊕ at v ((j + q) * 64 + p) ⊗ at u (p * 64 + l)) (j + q) j h (n - (j + h)) n e (omega arith) (omega arith) (omega arith) a)

-- ---- sums that stand by columns, turned across into s and back

pub turned : (f : ℕ → ℕ → Float → Float) (n lines : ℕ) (z s₀ s t r : List Float) → n ≤ 64 → lines ≤ 64 → 0 < n → 0 < lines → 4096 ≤ length s₀
    → s ≡ update (grid false 64 n lines (λ q l _. at z (cell true 64 (0 + q) l))) s₀
    → t ≡ update (grid false 64 n lines f) s
    → r ≡ update (grid true 64 n lines (λ q l e. if within 0 n q then at t (cell false 64 (q - 0) l) else e)) z
    → r ≡ update (grid true 64 n lines f) z
turned f n lines z s₀ s t r hn hl sn sl room es et er =
    er ∙ grid-same-at nan true 64 n lines _ f z
    (λ q l hq hll.
    if-true (within 0 n q) _ _ (within_in 0 n q (omega arith) (omega arith))
    ∙ ap (λ (k : ℕ). at t (cell false 64 k l)) (let k : q - 0 ≡ q = omega arith in k)
    ∙ grid-at nan false 64 n lines f s t q l (buffer-room false n lines (length s) hn hl sn sl (omega (arith, same))) hq hll et
    ∙ ap (f q l)
    (grid-at nan false 64 n lines _ s₀ s q l (buffer-room false n lines (length s₀) hn hl sn sl room) hq hll es
    ∙ ap (λ (k : ℕ). at z (cell true 64 k l)) (let k : 0 + q ≡ q = omega arith in k)))
  where
    same : length s ≡ length s₀
    same = ap length es ∙ length-update _ s₀
