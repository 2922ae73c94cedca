-- A block of elements becomes its sums: the terms of the block itself and those of the elements beside it, then the sums in the block's place.
-- Assumes nothing.
use mathlib.Core.Bool.{Bool, true, false}
use mathlib.Core.Path.{◌≡◌, refl, ap, ap₂, ◌∙◌}
use mathlib.Core.List.{List}
use Prim.Native.Nat.{ℕ, ◌+◌, ◌-◌, ◌*◌, ◌<◌, ◌≤◌}
use native.Mathlib.Nat.{add-mul, zero-add}
use native.Mathlib.Omega.{arith}
use lib.ListN.{length, take, drop, replicate, get_or-replicate, length-replicate}
use lib.Ieee.{Float, nan}
use Rattle.std.specs.Prelude.{if◌then◌else◌}
use Rattle.arrays.specs.Update.{update, region}
use Rattle.arrays.specs.Fold.{fold}
use Rattle.arrays.proofs.Tests.{if-both}
use Rattle.arrays.proofs.FoldLaws.{fold-none, fold_same}
use Rattle.arrays.proofs.RegionLaws.{region-same}
use Rattle.arrays.proofs.PartLaws.{tail-length, column-room}
use Rattle.floats.specs.Array.{at}
use Rattle.floats.specs.Operations.{◌⊕◌, ◌⊗◌, 0f, 1f}
use Rattle.blocks.specs.Terms.{accumulate}
use Rattle.definitions.specs.Storage.{with_diagonal}
use Rattle.definitions.specs.declared.Diagonal.{Diagonal}
use Rattle.definitions.specs.declared.Transpose.{Transpose}
use Rattle.definitions.specs.declared.Transpose.TheVariants.{No}
use Rattle.packing.specs.Factor.{Matrix, index_of, entry_of, turn}
use Rattle.packing.specs.declared.Form.{Form}
use Rattle.packing.specs.declared.Form.TheVariants.{Plain}
use Rattle.direct.specs.Product.{partly, product, from_row, from_column}
use Rattle.forms.specs.Forms.{op_form}
use Rattle.lines.specs.Lines.{cell, grid, within, line_term, Room}
use Rattle.lines.proofs.GridLaws.{cell-inside, grid-then, grid-same, grid-keep, grid-at}
use Rattle.lines.proofs.TermLaws.{entry-from}
use Rattle.trmm_diagonal.specs.Terms.{term_from}
use Rattle.trmm_diagonal.proofs.ChosenLaws.{within-bounds, buffer-room}
use Rattle.trmm.specs.Sum.{sum_of}
use Rattle.trmm.proofs.SumLaws.{beside-term, sum-after, sum-before, sum-alone}

-- ---- the terms beside the block, by the general multiply

module _ (alpha : Float) (t : Transpose) (a : List Float) (lda : ℕ) (b : List Float) (ld lines p₀ n lo count : ℕ) (z r : List Float)
    (from : ℕ) {f : Form} (ef : f ≡ op_form t) where
  -- the factor that is a part of A, and the part of B
  of-a : (i₀ j₀ i j : ℕ) → from ≡ index_of f lda i₀ j₀ → entry_of f (take (length a - from) (drop from a)) lda i j ≡ entry_of (op_form t) a lda (i₀ + i) (j₀ + j)
  of-a i₀ j₀ i j e = entry-from t a lda i₀ j₀ from ef e i j

  of-b : (x i₀ j₀ i j : ℕ) → x ≡ index_of Plain ld i₀ j₀ → entry_of Plain (take (length b - x) (drop x b)) ld i j ≡ entry_of Plain b ld (i₀ + i) (j₀ + j)
  of-b x i₀ j₀ i j e = entry-from No b ld i₀ j₀ x refl e i j

  pub left-beside : from ≡ index_of f lda p₀ lo
      → r ≡ update (region 64 n lines (product alpha (from_row 0 (entry_of f (take (length a - from) (drop from a)) lda)) (from_column 0 (entry_of Plain (take (length b - lo) (drop lo b)) ld)) false count)) z
      → r ≡ update (grid true 64 n lines (λ q l e. fold (λ e i. line_term true alpha (entry_of (op_form t) a lda) (p₀ + q) e (lo + i) (at b (cell true ld (lo + i) l))) count e)) z
  unfolding grid cell product partly accumulate line_term turn entry_of index_of
  left-beside e er =
      er ∙ region-same 64 n lines _ _ z (omega arith)
      (λ q l hq hl s.
      fold_same _ _ count s
      (λ i hi s.
      ap₂ (λ (u v : Float). s ⊕ (alpha ⊗ v) ⊗ u)
      (of-a p₀ lo (0 + q) i e ∙ ap (λ (k : ℕ). entry_of (op_form t) a lda (p₀ + k) (lo + i)) (zero-add q))
      (of-b lo lo 0 i (0 + l) (omega arith) ∙ ap (λ (k : ℕ). entry_of Plain b ld (lo + i) k) (let k : 0 + (0 + l) ≡ l = omega arith in k))))

  pub right-beside : (x : ℕ) → x ≡ lo * ld → from ≡ index_of f lda lo p₀
      → r ≡ update (region 64 lines n (product alpha (from_row 0 (entry_of Plain (take (length b - x) (drop x b)) ld)) (from_column 0 (entry_of f (take (length a - from) (drop from a)) lda)) false count)) z
      → r ≡ update (grid false 64 n lines (λ q l e. fold (λ e i. line_term false alpha (entry_of (op_form t) a lda) (p₀ + q) e (lo + i) (at b (cell false ld (lo + i) l))) count e)) z
  unfolding grid cell product partly accumulate line_term turn entry_of index_of
  right-beside x ex e er =
      er ∙ region-same 64 lines n _ _ z (omega arith)
      (λ l q hl hq s.
      fold_same _ _ count s
      (λ i hi s.
      ap₂ (λ (u v : Float). s ⊕ (alpha ⊗ v) ⊗ u)
      (of-b x 0 lo (0 + l) i (omega arith) ∙ ap (λ (k : ℕ). entry_of Plain b ld k (lo + i)) (let k : 0 + (0 + l) ≡ l = omega arith in k))
      (of-a lo p₀ i (0 + q) e ∙ ap (λ (k : ℕ). entry_of (op_form t) a lda (lo + i) (p₀ + k)) (zero-add q))))

-- what is read of B is within it
pub left-inside : (b : List Float) (ld m lines lo count : ℕ) → Room true ld m lines (length b) → lo + count ≤ m
    → (i l : ℕ) → i < count → l < lines → index_of Plain ld i (0 + l) < length (take (length b - lo) (drop lo b))
unfolding index_of
left-inside b ld m lines lo count room fit i l hi hl = rw zero-add (omega (arith, tail-length lo b, column-room ld hl, room))

pub right-inside : (b : List Float) (ld m lines lo count x : ℕ) → x ≡ lo * ld → Room false ld m lines (length b) → lo + count ≤ m
    → (l i : ℕ) → l < lines → i < count → index_of Plain ld (0 + l) i < length (take (length b - x) (drop x b))
unfolding index_of
right-inside b ld m lines lo count x e room fit l i hl hi =
    let low : lo + i < m = omega arith in
    rw zero-add (omega (arith, tail-length x b, column-room ld low, add-mul lo i ld, room))

pub none_beside : (left : Bool) (n lines count : ℕ) (step : ℕ → ℕ → Float → ℕ → Float) (z : List Float) → count ≡ 0
    → z ≡ update (grid left 64 n lines (λ q l e. fold (step q l) count e)) z
none_beside left n lines count step z none =
    grid-keep left 64 n lines _ z (λ q l hq hl e. ap (λ (k : ℕ). fold (step q l) k e) none ∙ fold-none (step q l) e)

-- ---- all terms of the block's elements

module _ (left after : Bool) (alpha : Float) (diag : Diagonal) (M : Matrix) (ld m lines p₀ n : ℕ) (b : List Float) where
  abbrev T : Matrix
  T = with_diagonal 1f diag M

  -- the diagonal block, and then the terms behind it
  pub sums-after : (rest lo : ℕ) (z d r : List Float) → p₀ + n + rest ≡ m → lo ≡ p₀ + n → after ≡ true
      → d ≡ update (grid left 64 n lines (λ q l e. fold (term_from left after alpha T p₀ (λ k. at b (cell left ld (p₀ + k) l)) (p₀ + q)) n e)) z
      → r ≡ update (grid left 64 n lines (λ q l e. fold (λ e i. line_term left alpha M (p₀ + q) e (lo + i) (at b (cell left ld (lo + i) l))) rest e)) d
      → r ≡ update (grid left 64 n lines (λ q l e. fold (term_from left after alpha T 0 (λ p. at b (cell left ld p l)) (p₀ + q)) m e)) z
  sums-after rest lo z d r whole el a ed er =
      grid-then left 64 n lines _ _ _ z d r (omega arith) ed er
      (λ q l hq hl e.
      fold_same _ _ rest _
      (λ i hi e.
      ap (λ (j : ℕ). line_term left alpha M (p₀ + q) e (j + i) (at b (cell left ld (j + i) l))) el
      ∙ beside-term left alpha diag M (p₀ + q) e (p₀ + n + i) _ (λ y. omega arith))
      ∙ sum-after left after alpha T (λ p. at b (cell left ld p l)) (p₀ + q) p₀ n rest m e whole a (omega arith) (omega arith))

  -- the terms before the diagonal block, and then the block
  pub sums-before : (rest : ℕ) (z d r : List Float) → p₀ + n + rest ≡ m → after ≡ false
      → d ≡ update (grid left 64 n lines (λ q l e. fold (λ e i. line_term left alpha M (p₀ + q) e (0 + i) (at b (cell left ld (0 + i) l))) p₀ e)) z
      → r ≡ update (grid left 64 n lines (λ q l e. fold (term_from left after alpha T p₀ (λ k. at b (cell left ld (p₀ + k) l)) (p₀ + q)) n e)) d
      → r ≡ update (grid left 64 n lines (λ q l e. fold (term_from left after alpha T 0 (λ p. at b (cell left ld p l)) (p₀ + q)) m e)) z
  sums-before rest z d r whole a ed er =
      grid-then left 64 n lines _ _ _ z d r (omega arith) ed er
      (λ q l hq hl e.
      ap (fold (term_from left after alpha T p₀ (λ k. at b (cell left ld (p₀ + k) l)) (p₀ + q)) n)
      (fold_same _ _ p₀ e (λ i hi e. beside-term left alpha diag M (p₀ + q) e (0 + i) _ (λ y. omega arith)))
      ∙ sum-before left after alpha T (λ p. at b (cell left ld p l)) (p₀ + q) p₀ n rest m e whole a (omega arith) (omega arith))

  -- the diagonal block, if there are no terms beside it
  pub sums-alone : (z r : List Float) → p₀ + n ≤ m → (after ≡ true → p₀ + n ≡ m) × (after ≡ false → p₀ ≡ 0)
      → r ≡ update (grid false 64 n lines (λ q l e. fold (term_from left after alpha T p₀ (λ k. at b (cell left ld (p₀ + k) l)) (p₀ + q)) n e)) z
      → r ≡ update (grid false 64 n lines (λ q l e. fold (term_from left after alpha T 0 (λ p. at b (cell left ld p l)) (p₀ + q)) m e)) z
  sums-alone z r fit alone er =
      er ∙ grid-same false 64 n lines _ _ z (omega arith)
      (λ q l hq hl e. sum-alone left after alpha T (λ p. at b (cell left ld p l)) (p₀ + q) p₀ n m e fit alone.0 alone.1 (omega arith) (omega arith))

  -- the sums from +0.0, which stand in z as `side` says, in the block's place
  pub block_made : (side : Bool) (z r : List Float) → 0 < ld → n ≤ 64 → lines ≤ 64 → 0 < n → 0 < lines
      → z ≡ update (grid side 64 n lines (λ q l e. fold (term_from left after alpha T 0 (λ p. at b (cell left ld p l)) (p₀ + q)) m e)) (replicate 4096 0f)
      → r ≡ update (grid left ld m lines (λ q l e. if within p₀ n q then at z (cell side 64 (q - p₀) l) else e)) b
      → r ≡ update (grid left ld m lines (λ q l e. if within p₀ n q then sum_of left after alpha T m (λ p. at b (cell left ld p l)) q else e)) b
  unfolding sum_of
  block_made side z r pos hn hl sn sl ez er =
      er ∙ grid-same left ld m lines _ _ b pos
      (λ q l hq hll e.
      if-both (within p₀ n q) _ e _ e
      (λ w.
      let k = within-bounds p₀ n q w in
      let at-q : p₀ + (q - p₀) ≡ q = omega (arith, k) in
      let low : q - p₀ < n = omega (arith, k) in
      grid-at nan side 64 n lines _ (replicate 4096 0f) z (q - p₀) l room low hll ez
      ∙ ap₂ (λ (q : ℕ) (s : Float). fold (term_from left after alpha T 0 (λ p. at b (cell left ld p l)) q) m s) at-q
      (get_or-replicate 4096 (cell side 64 (q - p₀) l) 0f nan (subst-length (cell-inside side 64 n lines _ (q - p₀) l room low hll))))
      (λ _. refl))
    where
      len : length (replicate 4096 0f) ≡ 4096
      len = length-replicate 4096 0f

      room : Room side 64 n lines (length (replicate 4096 0f))
      room = buffer-room side n lines (length (replicate 4096 0f)) hn hl sn sl (omega (arith, len))

      subst-length : {i : ℕ} → i < length (replicate 4096 0f) → i < 4096
      subst-length h = omega (arith, len)
