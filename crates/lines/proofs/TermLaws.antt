-- Terms that the general multiply adds are the terms of lines.
-- Assumes nothing.
use mathlib.Core.Bool.{Bool, true, false}
use mathlib.Core.Path.{◌≡◌, ap, ap₂, ◌∙◌}
use mathlib.Core.List.{List}
use Prim.Native.Nat.{ℕ, ◌+◌, ◌-◌, ◌*◌, ◌<◌, ◌≤◌}
use native.Mathlib.Nat.{add-mul, add-zero, zero-add}
use native.Mathlib.Omega.{arith}
use lib.ListN.{length, take, drop}
use lib.Ieee.{Float, nan}
use borrow.Rule.Slice.PartMut.{put_mid}
use Rattle.std.specs.Prelude.{if◌then◌else◌}
use Rattle.arrays.specs.Update.{update, region}
use Rattle.arrays.specs.Fold.{fold}
use Rattle.arrays.proofs.FoldLaws.{fold_same}
use Rattle.arrays.proofs.PartLaws.{tail_at, tail-length}
use Rattle.floats.specs.Array.{at}
use Rattle.floats.specs.Operations.{◌⊕◌, ◌⊗◌}
use Rattle.definitions.specs.declared.Transpose.{Transpose}
use Rattle.definitions.specs.declared.Transpose.TheVariants.{No, Yes}
use Rattle.packing.specs.Factor.{index_of, entry_of, turn}
use Rattle.packing.specs.declared.Form.{Form}
use Rattle.packing.specs.declared.Form.TheVariants.{Plain}
use Rattle.blocks.specs.Terms.{accumulate}
use Rattle.direct.specs.Product.{partly, product, from_row, from_column}
use Rattle.forms.specs.Forms.{op_form}
use Rattle.lines.specs.Lines.{cell, grid, within, line_term}
use Rattle.lines.proofs.GridLaws.{grid-lent}

-- the entries of op(A) from (i₀, j₀) on
index-from : (t : Transpose) (ld i₀ j₀ i j : ℕ) → index_of (op_form t) ld i₀ j₀ + index_of (op_form t) ld i j ≡ index_of (op_form t) ld (i₀ + i) (j₀ + j)
unfolding index_of
index-from No ld i₀ j₀ i j = rw (add-mul j₀ j ld) (omega arith)
index-from Yes ld i₀ j₀ i j = rw (add-mul i₀ i ld) (omega arith)

-- the first of them
pub first-inside : (t : Transpose) (ld i₀ j₀ len : ℕ) {f : Form} → f ≡ op_form t → index_of (op_form t) ld (i₀ + 0) (j₀ + 0) < len → index_of f ld i₀ j₀ < len
first-inside t ld i₀ j₀ len e h = rw (add-zero i₀, add-zero j₀, ← e) at h

module _ (t : Transpose) (a : List Float) (ld i₀ j₀ from : ℕ) {f : Form} (ef : f ≡ op_form t) (e : from ≡ index_of f ld i₀ j₀) where
  index_is : (i j : ℕ) → from + index_of f ld i j ≡ index_of (op_form t) ld (i₀ + i) (j₀ + j)
  index_is i j =
      ap₂ (λ (x : ℕ) (g : Form). x + index_of g ld i j) (e ∙ ap (λ (g : Form). index_of g ld i₀ j₀) ef) ef ∙ index-from t ld i₀ j₀ i j

  pub entry-from : (i j : ℕ) → entry_of f (take (length a - from) (drop from a)) ld i j ≡ entry_of (op_form t) a ld (i₀ + i) (j₀ + j)
  unfolding entry_of
  entry-from i j = tail_at from a (index_of f ld i j) nan ∙ ap (at a) (index_is i j)

  -- those that are within the array are within its part
  pub inside-from : (i j : ℕ) → index_of (op_form t) ld (i₀ + i) (j₀ + j) < length a → index_of f ld i j < length (take (length a - from) (drop from a))
  inside-from i j h = omega (arith, index_is i j, tail-length from a)

-- the values that a buffer holds, by line
held-left : (x : List Float) (p l : ℕ) → entry_of Plain x 64 p (0 + l) ≡ at x (cell true 64 p l)
unfolding entry_of index_of cell
held-left x p l = ap (λ (j : ℕ). at x (j * 64 + p)) (zero-add l)

held-right : (x : List Float) (p l : ℕ) → entry_of Plain x 64 (0 + l) p ≡ at x (cell false 64 p l)
unfolding entry_of index_of cell
held-right x p l = ap (λ (i : ℕ). at x (p * 64 + i)) (zero-add l)

pub held-left-inside : (n lines len : ℕ) → n ≤ 64 → lines ≤ 64 → 4096 ≤ len → (p l : ℕ) → p < n → l < lines → index_of Plain 64 p (0 + l) < len
unfolding index_of
held-left-inside n lines len hn hl h p l b d = rw zero-add (omega arith)

pub held-right-inside : (n lines len : ℕ) → n ≤ 64 → lines ≤ 64 → 4096 ≤ len → (l p : ℕ) → l < lines → p < n → index_of Plain 64 (0 + l) p < len
unfolding index_of
held-right-inside n lines len hn hl h l p d b = rw zero-add (omega arith)

module _ (alpha : Float) (t : Transpose) (a : List Float) (lda x0 n : ℕ) (x : List Float) (down : Bool) where
  -- the terms that are added to the sum of element q of line l
  abbrev terms : Bool → ℕ → ℕ → Float → Float
  terms left q l e = fold (λ e i. line_term left alpha (entry_of (op_form t) a lda) q e (x0 + turn down n i) (at x (cell left 64 (turn down n i) l))) n e

  module _ (y from : ℕ) {f : Form} (ef : f ≡ op_form t) where
    left-product : from ≡ index_of f lda y x0 → (q l : ℕ) (e : Float)
        → product alpha (from_row 0 (entry_of f (take (length a - from) (drop from a)) lda)) (from_column 0 (entry_of Plain x 64)) down n q l e ≡ terms true (y + q) l e
    unfolding product partly accumulate line_term
    left-product e q l s =
        fold_same _ _ n s
        (λ i b s. ap₂ (λ (u v : Float). s ⊕ (alpha ⊗ v) ⊗ u)
        (ap (λ (r : ℕ). entry_of f (take (length a - from) (drop from a)) lda r (turn down n i)) (zero-add q) ∙ entry-from t a lda y x0 from ef e q (turn down n i))
        (held-left x (turn down n i) l))

    right-product : from ≡ index_of f lda x0 y → (q l : ℕ) (e : Float)
        → product alpha (from_row 0 (entry_of Plain x 64)) (from_column 0 (entry_of f (take (length a - from) (drop from a)) lda)) down n l q e ≡ terms false (y + q) l e
    unfolding product partly accumulate line_term
    right-product e q l s =
        fold_same _ _ n s
        (λ i b s. ap₂ (λ (u v : Float). s ⊕ (alpha ⊗ v) ⊗ u)
        (held-right x (turn down n i) l)
        (ap (λ (r : ℕ). entry_of f (take (length a - from) (drop from a)) lda (turn down n i) r) (zero-add q) ∙ entry-from t a lda x0 y from ef e (turn down n i) q))

    module _ (ld m lines h : ℕ) (b ys : List Float) (some : 0 < ld) (low : y + h ≤ m) where
      pub left-added : from ≡ index_of f lda y x0 → m ≤ ld → lines * ld + m ≤ length b + ld → y ≤ length b
          → ys ≡ update (region ld h lines (product alpha (from_row 0 (entry_of f (take (length a - from) (drop from a)) lda)) (from_column 0 (entry_of Plain x 64)) down n)) (take (length b - y) (drop y b))
          → put_mid y (length b - y) b ys ≡ update (grid true ld m lines (λ q l e. if within y h q then terms true q l e else e)) b
      unfolding grid cell
      left-added e wide room yl ey =
          grid-lent nan true ld m lines y h y (terms true) _ b ys some (wide, room) low (omega arith) yl ey (λ q l hq hl s. left-product e q l s)

      pub right-added : (to : ℕ) → to ≡ y * ld → from ≡ index_of f lda x0 y → lines ≤ ld → m * ld + lines ≤ length b + ld → to ≤ length b
          → ys ≡ update (region ld lines h (product alpha (from_row 0 (entry_of Plain x 64)) (from_column 0 (entry_of f (take (length a - from) (drop from a)) lda)) down n)) (take (length b - to) (drop to b))
          → put_mid to (length b - to) b ys ≡ update (grid false ld m lines (λ q l e. if within y h q then terms false q l e else e)) b
      unfolding grid cell
      right-added to et e wide room yl ey =
          grid-lent nan false ld m lines y h to (terms false)
          (λ q l e. product alpha (from_row 0 (entry_of Plain x 64)) (from_column 0 (entry_of f (take (length a - from) (drop from a)) lda)) down n l q e) b ys some (wide, room) low (omega arith) yl ey
          (λ q l hq hl s. right-product e q l s)
