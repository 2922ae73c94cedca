-- Where A holds the coefficients of an element: that of element p for element i at i * row + p * sa.
-- Assumes nothing.
use mathlib.Core.Bool.{Bool, true, false}
use mathlib.Core.Path.{◌≡◌, ap, subst, ◌∙◌}
use mathlib.Core.List.{List}
use Prim.Native.Nat.{ℕ, ◌+◌, ◌-◌, ◌*◌, ◌<◌}
use native.Mathlib.Omega.{arith}
use lib.ListN.{length, take, drop}
use lib.Ieee.{Float, nan}
use Rattle.std.specs.Prelude.{if◌then◌else◌}
use Rattle.arrays.proofs.PartLaws.{tail_at}
use Rattle.floats.specs.Array.{at}
use Rattle.floats.specs.Operations.{◌⊕◌, ◌⊗◌}
use Rattle.definitions.specs.declared.Transpose.{Transpose}
use Rattle.definitions.specs.declared.Transpose.TheVariants.{No, Yes}
use Rattle.packing.specs.Factor.{Matrix, index_of, entry_of}
use Rattle.forms.specs.Forms.{op_form}
use Rattle.lines.specs.Lines.{line_term, coefficient, by_columns}
use Rattle.elements.specs.Sums.{term_of, Summed}
use Rattle.elements.specs.declared.Start.{Start}
use Rattle.elements.specs.declared.End.{End}

abbrev pub Strides : Bool → Transpose → ℕ → ℕ → ℕ → Type 0
Strides left t lda row sa = (i p : ℕ) → i * row + p * sa ≡ (if left then index_of (op_form t) lda i p else index_of (op_form t) lda p i)

pub strides : (left : Bool) (t : Transpose) (lda : ℕ) {columns : Bool} {row sa : ℕ}
    → columns ≡ by_columns left t → row ≡ (if columns then lda else 1) → sa ≡ (if columns then 1 else lda) → Strides left t lda row sa
unfolding index_of
strides true No lda e er es i p = rw (er, es, e) (omega arith)
strides false No lda e er es i p = rw (er, es, e) (omega arith)
strides true Yes lda e er es i p = rw (er, es, e) (omega arith)
strides false Yes lda e er es i p = rw (er, es, e) (omega arith)

pub coefficient-inside : (left : Bool) (t : Transpose) (lda row sa i p m len : ℕ) → Strides left t lda row sa
    → ((i j : ℕ) → i < m → j < m → index_of (op_form t) lda i j < len) → i < m → p < m → i * row + p * sa < len
coefficient-inside true t lda row sa i p m len s h hi hp = rw (s i p) (h i p hi hp)
coefficient-inside false t lda row sa i p m len s h hi hp = rw (s i p) (h p i hp hi)

coefficient-at : (left : Bool) (t : Transpose) (a : List Float) (lda row sa i p : ℕ) → Strides left t lda row sa
    → at (take (length a - i * row) (drop (i * row) a)) (p * sa) ≡ coefficient left (entry_of (op_form t) a lda) i p
unfolding coefficient entry_of
coefficient-at true t a lda row sa i p s = tail_at (i * row) a (p * sa) nan ∙ ap (at a) (s i p)
coefficient-at false t a lda row sa i p s = tail_at (i * row) a (p * sa) nan ∙ ap (at a) (s i p)

-- sums whose coefficients are read by strides
pub summed_at : (left : Bool) (t : Transpose) (a : List Float) (lda row sa ld m lines i : ℕ) (alpha : Float) (start : Start) (end : End) (p : ℕ → ℕ) (count : ℕ) (b c : List Float)
    → Strides left t lda row sa
    → Summed left ld m lines i alpha start end (λ k. at (take (length a - i * row) (drop (i * row) a)) (p k * sa)) p count b c
    → Summed left ld m lines i alpha start end (λ k. coefficient left (entry_of (op_form t) a lda) i (p k)) p count b c
summed_at left t a lda row sa ld m lines i alpha start end p count b c s =
    subst (λ (w : ℕ → Float). Summed left ld m lines i alpha start end w p count b c) (λ x k. coefficient-at left t a lda row sa i (p k) s x)

-- a term by its coefficient is one of the line
pub term_is : (left : Bool) (alpha : Float) (T : Matrix) (q p : ℕ) (e x w : Float) → w ≡ coefficient left T q p → term_of left alpha w e x ≡ line_term left alpha T q e p x
unfolding term_of coefficient line_term
term_is true alpha T q p e x w h = ap (λ (u : Float). e ⊕ (alpha ⊗ x) ⊗ u) h
term_is false alpha T q p e x w h = ap (λ (u : Float). e ⊕ (alpha ⊗ u) ⊗ x) h
