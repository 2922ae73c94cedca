-- The sum of one element of a line, straight from the arrays.
--     term_of    what a term makes of the sum e: e + (alpha * v) * u, where v is the value x and u the coefficient w for side L, and the other way round for side R
--     begun     what the sum starts with; y is the element's old value
--     finished  what the sum e becomes at its end
--     line_sum   the whole of it: the k-th of the `count` terms has the coefficient w k and the value x k
--     Summed    c is b, but for element i of each line, which is its sum: the k-th term is that of element p k
use Rattle.std.specs.Prelude.{Bool, true, false, ◌≡◌, List, ℕ, Float, if◌then◌else◌}
use Rattle.arrays.specs.Update.{update}
use Rattle.arrays.specs.Fold.{fold}
use Rattle.floats.specs.Array.{at}
use Rattle.floats.specs.Operations.{◌⊕◌, ◌⊗◌, ◌⊘◌, 0f}
use Rattle.lines.specs.Lines.{cell, grid, within}
use Rattle.elements.specs.declared.Start.{Start}
use Rattle.elements.specs.declared.Start.TheVariants.{Value, Zero, OwnFirst}
use Rattle.elements.specs.declared.End.{End}
use Rattle.elements.specs.declared.End.TheVariants.{Sum, OwnLast, Quotient}

unfoldable pub term_of : Bool → Float → Float → Float → Float → Float
term_of true alpha w e x = e ⊕ (alpha ⊗ x) ⊗ w
term_of false alpha w e x = e ⊕ (alpha ⊗ w) ⊗ x

unfoldable pub begun : Bool → Float → Start → Float → Float
begun left alpha Value y = y
begun left alpha Zero y = 0f
begun left alpha (OwnFirst w) y = term_of left alpha w 0f y

unfoldable pub finished : Bool → Float → End → Float → Float → Float
finished left alpha Sum e y = e
finished left alpha (OwnLast w) e y = term_of left alpha w e y
finished left alpha (Quotient d) e y = e ⊘ d

unfoldable pub line_sum : Bool → Float → Start → End → (ℕ → Float) → (ℕ → Float) → ℕ → Float → Float
line_sum left alpha start end w x count y = finished left alpha end (fold (λ e k. term_of left alpha (w k) e (x k)) count (begun left alpha start y)) y

abbrev pub Summed : Bool → ℕ → ℕ → ℕ → ℕ → Float → Start → End → (ℕ → Float) → (ℕ → ℕ) → ℕ → List Float → List Float → Type 0
Summed left ld m lines i alpha start end w p count b c =
    c ≡ update (grid left ld m lines (λ q l y. if within i 1 q then line_sum left alpha start end w (λ k. at b (cell left ld (p k) l)) count y else y)) b
