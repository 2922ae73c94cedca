-- The cases of a start, for any index map F that takes what becomes of an element.
-- Assumes nothing.
use mathlib.Core.Path.{◌≡◌, ap, sym, ◌∙◌}
use mathlib.Core.List.{List}
use Prim.Native.Nat.{ℕ}
use lib.Ieee.{Float}
use Rattle.floats.specs.Operations.{◌⊗◌, 0f}
use Rattle.arrays.specs.Update.{update}
use Rattle.definitions.specs.Number.{start}
use Rattle.definitions.specs.declared.Scalar.{Scalar}
use Rattle.definitions.specs.declared.Scalar.TheVariants.{Zero, One, Other}

module _ (F : (Float → Float) → ℕ → Float → Float) (l r : List Float) (s : Scalar) where
  starts-as : (f : Float → Float) (t : Scalar) → s ≡ t → start t ≡ f → r ≡ update (F f) l → r ≡ update (F (start s)) l
  starts-as f t e k h = h ∙ ap (λ (g : Float → Float). update (F g) l) (sym k ∙ ap start (sym e))

  pub cleared : s ≡ Zero → r ≡ update (F (λ x. 0f)) l → r ≡ update (F (start s)) l
  unfolding start
  cleared e h = starts-as (λ x. 0f) Zero e (λ i x. 0f) h

  pub kept : s ≡ One → r ≡ update (F (λ x. x)) l → r ≡ update (F (start s)) l
  unfolding start
  kept e h = starts-as (λ x. x) One e (λ i x. x) h

  pub scaled : (b : Float) → s ≡ Other b → r ≡ update (F (λ x. b ⊗ x)) l → r ≡ update (F (start s)) l
  unfolding start
  scaled b e h = starts-as (λ x. b ⊗ x) (Other b) e (λ i x. b ⊗ x) h
