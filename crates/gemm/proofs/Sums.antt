-- A start and the terms after it, over a region.
-- Assumes nothing.
use Prim.Native.Nat.{ℕ, ◌<◌}
use mathlib.Core.Path.{◌≡◌, sym, ap₂, ◌∙◌}
use mathlib.Core.Bool.{true, false}
use mathlib.Core.List.{List}
use native.Mathlib.Nat.{zero-add}
use lib.Ieee.{Float}
use Rattle.arrays.specs.Update.{update, region}
use Rattle.arrays.proofs.Tests.{if-true, if-false}
use Rattle.arrays.proofs.RegionLaws.{region-same, region-then}
use Rattle.definitions.specs.Number.{is_zero, factor, start}
use Rattle.definitions.specs.declared.Scalar.{Scalar}
use Rattle.packing.specs.Factor.{Matrix}
use Rattle.direct.specs.Product.{from_row, product}
use Rattle.gemm.specs.Sum.{summed}

from_first : (M : Matrix) → from_row 0 M ≡ M
from_first M = λ t i l. M (zero-add i t) l

module _ (ld rows cols : ℕ) (alpha beta : Scalar) (L R : Matrix) (k : ℕ) (l r : List Float) (pos : 0 < ld) where
  pub start-alone : is_zero alpha ≡ true → r ≡ update (region ld rows cols (λ i j x. start beta x)) l → r ≡ update (region ld rows cols (summed alpha beta L R k)) l
  unfolding summed
  start-alone z h = h ∙ region-same ld rows cols _ _ l pos (λ i j hi hj x. sym (if-true (is_zero alpha) _ _ z))

  pub start-and-terms : (m : List Float) (f : Float) → f ≡ factor alpha → is_zero alpha ≡ false → m ≡ update (region ld rows cols (λ i j x. start beta x)) l
      → r ≡ update (region ld rows cols (product f (from_row 0 L) R false k)) m → r ≡ update (region ld rows cols (summed alpha beta L R k)) l
  unfolding summed
  start-and-terms m f e z em er =
      region-then ld rows cols _ (product (factor alpha) L R false k) _ l m r pos em
      (er ∙ ap₂ (λ (f : Float) (L : Matrix). update (region ld rows cols (product f L R false k)) m) e (from_first L))
      (λ i j hi hj x. sym (if-false (is_zero alpha) _ _ z))
