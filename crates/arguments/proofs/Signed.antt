-- Signed words: a number that goes through the bits of a word is itself, and the tests of its sign.
-- Assumes nothing.
use mathlib.Core.Path.{◌≡◌, refl, ap, ◌∙◌}
use mathlib.Core.Bool.{false}
use Prim.Native.Nat.{ℕ, ◌<◌, ◌^◌}
use native.Mathlib.Omega.{arith}
use lib.Dec.{T}
use lib.IntN.{ℤ, pos, negsuc, nat_abs}
use lib.Signed.{lt_z, non_neg, mag}
use borrow.Author.Tests.{le-ltb}
use mir.Syntax.{w32}
use mir.Val.{Fits, SFits, to_z, of_z}
use mir.ValLaws.{to_z-of_z}
use Rattle.definitions.specs.Check.{negative}

-- A number that went through its bits, as an argument or a field does.
pub word_same : (z : ℤ) → mag z < 2 ^ 31 → to_z w32 (of_z w32 z) ≡ z
word_same z fits = to_z-of_z w32 z (record { sfits = fits })

-- A function's value at such a number.
pub same : {A : Type 0} (f : ℤ → A) {r : A} (z : ℤ) → mag z < 2 ^ 31 → r ≡ f (to_z w32 (of_z w32 z)) → r ≡ f z
same f z fits h = h ∙ ap f (word_same z fits)

pub sign : (z : ℤ) → lt_z z (pos 0) ≡ negative z
sign (pos n) = le-ltb n 0 (omega arith)
sign (negsuc n) = refl

-- What the cast of a number that is not negative asks.
pub cast_fits : (z : ℤ) → SFits w32 z → lt_z z (pos 0) ≡ false → T (non_neg z) × Fits w32 (nat_abs z)
cast_fits (pos n) f h = (tt, record { fits = omega arith })
cast_fits (negsuc n) f h = let e : ◌≡◌ {A = ℕ} 0 1 = cc in omega arith
