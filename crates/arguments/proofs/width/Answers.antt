-- `width` is what the width means: 64 for 0, else its number.
use mathlib.Core.Path.{◌≡◌, refl, sym, ap, ◌∙◌}
use Prim.Native.Nat.{zero, suc}
use lib.IntN.{ℤ, pos, negsuc}
use mir.Syntax.{w32}
use mir.Val.{to_z, of_z}
use mir.ValLaws.{to_z-of_z}
use Rattle.definitions.specs.Check.{nat, width}
use Rattle.arguments.proofs.width.Goals as goal

not-zero : (w : ℤ) → (of_z w32 w ≡ 0 → ⊥) → nat w ≡ width w
unfolding width
not-zero (pos zero) h = absurd (h refl)
not-zero (pos (suc n)) h = refl
not-zero (negsuc n) h = refl

pub returns-then-w-eq0 : goal.returns-then-w-eq0
unfolding width
returns-then-w-eq0 c = ap width (sym (ap (to_z w32) c.if-w-eq0.true) ∙ to_z-of_z w32 c.args.w c.ranges.w)

pub returns : goal.returns
returns c =
    c.size.ensures ∙ ap nat (to_z-of_z w32 c.args.w c.ranges.w) ∙ not-zero c.args.w c.if-w-eq0.false
