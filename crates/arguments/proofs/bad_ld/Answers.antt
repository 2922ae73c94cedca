-- `bad_ld` tests that a leading dimension is below 1 or below the stored rows: below the larger of the two.
use mathlib.Core.Path.{◌≡◌, refl, sym, ap, ◌∙◌}
use mathlib.Core.Bool.{Bool, true, false, ◌||◌}
use Prim.Native.Nat.{ℕ, max}
use native.Mathlib.Nat.{le_trans, le-max_left, le-max_right, max-le}
use lib.Dec.{ltb}
use borrow.Author.Tests.{ltb-true, ltb-false, lt-ltb, le-ltb}
use mir.Syntax.{w32}
use mir.ValLaws.{to_z-of_z}
use Rattle.definitions.specs.Check.{nat, bad_ld}
use Rattle.arguments.proofs.bad_ld.Goals as goal

below-larger : (n a b : ℕ) → (ltb n a || ltb n b) ≡ ltb n (max a b)
below-larger n a b = go (ltb n a) (ltb n b) refl refl
  where
    go : (p q : Bool) → ltb n a ≡ p → ltb n b ≡ q → (p || q) ≡ ltb n (max a b)
    go true q e f = sym (lt-ltb n (max a b) (le_trans (ltb-true n a e) (le-max_left a b)))
    go false true e f = sym (lt-ltb n (max a b) (le_trans (ltb-true n b f) (le-max_right a b)))
    go false false e f = sym (le-ltb n (max a b) (max-le (ltb-false n a e) (ltb-false n b f)))

pub returns : goal.returns
unfolding bad_ld
returns c =
    below-larger c.size-n.result 1 c.args.s.rows
    ∙ ap (λ n. ltb n (max 1 c.args.s.rows)) (c.size-n.ensures ∙ ap nat (to_z-of_z w32 c.args.ld c.ranges.ld))
