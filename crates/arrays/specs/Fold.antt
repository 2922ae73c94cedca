-- Folds over the terms of an element, for any type of sums and any step.
--     fold      terms 0 to k - 1 in turn: term l turns the sum e into `step e l`
--     among     the step that passes over the terms for which a test fails
--     solved    the first n values of a list each of whose values follows from those before it: value q is `next` of those and q
use Rattle.std.specs.Prelude.{Bool, List, [], ◌∷◌, ◌++◌, ℕ, zero, suc, if◌then◌else◌}

module _ {E : Type 0} where
  unfoldable pub fold : (E → ℕ → E) → ℕ → E → E
  fold step zero e = e
  fold step (suc k) e = step (fold step k e) k

  unfoldable pub among : (ℕ → Bool) → (E → ℕ → E) → E → ℕ → E
  among inside step e l = let r = step e l in if inside l then r else e

  unfoldable pub solved : (List E → ℕ → E) → ℕ → List E
  solved next zero = []
  solved next (suc q) = let xs = solved next q in xs ++ (next xs q ∷ [])
