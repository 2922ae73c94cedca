-- Laws of folds over terms, for any type of sums and any step.
-- Assumes nothing.
use mathlib.Core.Path.{◌≡◌, refl, sym, ap, ◌∙◌}
use mathlib.Core.Logic.{⊎_elim}
use mathlib.Core.List.{List, [], ◌∷◌, ◌++◌}
use Prim.Native.Nat.{ℕ, zero, suc, ◌+◌, ◌<◌}
use native.Mathlib.Nat.{add-zero, add-suc, eq-or-lt_of_le, le_of_suc-le-suc}
use native.Mathlib.Omega.{arith}
use lib.ListN.{length, get_or, length-append, get_or-append}
use lib.Seq.{get_or_at}
use Rattle.arrays.specs.Fold.{fold, solved}

module _ {E : Type 0} where
  pub fold-none : (step : E → ℕ → E) (e : E) → fold step 0 e ≡ e
  unfolding fold
  fold-none step e = refl

  -- the terms below p + k are those below p and then k more
  pub fold-split : (step : E → ℕ → E) (p k : ℕ) (e : E) → fold step (p + k) e ≡ fold (λ x q. step x (p + q)) k (fold step p e)
  unfolding fold
  fold-split step p zero e = rw add-zero
  fold-split step p (suc k) e = rw add-suc (ap (λ (x : E). step x (p + k)) (fold-split step p k e))

  -- steps that agree on the terms
  pub fold_same : (f g : E → ℕ → E) (k : ℕ) (e : E) → ((q : ℕ) → q < k → (x : E) → f x q ≡ g x q) → fold f k e ≡ fold g k e
  unfolding fold
  fold_same f g zero e h = refl
  fold_same f g (suc k) e h = ap (λ (x : E). f x k) (fold_same f g k e (λ q b. h q (omega arith))) ∙ h k (omega arith) (fold g k e)

  -- terms that change nothing
  pub fold-keep : (step : E → ℕ → E) (k : ℕ) (e : E) → ((q : ℕ) → q < k → (x : E) → step x q ≡ x) → fold step k e ≡ e
  unfolding fold
  fold-keep step zero e h = refl
  fold-keep step (suc k) e h = h k (omega arith) (fold step k e) ∙ fold-keep step k e (λ q b. h q (omega arith))

  -- ---- values that follow from those before them

  pub length-solved : (next : List E → ℕ → E) (n : ℕ) → length (solved next n) ≡ n
  unfolding solved
  length-solved next zero = refl
  length-solved next (suc n) = length-append (solved next n) _ ∙ omega (arith, length-solved next n)

  -- value q of the first n
  pub solved-at : (d : E) (next : List E → ℕ → E) (q n : ℕ) → q < n → get_or (solved next n) q d ≡ next (solved next q) q
  unfolding solved
  solved-at d next q zero h = let f : ⊥ = omega arith in absurd f
  solved-at d next q (suc n) h =
      ⊎_elim
      (λ e. ap (λ (k : ℕ). get_or (solved next n ++ (next (solved next n) n ∷ [])) k d) e
      ∙ get_or_at (solved next n) (next (solved next n) n) [] d n (length-solved next n)
      ∙ ap (λ (k : ℕ). next (solved next k) k) (sym e))
      (λ b. get_or-append (solved next n) _ d q (omega (arith, length-solved next n)) ∙ solved-at d next q n b)
      (eq-or-lt_of_le (le_of_suc-le-suc h))

  pub solved-same : (f g : List E → ℕ → E) (n : ℕ) → ((xs : List E) (q : ℕ) → q < n → f xs q ≡ g xs q) → solved f n ≡ solved g n
  unfolding solved
  solved-same f g zero h = refl
  solved-same f g (suc n) h =
      ap (λ (xs : List E). xs ++ (f xs n ∷ [])) (solved-same f g n (λ xs q b. h xs q (omega arith)))
      ∙ ap (λ (x : E). solved g n ++ (x ∷ [])) (h (solved g n) n (omega arith))
