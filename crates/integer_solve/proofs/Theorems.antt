-- What the definition of the answer comes to: there is at most one X; a call has one answer, one number and one list; and a call that is not refused hands back 0 exactly
-- if there is an X, with that X, and −1 exactly if there is none.
-- Assumes nothing.
use mathlib.Core.Path.{◌≡◌, refl, sym, ap, ◌∙◌}
use mathlib.Core.Bool.{Bool, true, false}
use mathlib.Core.List.{List}
use Prim.Native.Nat.{ℕ, zero, suc, ◌<◌, ◌≤◌}
use native.Mathlib.Omega.{arith}
use lib.IntN.{ℤ, pos, negsuc, nat_abs, pos-ne-negsuc}
use lib.ListN.{length, get_or}
use lib.Seq.{ext_get_or}
use Rattle.definitions.specs.Check.{nat, uplo_of}
use Rattle.definitions.specs.declared.Triangle.{Triangle}
use Rattle.definitions.specs.declared.Triangle.TheVariants.{Lower, Upper}
use Rattle.packing.specs.Factor.{turn}
use Rattle.packing.proofs.FactorLaws.{turn_below}
use Rattle.integer_solve.specs.Equations.{Solves, zero_diagonal, refusal, Answers, number, Numbered}
use Rattle.integer_solve.specs.Elimination.{triangle}
use Rattle.integer_solve.specs.declared.Answer.{Answer}
use Rattle.integer_solve.specs.declared.Answer.TheVariants.{Solved, None, Refused}
use Rattle.integer_solve.proofs.Numbers.{passed}
use Rattle.integer_solve.proofs.Progress.{solved-more, equation-at, one_value, diagonal-some}

-- ---- one X

module _ (down : Bool) {n : ℕ} {a b x y : List ℤ} (some : zero_diagonal n a ≡ false) (v : Solves (triangle down) n a b x)
    (w : Solves (triangle down) n a b y) where
  -- two solutions agree on the first q unknowns
  agree : (q : ℕ) → q ≤ n → (i : ℕ) → i < n → turn down n i < q → get_or x i (pos 0) ≡ get_or y i (pos 0)
  agree zero h i c k = absurd (omega arith)
  agree (suc q) h i c k =
      let before = agree q (omega arith) in
      let itself = equation-at down n h refl y w (λ _ _ _. refl) in
      let some-j = diagonal-some n a some (turn down n q) (turn_below down n q h) in
      solved-more down n h refl (λ (i : ℕ). get_or x i (pos 0) ≡ get_or y i (pos 0)) before (one_value down n h refl y v before some-j _ itself) i c (omega arith)

  one_list : x ≡ y
  one_list =
      ext_get_or (pos 0) x y (v.order ∙ sym w.order)
      (λ i c. let d : i < n = omega (arith, v.order) in agree n (omega arith) i d (turn_below down n i d))

pub only_one : {t : Triangle} {n : ℕ} {a b x y : List ℤ} → zero_diagonal n a ≡ false → Solves t n a b x → Solves t n a b y → x ≡ y
unfolding triangle
only_one {t = Lower} some v w = one_list false some v w
only_one {t = Upper} some v w = one_list true some v w

-- ---- one answer

module _ (uplo n : ℤ) (a b x : List ℤ) where
  pub one_answer : (r r' : Answer) (y y' : List ℤ) → Answers uplo n a b x r y → Answers uplo n a b x r' y' → (r ≡ r') × (y ≡ y')
  one_answer Solved Solved y y' v w = (refl, only_one (passed uplo n a (length b) (length x) v.0).2 v.1 w.1)
  one_answer Solved None y y' v w = absurd (w.1 y v.1)
  one_answer Solved (Refused k) y y' v w = absurd (omega arith)
  one_answer None Solved y y' v w = absurd (v.1 y' w.1)
  one_answer None None y y' v w = (refl, v.2 ∙ sym w.2)
  one_answer None (Refused k) y y' v w = absurd (omega arith)
  one_answer (Refused k) Solved y y' v w = absurd (omega arith)
  one_answer (Refused k) None y y' v w = absurd (omega arith)
  one_answer (Refused k) (Refused l) y y' v w = (ap Refused (sym v.0 ∙ w.0), v.2 ∙ sym w.2)

  pub one_number : {r r' : ℤ} {y y' : List ℤ} → Numbered uplo n a b x r y → Numbered uplo n a b x r' y' → (r ≡ r') × (y ≡ y')
  one_number {y} {y'} v w =
      let same = one_answer v.answer w.answer y y' v.answers w.answers in
      (v.is_number ∙ ap number same.0 ∙ sym w.is_number, same.1)

  -- ---- 0 and −1

  module _ {r : ℤ} {y : List ℤ} (v : Numbered uplo n a b x r y) where
    -- 0 only if X is written
    pub zero-only : r ≡ pos 0 → Solves (uplo_of uplo) (nat n) a b y
    unfolding number
    zero-only e = by_answer v.answer v.answers (sym v.is_number ∙ e)
      where
        by_answer : (q : Answer) → Answers uplo n a b x q y → number q ≡ pos 0 → Solves (uplo_of uplo) (nat n) a b y
        by_answer Solved w o = w.1
        by_answer None w o = absurd (pos-ne-negsuc 0 0 (sym o))
        by_answer (Refused k) w o = absurd (omega (arith, ap nat_abs o))

    -- −1 only if there is none
    pub none_only : r ≡ negsuc 0 → (z : List ℤ) → Solves (uplo_of uplo) (nat n) a b z → ⊥
    unfolding number
    none_only e = by_answer v.answer v.answers (sym v.is_number ∙ e)
      where
        by_answer : (q : Answer) → Answers uplo n a b x q y → number q ≡ negsuc 0 → (z : List ℤ) → Solves (uplo_of uplo) (nat n) a b z → ⊥
        by_answer Solved w o = absurd (pos-ne-negsuc 0 0 o)
        by_answer None w o = w.1
        by_answer (Refused k) w o = absurd (pos-ne-negsuc k 0 o)

    module _ (h : refusal uplo n a (length b) (length x) ≡ 0) where
      -- 0, and that X, if there is one and the call is not refused
      pub zero-exactly : (z : List ℤ) → Solves (uplo_of uplo) (nat n) a b z → (r ≡ pos 0) × (y ≡ z)
      unfolding number
      zero-exactly z w = one_number v (record { answer = Solved; is_number = refl; answers = (h, w) })

      -- −1 if there is none and the call is not refused
      pub none-exactly : ((z : List ℤ) → Solves (uplo_of uplo) (nat n) a b z → ⊥) → (r ≡ negsuc 0) × (y ≡ x)
      unfolding number
      none-exactly w = one_number v (record { answer = None; is_number = refl; answers = (h, w, refl) })
