-- The value of a line's element is TRSM's.
-- Assumes nothing.
use mathlib.Core.Bool.{Bool, true, false, not}
use mathlib.Core.Path.{◌≡◌, refl, sym, ap, ◌∙◌}
use mathlib.Core.List.{List}
use Prim.Native.Nat.{ℕ, ◌-◌, ◌<◌}
use native.Mathlib.Omega.{arith}
use lib.ListN.{get_or}
use lib.Ieee.{Float, nan}
use borrow.Author.Tests.{ne_eqb}
use Rattle.std.specs.Prelude.{if◌then◌else◌}
use Rattle.arrays.specs.Fold.{fold, solved}
use Rattle.arrays.proofs.Tests.{if-both}
use Rattle.arrays.proofs.FoldLaws.{fold_same, solved-same}
use Rattle.floats.specs.Operations.{◌⊕◌, ◌⊗◌, 0f, 1f, −1f}
use Rattle.definitions.specs.Number.{is_zero, factor}
use Rattle.definitions.specs.Storage.{stored, op, with_diagonal}
use Rattle.definitions.specs.Call.{by_side, order}
use Rattle.definitions.specs.Element as Element
use Rattle.definitions.specs.Element.{Floats, term, triangular, triangle, solves_up, divided, solve_next, trsm}
use Rattle.definitions.specs.declared.Side.{Side}
use Rattle.definitions.specs.declared.Side.TheVariants.{Left, Right}
use Rattle.definitions.specs.declared.Diagonal.{Diagonal}
use Rattle.definitions.specs.declared.Diagonal.TheVariants.{Unit, Nonunit}
use Rattle.definitions.specs.declared.Call.{Call}
use Rattle.packing.specs.Factor.{turn}
use Rattle.packing.proofs.FactorLaws.{turn_below}
use Rattle.lines.specs.Lines.{line_term}
use Rattle.trsm_diagonal.specs.Solve.{next, solution, solve_term, solve_end}
use Rattle.trsm.specs.Steps.{goes_down, line_value}

-- ---- the diagonal

-- beside the diagonal nothing depends on whether it is unit
off-diagonal : (diag : Diagonal) (M : Floats) (i j : ℕ) → (i ≡ j → ⊥) → with_diagonal 1f diag M i j ≡ M i j
unfolding with_diagonal
off-diagonal Unit M i j h = rw (ne_eqb i j h)
off-diagonal Nonunit M i j h = refl

-- a unit diagonal divides nothing
diagonal-same : (diag : Diagonal) (M : Floats) (e : Float) (p : ℕ) → divided diag e (with_diagonal 1f diag M p p) ≡ divided diag e (M p p)
unfolding with_diagonal divided
diagonal-same Unit M e p = refl
diagonal-same Nonunit M e p = refl

-- ---- the order of solving

way-is : (up : Bool) (m q : ℕ) → (if up then q else m - 1 - q) ≡ turn (not up) m q
unfolding turn
way-is true m q = refl
way-is false m q = refl

turns-differ : (down : Bool) (m q l : ℕ) → l < q → q < m → turn down m q ≡ turn down m l → ⊥
unfolding turn
turns-differ true m q l h k e = omega arith
turns-differ false m q l h k e = omega arith

-- ---- one value more

abbrev pub is_left : Side → Bool
is_left s = by_side s true false

module _ (diag : Diagonal) (alpha : Float) (M B : Floats) (i j : ℕ) (down : Bool) (m : ℕ) where
  -- the definition's next value, by the side and the order of solving
  next_by : Side → (ℕ → ℕ) → List Float → ℕ → Float
  next_by s w xs q =
      divided diag
      (fold (term −1f (λ l. by_side s (with_diagonal 1f diag M (w q) (w l)) (get_or xs l nan)) (λ l. by_side s (get_or xs l nan) (with_diagonal 1f diag M (w l) (w q)))) q
      (alpha ⊗ by_side s (B (w q) j) (B i (w q))))
      (with_diagonal 1f diag M (w q) (w q))

  next-is : (s : Side) (xs : List Float) (q : ℕ) → q < m
      → next nan (solve_term (is_left s) down m M) (solve_end diag down m M) (λ q. alpha ⊗ by_side s (B (turn down m q) j) (B i (turn down m q))) xs q ≡ next_by s (turn down m) xs q
  unfolding next_by next solve_term solve_end line_term term by_side
  next-is Left xs q hq =
      ap (λ (e : Float). divided diag e (M (turn down m q) (turn down m q)))
      (fold_same _ _ q _
      (λ l b e. ap (λ (y : Float). e ⊕ (−1f ⊗ get_or xs l nan) ⊗ y) (sym (off-diagonal diag M (turn down m q) (turn down m l) (turns-differ down m q l b hq)))))
      ∙ sym (diagonal-same diag M _ (turn down m q))
  next-is Right xs q hq =
      ap (λ (e : Float). divided diag e (M (turn down m q) (turn down m q)))
      (fold_same _ _ q _
      (λ l b e. ap (λ (y : Float). e ⊕ (−1f ⊗ y) ⊗ get_or xs l nan)
      (sym (off-diagonal diag M (turn down m l) (turn down m q) (λ z. turns-differ down m q l b hq (sym z))))))
      ∙ sym (diagonal-same diag M _ (turn down m q))

-- ---- the value

module _ (c : Call) (a : List Float) (B : Floats) (i j : ℕ) where
  abbrev down : Bool
  down = goes_down c.side c.transa c.uplo

  abbrev M : Floats
  M = op c.transa (stored nan a c.lda)

  turn_is : Element.turn c ≡ turn down (order c)
  unfolding Element.turn triangle goes_down
  turn_is = λ t q. way-is (solves_up c.side (triangle c)) (order c) q t

  solve-next : (xs : List Float) (q : ℕ) → solve_next c (triangular c (stored nan a c.lda)) B i j xs q ≡ next_by c.diag (factor c.alpha) M B i j down (order c) c.side (Element.turn c) xs q
  unfolding solve_next next_by triangular
  solve-next xs q = refl

  next-same : (xs : List Float) (q : ℕ) → q < order c
      → next nan (solve_term (is_left c.side) down (order c) M) (solve_end c.diag down (order c) M)
      (λ q. factor c.alpha ⊗ by_side c.side (B (turn down (order c) q) j) (B i (turn down (order c) q))) xs q
      ≡ solve_next c (triangular c (stored nan a c.lda)) B i j xs q
  next-same xs q hq =
      next-is c.diag (factor c.alpha) M B i j down (order c) c.side xs q hq
      ∙ ap (λ (w : ℕ → ℕ). next_by c.diag (factor c.alpha) M B i j down (order c) c.side w xs q) (sym turn_is)
      ∙ sym (solve-next xs q)

  pub value_of : (x : ℕ) (y : Float) → x ≡ by_side c.side i j → x < order c
      → line_value (is_left c.side) down (order c) c.diag c.alpha M (λ p. by_side c.side (B p j) (B i p)) x ≡ trsm c (stored nan a c.lda) B i j y
  unfolding line_value trsm solution
  value_of x y ex hx =
      if-both (is_zero c.alpha) 0f _ 0f _ (λ _. refl)
      (λ _.
      let low : turn down (order c) x < order c = turn_below down (order c) x hx in
      next-same _ (turn down (order c) x) low
      ∙ ap (λ (xs : List Float). solve_next c (triangular c (stored nan a c.lda)) B i j xs (turn down (order c) x))
      (solved-same _ _ (turn down (order c) x) (λ xs q b. next-same xs q (omega (arith, low))))
      ∙ ap (λ (q : ℕ). solve_next c (triangular c (stored nan a c.lda)) B i j (solved (solve_next c (triangular c (stored nan a c.lda)) B i j) q) q)
      (ap (λ (w : ℕ → ℕ). w x) (sym turn_is) ∙ ap (Element.turn c) ex))
