-- TRMM and TRSM: a value is made from its own column (side L) or row (side R) of B alone.
-- Assumes nothing.
use Prim.Native.Nat.{ℕ, ◌-◌, ◌<◌}
use mathlib.Core.Path.{◌≡◌, refl, ap, ◌∙◌}
use mathlib.Core.Bool.{Bool, true, false}
use mathlib.Core.List.{List}
use native.Mathlib.Omega.{arith}
use lib.Ieee.{Float}
use Rattle.std.specs.Prelude.{if◌then◌else◌}
use Rattle.arrays.specs.Fold.{among, solved}
use Rattle.arrays.proofs.Tests.{if-both}
use Rattle.arrays.proofs.FoldLaws.{fold_same, solved-same}
use Rattle.floats.specs.Operations.{0f}
use Rattle.definitions.specs.Number.{is_zero, factor}
use Rattle.definitions.specs.Storage.{inside}
use Rattle.definitions.specs.Call.{by_side, order}
use Rattle.definitions.specs.Element.{Floats, ◌times◌, term, product_term, triangular, triangle, trmm, solves_up, turn, solve_next, trsm}
use Rattle.definitions.specs.declared.Side.{Side}
use Rattle.definitions.specs.declared.Side.TheVariants.{Left, Right}
use Rattle.definitions.specs.declared.Call.{Call}

-- Entry l of the column (side L) or row (side R) of B that (i, j) is in.
abbrev pub line : Side → Floats → ℕ → ℕ → ℕ → Float
line s B i j l = by_side s (B l j) (B i l)

same-term : (s : Side) (α : Float) (T B B' : Floats) (i j : ℕ) (e : Float) (l : ℕ) → line s B i j l ≡ line s B' i j l
    → product_term α (by_side s (T times B) (B times T)) i j e l ≡ product_term α (by_side s (T times B') (B' times T)) i j e l
unfolding by_side product_term term
same-term Left α T B B' i j e l h = rw h
same-term Right α T B B' i j e l h = rw h

same-among : (inside : ℕ → Bool) (f g : Float → ℕ → Float) (e : Float) (l : ℕ) → f e l ≡ g e l → among inside f e l ≡ among inside g e l
unfolding among
same-among inside f g e l h = if-both (inside l) (f e l) e (g e l) e (λ _. h) (λ _. refl)

pub trmm-same : (c : Call) (A B B' : Floats) (i j : ℕ) (old : Float) → ((l : ℕ) → l < order c → line c.side B i j l ≡ line c.side B' i j l)
    → trmm c A B i j old ≡ trmm c A B' i j old
unfolding trmm
trmm-same c A B B' i j old h =
    if-both (is_zero c.alpha) 0f _ 0f _ (λ _. refl)
    (λ _. fold_same _ _ (order c) 0f
    (λ q b e. same-among _ _ _ e q (same-term c.side (factor c.alpha) (triangular c A) B B' i j e q (h q b))))

pub turn_below : (c : Call) (q : ℕ) → q < order c → turn c q < order c
unfolding turn
turn_below c q h = go (solves_up c.side (triangle c))
  where
    go : (b : Bool) → (if b then q else order c - 1 - q) < order c
    go true = h
    go false = omega arith

by_side-below : (s : Side) (i j m n : ℕ) → i < m → j < n → by_side s i j < by_side s m n
unfolding by_side
by_side-below Left i j m n h k = h
by_side-below Right i j m n h k = k

pub trsm-same : (c : Call) (A B B' : Floats) (i j : ℕ) (old : Float) → i < c.m → j < c.n
    → ((l : ℕ) → l < order c → line c.side B i j l ≡ line c.side B' i j l) → trsm c A B i j old ≡ trsm c A B' i j old
unfolding trsm order solve_next
trsm-same c A B B' i j old hi hj h =
    if-both (is_zero c.alpha) 0f _ 0f _ (λ _. refl)
    (λ _. next (solved (solve_next c T B i j) q) q low ∙ ap (λ (xs : List Float). solve_next c T B' i j xs q) (solved-same _ _ q (λ xs p b. next xs p (omega (arith, low)))))
  where
    T : Floats
    T = triangular c A

    q : ℕ
    q = turn c (by_side c.side i j)

    low : q < order c
    low = turn_below c _ (by_side-below c.side i j c.m c.n hi hj)

    next : (xs : List Float) (p : ℕ) → p < order c → solve_next c T B i j xs p ≡ solve_next c T B' i j xs p
    next xs p b = rw (h (turn c p) (turn_below c p b))
