-- Laws of what is solved so far: the values of one line, and the steps that bring all lines from one state to another.
-- Assumes nothing.
use mathlib.Core.Bool.{Bool}
use mathlib.Core.Path.{◌≡◌, refl, sym, ap, ◌∙◌}
use mathlib.Core.Logic.{⊎_elim, ◌⊎◌, inl, inr}
use mathlib.Core.List.{List}
use Prim.Native.Nat.{ℕ, zero, suc, ◌+◌, ◌<◌, ◌≤◌}
use native.Mathlib.Omega.{arith}
use lib.ListN.{length, get_or}
use borrow.Author.Tests.{lt-ltb, le-ltb}
use Rattle.std.specs.Prelude.{if◌then◌else◌}
use Rattle.arrays.specs.Update.{update}
use Rattle.arrays.specs.Fold.{fold}
use Rattle.arrays.proofs.UpdateLaws.{lt-or-ge}
use Rattle.arrays.proofs.FoldLaws.{fold-none, fold-split, fold_same, solved-at}
use Rattle.packing.specs.Factor.{turn}
use Rattle.lines.specs.Lines.{cell, within, Room}
use Rattle.lines.proofs.GridLaws.{by-within}
use Rattle.trsm_diagonal.specs.Solve.{ordered, next, solution, sum_after, state_of, solving, front}
use Rattle.trsm_diagonal.proofs.OrderLaws.{ordered-then, ordered_same, ordered-same-at, ordered_at}

pub front-in : (e hi : ℕ) (k : ℕ → ℕ) (q : ℕ) → q < e → front e hi k q ≡ hi
unfolding front
front-in e hi k q h = rw (lt-ltb q e h)

pub front_out : (e hi : ℕ) (k : ℕ → ℕ) (q : ℕ) → e ≤ q → front e hi k q ≡ k q
unfolding front
front_out e hi k q h = rw (le-ltb q e h)

-- unknown q is in the same state whether the first k or the first k' are solved
abbrev Same : ℕ → ℕ → ℕ → Type 0
Same k k' q = (k ≡ k') ⊎ ((q < k) × (q < k'))

module _ {A : Type 0} (d : A) (term : ℕ → A → ℕ → A → A) (finish : ℕ → A → A) where
  module _ (start : ℕ → A) where
    abbrev value : ℕ → A
    value = solution d term finish start

    abbrev state : ℕ → ℕ → A
    state = state_of d term finish start

    pub value-is : (q : ℕ) → value q ≡ finish q (sum_after d term finish start q q)
    unfolding solution next sum_after
    value-is q = ap (finish q) (fold_same _ _ q (start q) (λ p b e. ap (term q e p) (solved-at d (next d term finish start) p q b)))

    pub state-done : (k q : ℕ) → q < k → state k q ≡ value q
    unfolding state_of
    state-done k q h = rw (lt-ltb q k h)

    state-open : (k q : ℕ) → k ≤ q → state k q ≡ sum_after d term finish start k q
    unfolding state_of
    state-open k q h = rw (le-ltb q k h)

    pub state-start : (q : ℕ) → state 0 q ≡ start q
    unfolding sum_after
    state-start q = state-open 0 q (omega arith) ∙ fold-none _ (start q)

    -- the end of a sum
    state-finish : (q k : ℕ) → q < k → finish q (state q q) ≡ state k q
    state-finish q k h = ap (finish q) (state-open q q (omega arith)) ∙ sym (value-is q) ∙ sym (state-done k q h)

    -- n terms more
    state-more : (p n q : ℕ) (x : ℕ → A) → p + n ≤ q → ((t : ℕ) → t < n → x t ≡ value (p + t))
        → fold (λ e t. term q e (p + t) (x t)) n (state p q) ≡ state (p + n) q
    unfolding sum_after
    state-more p n q x h e =
        ap (λ (y : A). fold (λ e t. term q e (p + t) (x t)) n y) (state-open p q (omega arith))
        ∙ fold_same _ _ n _ (λ t b y. ap (term q y (p + t)) (e t b))
        ∙ sym (fold-split (λ e p. term q e p (solution d term finish start p)) p n (start q))
        ∙ sym (state-open (p + n) q h)

    -- value p + q, from the sum that has p terms
    pub value-from : (p q : ℕ) → value (p + q) ≡ finish (p + q) (fold (λ e t. term (p + q) e (p + t) (value (p + t))) q (state p (p + q)))
    value-from p q =
        sym
        (ap (finish (p + q)) (state-more p q (p + q) (λ t. value (p + t)) (omega arith) (λ t b. refl))
        ∙ state-finish (p + q) (p + q + 1) (omega arith)
        ∙ state-done (p + q + 1) (p + q) (omega arith))

    -- values that follow from those before them are the solution
    pub value-only : (x : ℕ → A) (n : ℕ) → ((q : ℕ) → q < n → x q ≡ finish q (fold (λ e p. term q e p (x p)) q (start q))) → (q : ℕ) → q < n → x q ≡ value q
    unfolding sum_after
    value-only x zero h q hq = let z : ⊥ = omega arith in absurd z
    value-only x (suc n) h q hq =
        h q hq
        ∙ ap (finish q) (fold_same _ _ q (start q) (λ p b e. ap (term q e p) (value-only x n (λ r hr. h r (omega arith)) p (omega arith))))
        ∙ sym (value-is q)

    state-same : (k k' q : ℕ) → Same k k' q → state k q ≡ state k' q
    state-same k k' q h = ⊎_elim (λ e. ap (λ (n : ℕ). state n q) e) (λ b. state-done k q b.0 ∙ sym (state-done k' q b.1)) h

  -- ---- all lines, which were b₀

  module _ (left down : Bool) (ld m lines : ℕ) (start : ℕ → ℕ → A) (b₀ : List A) where
    abbrev Solving : (ℕ → ℕ) → List A → Type 0
    Solving k b = b ≡ update (solving left down ld m lines d term finish start k) b₀

    module _ (pos : 0 < ld) where
      solving-same : (k k' : ℕ → ℕ) (b : List A) → ((q : ℕ) → q < m → Same (k q) (k' q) q) → Solving k b → Solving k' b
      unfolding solving
      solving-same k k' b h e = e ∙ ordered_same left down ld m lines _ _ b₀ pos (λ q l hq hl x. state-same (start l) (k q) (k' q) q (h q hq))

      -- a block within those that have q terms
      pub narrower : (to q e : ℕ) (k : ℕ → ℕ) (b : List A) → e ≤ to → Solving (front to q k) b → Solving (front e q (front to q k)) b
      narrower to q e k b h =
          solving-same (front to q k) (front e q (front to q k)) b
          (λ x hx. inl (⊎_elim
          (λ (a : x < e). front-in to q k x (omega arith) ∙ sym (front-in e q (front to q k) x a))
          (λ a. sym (front_out e q (front to q k) x a))
          (lt-or-ge x e)))

      -- all that had p terms have q of them
      pub wider : (to q p : ℕ) (k : ℕ → ℕ) (b : List A) → Solving (front to q (front to p k)) b → Solving (front to q k) b
      wider to q p k b =
          solving-same (front to q (front to p k)) (front to q k) b
          (λ x hx. inl (⊎_elim
          (λ (a : x < to). front-in to q (front to p k) x a ∙ sym (front-in to q k x a))
          (λ a. front_out to q (front to p k) x a ∙ front_out to p k x a ∙ sym (front_out to q k x a))
          (lt-or-ge x to)))

      -- the terms of the unknowns from the p-th on, n of them, in the sums of those from the i-th on, h of them
      pub rest_more : (p n i h to : ℕ) (k : ℕ → ℕ) (v : ℕ → ℕ → A) (b c : List A) → p + n ≤ i → i + h ≤ to
          → ((t l : ℕ) → t < n → l < lines → v t l ≡ solution d term finish (start l) (p + t))
          → Solving (front i (p + n) (front to p k)) b
          → c ≡ update (ordered left down ld m lines (λ q l x. if within i h q then fold (λ e t. term q e (p + t) (v t l)) n x else x)) b
          → Solving (front (i + h) (p + n) (front to p k)) c
      unfolding solving
      rest_more p n i h to k v b c hp ht hv eb ec =
          ordered-then left down ld m lines _ _ _ b₀ b c pos eb ec
          (λ q l hq hl x.
          by-within i h q _ _ _
          (λ lo up.
          ap (λ (j : ℕ). fold (λ e t. term q e (p + t) (v t l)) n (state_of d term finish (start l) j q)) (front_out i (p + n) (front to p k) q lo ∙ front-in to p k q (omega arith))
          ∙ state-more (start l) p n q (λ t. v t l) (omega arith) (λ t b. hv t l b hl)
          ∙ ap (λ (j : ℕ). state_of d term finish (start l) j q) (sym (front-in (i + h) (p + n) (front to p k) q up)))
          (λ lo. ap (λ (j : ℕ). state_of d term finish (start l) j q) (front-in i (p + n) (front to p k) q lo ∙ sym (front-in (i + h) (p + n) (front to p k) q (omega arith))))
          (λ up.
          ap (λ (j : ℕ). state_of d term finish (start l) j q) (front_out i (p + n) (front to p k) q (omega arith) ∙ sym (front_out (i + h) (p + n) (front to p k) q up))))

      -- the unknowns from the p-th on, n of them, which now have their values; those before them had theirs
      pub block-ended : (p n : ℕ) (k : ℕ → ℕ) (v : ℕ → ℕ → A → A) (b c : List A)
          → ((q l : ℕ) → p ≤ q → q < p + n → l < lines → v q l (state_of d term finish (start l) (k q) q) ≡ solution d term finish (start l) q)
          → Solving (front p p k) b
          → c ≡ update (ordered left down ld m lines (λ q l x. if within p n q then v q l x else x)) b
          → Solving (front (p + n) (p + n) k) c
      unfolding solving
      block-ended p n k v b c hv eb ec =
          ordered-then left down ld m lines _ _ _ b₀ b c pos eb ec
          (λ q l hq hl x.
          by-within p n q _ _ _
          (λ lo up.
          ap (λ (j : ℕ). v q l (state_of d term finish (start l) j q)) (front_out p p k q lo)
          ∙ hv q l lo up hl
          ∙ sym (state-done (start l) (front (p + n) (p + n) k q) q (omega (arith, front-in (p + n) (p + n) k q up))))
          (λ lo.
          state-same (start l) (front p p k q) (front (p + n) (p + n) k q) q
          (inr (omega (arith, front-in p p k q lo), omega (arith, front-in (p + n) (p + n) k q (omega arith)))))
          (λ up. ap (λ (j : ℕ). state_of d term finish (start l) j q) (front_out p p k q (omega arith) ∙ sym (front_out (p + n) (p + n) k q up))))

      pub all-started : (f : ℕ → ℕ → A → A) (k : ℕ → ℕ) (c : List A) → c ≡ update (ordered left down ld m lines f) b₀
          → ((q l : ℕ) → q < m → l < lines → f q l (get_or b₀ (cell left ld (turn down m q) l) d) ≡ start l q) → Solving (front m 0 k) c
      unfolding solving
      all-started f k c ec h =
          ec
          ∙ ordered-same-at left down ld m lines d _ _ b₀
          (λ q l hq hl. h q l hq hl ∙ sym (state-start (start l) q) ∙ ap (λ (j : ℕ). state_of d term finish (start l) j q) (sym (front-in m 0 k q hq)))

      pub all-solved : (k : ℕ → ℕ) (b : List A) → Solving (front m m k) b
          → b ≡ update (ordered left down ld m lines (λ q l _. solution d term finish (start l) q)) b₀
      unfolding solving
      all-solved k b eb =
          eb ∙ ordered_same left down ld m lines _ _ b₀ pos (λ q l hq hl x. state-done (start l) (front m m k q) q (omega (arith, front-in m m k q hq)))

    -- a value that is solved
    pub held : (e hi : ℕ) (k : ℕ → ℕ) (b : List A) (q l : ℕ) → Room left ld m lines (length b₀) → q < m → l < lines → q < e → q < hi
        → Solving (front e hi k) b → get_or b (cell left ld (turn down m q) l) d ≡ solution d term finish (start l) q
    unfolding solving
    held e hi k b q l room hq hl he hh eb =
        ordered_at left down ld m lines d _ b₀ b q l room hq hl eb ∙ state-done (start l) (front e hi k q) q (omega (arith, front-in e hi k q he))
