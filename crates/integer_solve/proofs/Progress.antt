-- The elimination of one unknown after the other: what holds of the remainders once q unknowns are solved, from the start over each step to the end, and
-- where an unknown has no value. Both triangles go by the order of solving: unknown j comes after `turn down n j` others.
-- Assumes nothing.
use mathlib.Core.Path.{◌≡◌, refl, sym, ap, subst, ◌∙◌}
use mathlib.Core.Bool.{Bool, true, false}
use mathlib.Core.Logic.{⊎_elim}
use mathlib.Core.List.{List}
use Prim.Native.Nat.{ℕ, zero, suc, ◌+◌, ◌*◌, ◌<◌, ◌≤◌}
use native.Mathlib.Nat.{eq-or-lt_of_le, le_of_suc-le-suc, lt_of_lt_of_le}
use native.Mathlib.Omega.{arith}
use lib.Dec.{ltb}
use lib.IntN.{ℤ, pos, nat_abs, ◌+ℤ◌, ◌-ℤ◌, ◌*ℤ◌, +ℤ_idl, +ℤ_idr, +ℤ_invr, +ℤ_comm, zero-*ℤ}
use lib.ListN.{length, get_or}
use borrow.Author.Tests.{lt-ltb, le-ltb, ltb-false, le-leb, lt-leb, eqb-false}
use Rattle.std.specs.Prelude.{if◌then◌else◌}
use Rattle.arrays.specs.Fold.{fold}
use Rattle.arrays.specs.Update.{update, below}
use Rattle.arrays.proofs.Tests.{if-true, if-false}
use Rattle.arrays.proofs.FoldLaws.{fold_same, fold-keep}
use Rattle.arrays.proofs.UpdateLaws.{lt-or-ge, length-update, at-update, below_in}
use Rattle.arrays.proofs.SearchLaws.{lowest-is}
use Rattle.definitions.specs.Storage.{stored, inside}
use Rattle.definitions.specs.declared.Triangle.{Triangle}
use Rattle.packing.specs.Factor.{turn}
use Rattle.packing.proofs.FactorLaws.{turn_below, turn-turn}
use Rattle.integer_solve.specs.Equations.{entry, left_side, Word, Solves, zero_diagonal}
use Rattle.integer_solve.specs.Elimination.{triangle, taken, Eliminated}
use Rattle.integer_solve.proofs.Integers.{swap, cancel, less-more, product-cancel}
use Rattle.integer_solve.proofs.Taking.{entry_in, entry-out, taken_here, taken-beside}

-- ---- sums

abbrev sum : (ℕ → ℤ) → ℕ → ℤ
sum f n = fold (λ e j. e +ℤ f j) n (pos 0)

sum_same : (f g : ℕ → ℤ) (n : ℕ) → ((j : ℕ) → j < n → f j ≡ g j) → sum f n ≡ sum g n
sum_same f g n e = fold_same _ _ n (pos 0) (λ j c x. ap (λ (y : ℤ). x +ℤ y) (e j c))

-- two sums whose terms agree but for the i-th, which is zero in the second
sum_more : (f g : ℕ → ℤ) (n i : ℕ) → i < n → g i ≡ pos 0 → ((j : ℕ) → j < n → (j ≡ i → ⊥) → f j ≡ g j) → sum f n ≡ sum g n +ℤ f i
unfolding fold
sum_more f g zero i h z e = absurd (omega arith)
sum_more f g (suc n) i h z e =
    ⊎_elim
    (λ k. let same = sum_same f g n (λ j c. e j (omega arith) (λ o. omega arith)) in cc (same, +ℤ_idr (sum g n)))
    (λ k.
    let before = sum_more f g n i k z (λ j c. e j (omega arith)) in
    let last = e n (omega arith) (λ o. omega arith) in
    cc (before, last, swap (sum g n) (f i) (g n)))
    (eq-or-lt_of_le (le_of_suc-le-suc h))

-- ---- the two triangles

-- equation i has no term of an unknown that is solved after unknown i
outside : (down : Bool) (n i j : ℕ) → turn down n i < turn down n j → inside (triangle down) i j ≡ false
unfolding inside triangle turn
outside false n i j h = lt-leb j i h
outside true n i j h = lt-leb i j (omega arith)

no-term : (down : Bool) (n : ℕ) (a : List ℤ) (i j : ℕ) (x : ℤ) → turn down n i < turn down n j → entry (triangle down) n a i j *ℤ x ≡ pos 0
no-term down n a i j x h = rw (entry-out (triangle down) n a i j (outside down n i j h)) (zero-*ℤ x)

on-diagonal : (down : Bool) (i : ℕ) → inside (triangle down) i i ≡ true
unfolding inside triangle
on-diagonal false i = le-leb i i (omega arith)
on-diagonal true i = le-leb i i (omega arith)

entry-diagonal : (down : Bool) (n : ℕ) (a : List ℤ) (i : ℕ) → entry (triangle down) n a i i ≡ get_or a (i * n + i) (pos 0)
entry-diagonal down n a i = entry_in (triangle down) n a i i (on-diagonal down i)

pub diagonal-some : (n : ℕ) (a : List ℤ) → zero_diagonal n a ≡ false → (i : ℕ) → i < n → get_or a (i * n + i) (pos 0) ≡ pos 0 → ⊥
unfolding zero_diagonal stored
diagonal-some n a h i c e = eqb-false _ 0 ((lowest-is _ n).before i (lt_of_lt_of_le c (ltb-false _ n h))) (ap nat_abs e)

-- ---- the equations, with the first q unknowns solved

module _ (down : Bool) (n : ℕ) where
  -- a choice by whether unknown i is solved
  module _ (q i : ℕ) (y z : ℤ) where
    if-solved : turn down n i < q → (if ltb (turn down n i) q then y else z) ≡ y
    if-solved h = if-true _ y z (lt-ltb _ _ h)

    if-open : q ≤ turn down n i → (if ltb (turn down n i) q then y else z) ≡ z
    if-open h = if-false _ y z (le-ltb _ _ h)

  -- the terms of equation i that belong to solved unknowns
  unfoldable pub share : List ℤ → List ℤ → ℕ → ℕ → ℤ
  share a s q i = sum (λ j. if ltb (turn down n j) q then entry (triangle down) n a i j *ℤ get_or s j (pos 0) else pos 0) n

  -- what the others come to: s holds it until unknown i is solved
  abbrev rest : List ℤ → ℕ → ℕ → ℤ
  rest s q i = if ltb (turn down n i) q then pos 0 else get_or s i (pos 0)

  rest-solved : (s : List ℤ) (q i : ℕ) → turn down n i < q → rest s q i ≡ pos 0
  rest-solved s q i k = if-solved q i (pos 0) (get_or s i (pos 0)) k

  rest-open : (s : List ℤ) (q i : ℕ) → q ≤ turn down n i → rest s q i ≡ get_or s i (pos 0)
  rest-open s q i k = if-open q i (pos 0) (get_or s i (pos 0)) k

  -- unknown j is the q-th
  module _ {q j : ℕ} (h : q < n) (e : j ≡ turn down n q) where
    its-turn : turn down n j ≡ q
    its-turn = ap (turn down n) e ∙ turn-turn down n q h

    below-n : j < n
    below-n = omega (arith, turn_below down n q h)

    -- an unknown is solved before it, is this one, or is solved after it
    by_order : (P : ℕ → Type 0) (i : ℕ) → i < n → (turn down n i < q → P i) → P j → (q < turn down n i → P i) → P i
    by_order P i c f p g =
        ⊎_elim f
        (λ k. ⊎_elim (λ z. subst P (e ∙ ap (turn down n) z ∙ turn-turn down n i c) p) g (eq-or-lt_of_le k))
        (lt-or-ge (turn down n i) q)

    -- one more solved unknown
    pub solved-more : (P : ℕ → Type 0) → ((i : ℕ) → i < n → turn down n i < q → P i) → P j → (i : ℕ) → i < n → turn down n i < q + 1 → P i
    solved-more P f p i c k = by_order P i c (f i c) p (λ l. absurd (omega arith))

    -- a sum of the terms of the solved unknowns and of unknown j
    share-more : (a s : List ℤ) (i : ℕ) (f : ℕ → ℤ) → ((p : ℕ) → p < n → turn down n p < q → f p ≡ entry (triangle down) n a i p *ℤ get_or s p (pos 0))
        → ((p : ℕ) → p < n → q < turn down n p → f p ≡ pos 0) → sum f n ≡ share a s q i +ℤ f j
    unfolding share
    share-more a s i f solved later =
        sum_more f _ n j below-n (if-open q j _ _ (omega (arith, its-turn)))
        (λ p c.
        by_order (λ (p : ℕ). (p ≡ j → ⊥) → f p ≡ (if ltb (turn down n p) q then entry (triangle down) n a i p *ℤ get_or s p (pos 0) else pos 0)) p c
        (λ k _. solved p c k ∙ sym (if-solved q p _ _ k))
        (λ other. absurd (other refl))
        (λ k _. later p c k ∙ sym (if-open q p _ _ (omega arith))))

    -- equation j, for a solution that agrees with s on the solved unknowns
    module _ (s : List ℤ) {a b x : List ℤ} (v : Solves (triangle down) n a b x)
        (same : (i : ℕ) → i < n → turn down n i < q → get_or x i (pos 0) ≡ get_or s i (pos 0)) where
      pub equation-at : get_or a (j * n + j) (pos 0) *ℤ get_or x j (pos 0) +ℤ share a s q j ≡ get_or b j (pos 0)
      unfolding left_side
      equation-at =
          let f : ℕ → ℤ = λ p. entry (triangle down) n a j p *ℤ get_or x p (pos 0) in
          let all =
          share-more a s j f (λ p c k. ap (λ (y : ℤ). entry (triangle down) n a j p *ℤ y) (same p c k))
          (λ p c k. no-term down n a j p _ (omega (arith, its-turn))) in
          cc (all, entry-diagonal down n a j, v.equations j below-n, +ℤ_comm (f j) (share a s q j))

      -- it leaves one value
      pub one_value : (get_or a (j * n + j) (pos 0) ≡ pos 0 → ⊥) → (z : ℤ)
          → get_or a (j * n + j) (pos 0) *ℤ z +ℤ share a s q j ≡ get_or b j (pos 0) → get_or x j (pos 0) ≡ z
      one_value some z k = product-cancel _ _ z some (cancel _ _ (share a s q j) (equation-at ∙ sym k))

-- ---- the elimination

-- The remainders s once the first q unknowns are solved.
pub record Progress (down : Bool) (n : ℕ) (a b : List ℤ) (q : ℕ) (s : List ℤ) : Type 0 where
  pub words : (j : ℕ) → j < n → turn down n j < q → Word (get_or s j (pos 0))
  pub balance : (i : ℕ) → i < n → rest down n s q i +ℤ share down n a s q i ≡ get_or b i (pos 0)
  pub forced : (x : List ℤ) → Solves (triangle down) n a b x → (j : ℕ) → j < n → turn down n j < q → get_or x j (pos 0) ≡ get_or s j (pos 0)

share-none : (down : Bool) (n : ℕ) (a s : List ℤ) (i : ℕ) → share down n a s 0 i ≡ pos 0
unfolding share
share-none down n a s i = fold-keep _ n (pos 0) (λ j c x. ap (λ (y : ℤ). x +ℤ y) (if-open down n 0 j _ _ (omega arith)) ∙ +ℤ_idr x)

pub progress_start : (down : Bool) (n : ℕ) (a b s s₀ : List ℤ) → n ≤ length s₀ → s ≡ update (below n (λ i _. get_or b i (pos 0))) s₀
    → Progress down n a b 0 s
progress_start down n a b s s₀ l e = record {
  words = λ j c k. absurd (omega arith);
  balance = λ i c.
      let at = ap (λ (t : List ℤ). get_or t i (pos 0)) e ∙ at-update _ s₀ i (pos 0) (omega arith) ∙ below_in n _ i (get_or s₀ i (pos 0)) c in
      cc (at, rest-open down n s 0 i (omega arith), share-none down n a s i, +ℤ_idr (get_or b i (pos 0)));
  forced = λ x v j c k. absurd (omega arith);
}

module _ {down : Bool} {n q j : ℕ} {a b s : List ℤ} (P : Progress down n a b q s) (h : q < n) (e : j ≡ turn down n q) where
  remainder : get_or s j (pos 0) +ℤ share down n a s q j ≡ get_or b j (pos 0)
  remainder = cc (rest-open down n s q j (omega (arith, its-turn down n h e)), P.balance j (below-n down n h e))

  -- unknown j has no value
  pub progress-none : ((x : ℤ) → Word x → get_or a (j * n + j) (pos 0) *ℤ x ≡ get_or s j (pos 0) → ⊥) → (x : List ℤ) → Solves (triangle down) n a b x → ⊥
  progress-none none x v =
      none (get_or x j (pos 0)) (v.words j (below-n down n h e))
      (cancel _ _ (share down n a s q j) (equation-at down n h e s v (P.forced x v) ∙ sym remainder))

  -- it has the value x
  module _ {x : ℤ} {s' : List ℤ} (l : n ≤ length s) (some : get_or a (j * n + j) (pos 0) ≡ pos 0 → ⊥) (w : Word x)
      (quotient : get_or a (j * n + j) (pos 0) *ℤ x ≡ get_or s j (pos 0)) (next : s' ≡ update (taken down n a j x) s) where
    at_next : (i : ℕ) → i < n → get_or s' i (pos 0) ≡ taken down n a j x i (get_or s i (pos 0))
    at_next i c = ap (λ (t : List ℤ). get_or t i (pos 0)) next ∙ at-update _ s i (pos 0) (omega arith)

    here : get_or s' j (pos 0) ≡ x
    here = at_next j (below-n down n h e) ∙ taken_here down n a j x j (get_or s j (pos 0)) refl

    elsewhere : (i : ℕ) → i < n → (turn down n i ≡ q → ⊥) → get_or s' i (pos 0) ≡ get_or s i (pos 0) -ℤ entry (triangle down) n a i j *ℤ x
    elsewhere i c other =
        at_next i c ∙ taken-beside down n a j x i (get_or s i (pos 0)) (λ z. other (ap (turn down n) z ∙ its-turn down n h e)) c

    nothing : (i : ℕ) → turn down n i < q → entry (triangle down) n a i j *ℤ x ≡ pos 0
    nothing i k = no-term down n a i j x (omega (arith, its-turn down n h e))

    before : (i : ℕ) → i < n → turn down n i < q → get_or s' i (pos 0) ≡ get_or s i (pos 0)
    before i c k = cc (elsewhere i c (λ z. omega arith), nothing i k, +ℤ_idr (get_or s i (pos 0)))

    share-next : (i : ℕ) → share down n a s' (q + 1) i ≡ share down n a s q i +ℤ entry (triangle down) n a i j *ℤ x
    unfolding share
    share-next i =
        share-more down n h e a s i _
        (λ p c k. if-solved down n (q + 1) p _ _ (omega arith) ∙ ap (λ (y : ℤ). entry (triangle down) n a i p *ℤ y) (before p c k))
        (λ p c k. if-open down n (q + 1) p _ _ (omega arith))
        ∙ ap (λ (y : ℤ). share down n a s q i +ℤ y)
        (if-solved down n (q + 1) j _ _ (omega (arith, its-turn down n h e)) ∙ ap (λ (y : ℤ). entry (triangle down) n a i j *ℤ y) here)

    rest-next : (i : ℕ) → i < n → rest down n s' (q + 1) i ≡ rest down n s q i -ℤ entry (triangle down) n a i j *ℤ x
    rest-next i c =
        by_order down n h e (λ (i : ℕ). rest down n s' (q + 1) i ≡ rest down n s q i -ℤ entry (triangle down) n a i j *ℤ x) i c
        (λ k. cc (rest-solved down n s' (q + 1) i (omega arith), rest-solved down n s q i k, nothing i k))
        (let now = its-turn down n h e in
        cc (rest-solved down n s' (q + 1) j (omega arith), rest-open down n s q j (omega arith), entry-diagonal down n a j, quotient, +ℤ_invr (get_or s j (pos 0))))
        (λ k. cc (rest-open down n s' (q + 1) i (omega arith), rest-open down n s q i (omega arith), elsewhere i c (λ z. omega arith)))

    pub progress-next : Progress down n a b (q + 1) s'
    progress-next = record {
      words = solved-more down n h e (λ (i : ℕ). Word (get_or s' i (pos 0))) (λ i c k. rw (before i c k) (P.words i c k)) (rw here w);
      balance = λ i c.
          cc (rest-next i c, share-next i, less-more (rest down n s q i) (entry (triangle down) n a i j *ℤ x) (share down n a s q i), P.balance i c);
      forced = λ y v.
          solved-more down n h e (λ (i : ℕ). get_or y i (pos 0) ≡ get_or s' i (pos 0)) (λ i c k. P.forced y v i c k ∙ sym (before i c k))
          (one_value down n h e s v (P.forced y v) some x (cc (quotient, remainder)) ∙ sym here);
    }

pub progress-end : {down : Bool} {n : ℕ} {a b s : List ℤ} → Progress down n a b n s → Eliminated (triangle down) n a b s true
unfolding share left_side
progress-end {down} {n} {a} {b} {s} P = (
  (λ i c. P.words i c (turn_below down n i c)),
  λ i c.
      let all : left_side (triangle down) n a s i ≡ share down n a s n i = sum_same _ _ n (λ j d. sym (if-solved down n n j _ _ (turn_below down n j d))) in
      cc (all, rest-solved down n s n i (turn_below down n i c), +ℤ_idl (share down n a s n i), P.balance i c),
)

-- the values, copied to a list of n elements
pub eliminated-solves : (t : Triangle) (n : ℕ) (a b s x y : List ℤ) → Eliminated t n a b s true → length x ≡ n → y ≡ update (λ i _. get_or s i (pos 0)) x → Solves t n a b y
unfolding left_side
eliminated-solves t n a b s x y h l e = record {
  order = ap length e ∙ length-update _ x ∙ l;
  words = λ j c. rw (at j c) (h.0 j c);
  equations = λ i c. sum_same _ _ n (λ j d. ap (λ (z : ℤ). entry t n a i j *ℤ z) (at j d)) ∙ h.1 i c;
}
  where
    at : (j : ℕ) → j < n → get_or y j (pos 0) ≡ get_or s j (pos 0)
    at j c = ap (λ (k : List ℤ). get_or k j (pos 0)) e ∙ at-update _ x j (pos 0) (omega arith)
