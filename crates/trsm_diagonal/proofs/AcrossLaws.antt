-- Laws of a diagonal block whose lines stand across: unknown after unknown gets its value, or group after group of them.
-- Assumes nothing.
use mathlib.Core.Bool.{Bool, false}
use mathlib.Core.Path.{◌≡◌, refl, sym, ap, ap₂, subst, ◌∙◌}
use mathlib.Core.List.{List}
use Prim.Native.Nat.{ℕ, ◌+◌, ◌-◌, ◌*◌, ◌<◌, ◌≤◌}
use native.Mathlib.Nat.{zero-add}
use native.Mathlib.Omega.{arith}
use lib.ListN.{length, take, drop}
use lib.Ieee.{Float, nan}
use borrow.Rule.Slice.PartMut.{put_mid}
use Rattle.std.specs.Prelude.{if◌then◌else◌}
use Rattle.arrays.specs.Update.{update, below, region}
use Rattle.arrays.specs.Fold.{fold}
use Rattle.arrays.proofs.UpdateLaws.{length-update, below-same}
use Rattle.arrays.proofs.FoldLaws.{fold_same}
use Rattle.arrays.proofs.PartLaws.{column-room, tail_at}
use Rattle.arrays.proofs.RegionLaws.{one-column, region-column, region-columns}
use Rattle.floats.specs.Array.{at}
use Rattle.floats.specs.Operations.{◌⊕◌, ◌⊗◌}
use Rattle.definitions.specs.Element.{divided}
use Rattle.definitions.specs.declared.Diagonal.{Diagonal}
use Rattle.packing.specs.Factor.{Matrix, turn}
use Rattle.blocks.specs.Terms.{accumulate, packed}
use Rattle.packing.proofs.FactorLaws.{turn_below, turn-turn}
use Rattle.lines.specs.Lines.{cell, grid, within, Room}
use Rattle.lines.proofs.GridLaws.{by-within, grid-same, grid-keep, grid-at, grid-lent}
use Rattle.trsm_diagonal.specs.Solve.{first, ordered, sum_after, solution, state_of, solving, front, solve_end, value_factor, packed_term, packed_value}
use Rattle.trsm_diagonal.proofs.OrderLaws.{turn-from, first_one, within-turn, ordered-then}
use Rattle.trsm_diagonal.proofs.StateLaws as StateLaws
use Rattle.trsm_diagonal.proofs.StateLaws.{front-in, front_out, value-is, state-start, state-done, narrower, rest_more, all-started, held}
use Rattle.trsm_diagonal.proofs.BlockLaws.{lent-value, lent-block}

module _ (left down : Bool) (ld n lines : ℕ) (diag : Diagonal) (T : Matrix) (v s₀ u₀ : List Float) where
  abbrev term : ℕ → Float → ℕ → Float → Float
  term = packed_term left down n v

  abbrev finish : ℕ → Float → Float
  finish = solve_end diag down n T

  abbrev start : ℕ → ℕ → Float
  start l q = at s₀ (cell false ld (turn down n q) l)

  abbrev value : ℕ → ℕ → Float
  value l q = packed_value left down n diag T v (λ i. at s₀ (cell false ld i l)) q

  -- no unknown has a term
  abbrev none : ℕ → ℕ
  none = front n 0 (λ q. q)

  -- the first e unknowns have the terms of the first k, and the others are as they were
  abbrev Has : ℕ → ℕ → List Float → Type 0
  Has e k s = s ≡ update (solving false down ld n lines nan term finish start (front e k none)) s₀

  -- the first j unknowns have their values
  abbrev pub Solved : ℕ → List Float → Type 0
  Solved j s = Has j j s

  -- u has what their terms take
  abbrev pub Kept : ℕ → List Float → Type 0
  Kept j u = u ≡ update (grid false 64 j lines (λ q l _. value_factor left (value l q))) u₀

  module _ (some : 0 < lines) (room : Room false ld n lines (length s₀)) (few : Room false 64 n lines (length u₀)) where
    pos : 0 < ld
    pos = omega arith

    pub none-solved : Solved 0 s₀
    unfolding ordered
    none-solved =
        narrower nan term finish false down ld n lines start s₀ pos n 0 0 (λ q. q) s₀ (omega arith)
        (all-started nan term finish false down ld n lines start s₀ pos (λ q l x. x) (λ q. q) s₀
        (grid-keep false ld n lines _ s₀ (λ i l hi hl x. refl)) (λ q l hq hl. refl))

    pub none_kept : Kept 0 u₀
    none_kept = grid-keep false 64 0 lines _ u₀ (λ q l hq hl x. let z : ⊥ = omega arith in absurd z)

    kept_at : (j q l : ℕ) (u : List Float) → j ≤ n → Kept j u → q < j → l < lines → at u (q * 64 + l) ≡ value_factor left (value l q)
    unfolding cell
    kept_at j q l u h kept hq hl = grid-at nan false 64 j lines _ u₀ u q l (few.0, omega arith) hq hl kept

    pub all-solved : (s : List Float) → Solved n s → s ≡ update (ordered false down ld n lines (λ q l _. value l q)) s₀
    unfolding packed_value
    all-solved s e = StateLaws.all-solved nan term finish false down ld n lines start s₀ pos none s e

    -- there is room as there was
    has_room : (e k : ℕ) (s : List Float) → Has e k s → Room false ld n lines (length s)
    has_room e k s has = subst (λ (z : ℕ). Room false ld n lines z) (sym (ap length has ∙ length-update _ s₀)) room

    -- ---- the unknowns from the j-th on: y is the least of their elements

    module _ (j y : ℕ) (u s : List Float) (solved : Solved j s) (kept : Kept j u) where
      -- the terms of the first j for unknown q, whose element is y + r
      terms : (q r l : ℕ) (x : Float) → j ≤ n → y + r ≡ turn down n q → l < lines
          → packed j u (take (length v - y * 64) (drop (y * 64) v)) l r x ≡ fold (λ e p. term q e p (value l p)) j x
      unfolding packed accumulate packed_term
      terms q r l x low er hl =
          fold_same _ _ j x
          (λ p hp e.
          ap₂ (λ (y x : Float). e ⊕ y ⊗ x)
          (tail_at (y * 64) v (r * 64 + p) nan ∙ ap (at v) (omega (arith, er)))
          (kept_at j p l u low kept hp hl))

      -- ---- one of them

      module _ (low : j < n) (ey : y ≡ turn down n j) where
        -- what is made of its sum
        abbrev made : ℕ → Float → Float
        made l e = divided diag (packed j u (take (length v - y * 64) (drop (y * 64) v)) l 0 e) (T y y)

        abbrev next : ℕ → ℕ → Float → Float
        next q l x = if within j 1 q then made l x else x

        made-is : (l : ℕ) → l < lines → made l (start l j) ≡ value l j
        unfolding packed_value solve_end sum_after
        made-is l hl =
            ap₂ (λ (e : Float) (k : ℕ). divided diag e (T k k)) (terms j 0 l (start l j) (omega arith) (omega (arith, ey)) hl) ey
            ∙ sym (value-is nan term finish (start l) j)

        abbrev state : ℕ → ℕ → ℕ → Float
        state l k q = state_of nan term finish (start l) k q

        done : (e q l : ℕ) → q < e → state l (front e e none q) q ≡ solution nan term finish (start l) q
        done e q l h = state-done nan term finish (start l) (front e e none q) q (omega (arith, front-in e e none q h))

        pub one-solved : (ys : List Float) → ys ≡ update (below lines made) (take (length s - y * ld) (drop (y * ld) s))
            → Solved (j + 1) (put_mid (y * ld) (length s - y * ld) s ys)
        unfolding grid cell ordered solving packed_value
        one-solved ys es =
            ordered-then false down ld n lines (λ q l _. state l (front j j none q) q) next (λ q l _. state l (front (j + 1) (j + 1) none q) q) s₀ s _ pos solved lent
            (λ q l hq hl x.
            by-within j 1 q _ _ _
            (λ lo up.
            let e : j ≡ q = omega arith in
            subst (λ (q : ℕ). made l (state l (front j j none q) q) ≡ state l (front (j + 1) (j + 1) none q) q) e
            (ap (λ (k : ℕ). made l (state l k j)) (front_out j j none j (omega arith) ∙ front-in n 0 (λ q. q) j low)
            ∙ ap (made l) (state-start nan term finish (start l) j)
            ∙ made-is l hl
            ∙ sym (done (j + 1) j l (omega arith))))
            (λ lo. done j q l lo ∙ sym (done (j + 1) q l (omega arith)))
            (λ up. ap (λ (k : ℕ). state l k q) (front_out j j none q (omega arith) ∙ sym (front_out (j + 1) (j + 1) none q up))))
          where
            element : y < n
            element = omega (arith, turn_below down n j low)

            lent : put_mid (y * ld) (length s - y * ld) s ys ≡ update (ordered false down ld n lines next) s
            lent =
                grid-lent nan false ld n lines y 1 (y * ld) (λ q l x. made l x) (λ q l x. made l x) s ys pos (has_room j j s solved) (omega (arith, element)) (omega arith)
                (omega (arith, column-room ld element, has_room j j s solved))
                (es ∙ one-column nan ld pos lines made (take (length s - y * ld) (drop (y * ld) s)) room.0)
                (λ q l hq hl x. refl)
                ∙ grid-same false ld n lines _ _ s pos
                (λ q l hq hl x.
                ap (λ (t : Bool). if t then made l x else x)
                (ap (λ (k : ℕ). within k 1 q) (ey ∙ sym (first_one down n j)) ∙ within-turn down n j 1 q (omega arith) hq))

        -- it is copied to u
        pub one_kept : (ys us : List Float) → Solved (j + 1) ys
            → us ≡ update (below lines (λ l _. value_factor left (at (take (length ys - y * ld) (drop (y * ld) ys)) l))) (take (length u - j * 64) (drop (j * 64) u))
            → Kept (j + 1) (put_mid (j * 64) (length u - j * 64) u us)
        unfolding grid cell packed_value
        one_kept ys us es eu =
            region-column nan 64 (omega arith) lines j (λ l q _. value_factor left (value l q)) u₀ u us few.0 (omega arith) kept
            (eu ∙ below-same _ _ _ lines
            (λ l hl x.
            ap (value_factor left)
            (tail_at (y * ld) ys l nan
            ∙ ap (λ (k : ℕ). at ys (k * ld + l)) ey
            ∙ held nan term finish false down ld n lines start s₀ (j + 1) (j + 1) none ys j l room low hl (omega arith) (omega arith) es)))

      -- ---- a group of them: the terms of the first j are added to their sums, and then it is solved as a block of its own

      module _ (h : ℕ) (bs : List Float) (big : 0 < h) (low : j + h ≤ n) (ey : y ≡ first down n j h) (inside : y + h ≤ n)
          (eb : bs ≡ update (region ld lines h (packed j u (take (length v - y * 64) (drop (y * 64) v)))) (take (length s - y * ld) (drop (y * ld) s))) where
        abbrev summed : List Float
        summed = put_mid (y * ld) (length s - y * ld) s bs

        -- where its elements start
        begins : (e k : ℕ) (s : List Float) → Has e k s → y * ld ≤ length s
        begins e k s has = let element : y < n = omega arith in omega (arith, column-room ld element, has_room e k s has)

        -- as `rest_more` has them
        abbrev sums : ℕ → ℕ → Float → Float
        sums q l x = fold (λ e p. term q e (0 + p) (value l (0 + p))) j x

        group-begun : Has (j + h) j summed
        unfolding grid cell ordered packed_value
        group-begun =
            subst (λ (k : ℕ). Has (j + h) k summed) (zero-add j)
            (rest_more nan term finish false down ld n lines start s₀ pos 0 j j h n (λ q. q) (λ p l. value l (0 + p)) s summed (omega arith) (omega arith)
            (λ p l hp hl. refl)
            (subst (λ (k : ℕ). Has j k s) (sym (zero-add j)) solved)
            (grid-lent nan false ld n lines y h (y * ld) (λ i l x. sums (turn down n i) l x) (λ r l x. packed j u (take (length v - y * 64) (drop (y * 64) v)) l r x) s bs pos
            (has_room j j s solved) inside (omega arith) (begins j j s solved) eb
            (λ r l hr hl x.
            terms (turn down n (y + r)) r l x (omega arith) (sym (turn-turn down n (y + r) (omega arith))) hl
            ∙ fold_same _ _ j x (λ p hp e. ap (λ (k : ℕ). term (turn down n (y + r)) e k (value l k)) (sym (zero-add p))))
            ∙ grid-same false ld n lines _ _ s pos
            (λ i l hi hl x.
            ap (λ (t : Bool). if t then sums (turn down n i) l x else x) (ap (λ (k : ℕ). within k h i) ey ∙ within-turn down n j h i low hi))))

        module _ (D : Matrix) (diagonal : (i : ℕ) → i < h → D i i ≡ T (y + i) (y + i)) where
          abbrev factors : List Float
          factors = take (length v - (y * 64 + j)) (drop (y * 64 + j) v)

          abbrev group_value : ℕ → ℕ → Float
          group_value q l = packed_value left down h diag D factors (λ i. at (take (length summed - y * ld) (drop (y * ld) summed)) (cell false ld i l)) q

          abbrev term' : ℕ → Float → ℕ → Float → Float
          term' = packed_term left down h factors

          abbrev finish' : ℕ → Float → Float
          finish' = solve_end diag down h D

          group-term : (q p : ℕ) → p < q → q < h → (e x : Float) → term (j + q) e (j + p) x ≡ term' q e p x
          unfolding packed_term
          group-term q p hp hq e x =
              ap (λ (a : Float). e ⊕ a ⊗ value_factor left x)
              (sym (tail_at (y * 64 + j) v (turn down h q * 64 + p) nan ∙ ap (at v) (omega (arith, turn-from down n j h y q low ey hq))))

          group-end : (q : ℕ) → q < h → (e : Float) → finish (j + q) e ≡ finish' q e
          unfolding solve_end
          group-end q hq e =
              ap (divided diag e) (ap (λ (i : ℕ). T i i) (turn-from down n j h y q low ey hq) ∙ sym (diagonal (turn down h q) (turn_below down h q hq)))

          pub group-done : (ys us : List Float)
              → ys ≡ update (ordered false down ld h lines (λ q l _. group_value q l)) (take (length summed - y * ld) (drop (y * ld) summed))
              → us ≡ update (grid false 64 h lines (λ q l _. value_factor left (group_value q l))) (take (length u - j * 64) (drop (j * 64) u))
              → Solved (j + h) (put_mid (y * ld) (length summed - y * ld) summed ys) × Kept (j + h) (put_mid (j * 64) (length u - j * 64) u us)
          unfolding grid packed_value
          group-done ys us es eu = (
            lent-block term term' finish finish' false down ld n lines j h y summed pos low ey (has_room (j + h) j summed group-begun) group-term group-end
                start none s₀ group-begun (y * ld) refl refl ys (begins (j + h) j summed group-begun) inside es,
            region-columns nan 64 (omega arith) lines j h (λ l q _. value_factor left (value l q)) u₀ u us few.0 (omega arith) kept
                (eu ∙ grid-same false 64 h lines _ _ (take (length u - j * 64) (drop (j * 64) u)) (omega arith)
                (λ q l hq hl x.
                ap (value_factor left)
                (lent-value term term' finish finish' false down ld n lines j h y summed pos low ey (has_room (j + h) j summed group-begun) group-term group-end
                start none s₀ group-begun (y * ld) refl refl q l hq hl))),
          )
