-- Laws of a diagonal block that is solved by itself: where its diagonal is, and that its unknowns are those of all.
-- Assumes nothing.
use mathlib.Core.Bool.{Bool, true, false}
use mathlib.Core.Path.{◌≡◌, refl, sym, ap, subst, ◌∙◌}
use mathlib.Core.List.{List}
use Prim.Native.Nat.{ℕ, ◌+◌, ◌-◌, ◌*◌, ◌<◌, ◌≤◌}
use native.Mathlib.Nat.{add-mul}
use native.Mathlib.Omega.{arith}
use lib.ListN.{length, take, drop}
use lib.Ieee.{Float, nan}
use borrow.Rule.Slice.PartMut.{put_mid}
use Rattle.std.specs.Prelude.{if◌then◌else◌}
use Rattle.arrays.specs.Update.{update}
use Rattle.arrays.specs.Fold.{fold}
use Rattle.arrays.proofs.UpdateLaws.{length-update}
use Rattle.arrays.proofs.FoldLaws.{fold_same}
use Rattle.arrays.proofs.PartLaws.{tail_at}
use Rattle.floats.specs.Array.{at}
use Rattle.definitions.specs.declared.Transpose.{Transpose}
use Rattle.definitions.specs.declared.Transpose.TheVariants.{No, Yes}
use Rattle.packing.specs.Factor.{index_of, entry_of, turn}
use Rattle.forms.specs.Forms.{op_form}
use Rattle.packing.proofs.FactorLaws.{turn_below}
use Rattle.lines.specs.Lines.{cell, grid, within, Room}
use Rattle.lines.proofs.GridLaws.{within_in, within-before, within-after, by-within, grid-same, grid-lent}
use Rattle.trsm_diagonal.specs.Solve.{first, ordered, solution, state_of, solving, front}
use Rattle.trsm_diagonal.proofs.OrderLaws.{turn-from, within-turn, ordered_at}
use Rattle.trsm_diagonal.proofs.StateLaws.{value-from, value-only, narrower, wider, block-ended, front-in}

-- ---- the diagonal

-- that of op(A) is A's
pub diagonal-index : (t : Transpose) (ld i : ℕ) → index_of (op_form t) ld i i ≡ i * ld + i
unfolding index_of
diagonal-index No ld i = refl
diagonal-index Yes ld i = refl

pub diagonal-entry : (t : Transpose) (a : List Float) (ld i : ℕ) → at a (i * ld + i) ≡ entry_of (op_form t) a ld i i
unfolding entry_of
diagonal-entry t a ld i = ap (at a) (sym (diagonal-index t ld i))

-- ---- the block by itself: `line` has its lines, by element

-- element r of the block, as an unknown
element-unknown : (down : Bool) (m p n x0 r i : ℕ) → p + n ≤ m → x0 ≡ first down m p n → r < n → i ≡ x0 + r → turn down n r ≡ turn down m i - p
unfolding turn first
element-unknown true m p n x0 r i h e hr ei = let k : x0 + (p + n) ≡ m = omega arith in last k
  where
    last : x0 + (p + n) ≡ m → n - 1 - r ≡ m - 1 - i - p
    last k = omega arith
element-unknown false m p n x0 r i h e hr ei = omega arith

-- the place of its elements on side R
module _ {left : Bool} (ld x0 : ℕ) where
  right-corner : left ≡ false → x0 * ld ≡ cell left ld x0 0
  unfolding cell
  right-corner e = rw e (omega arith)

  right-cell : (i l : ℕ) → left ≡ false → x0 * ld + cell false ld i l ≡ cell left ld (x0 + i) l
  unfolding cell
  right-cell i l e = rw (e, add-mul x0 i ld) (omega arith)

-- its terms and the ends of its sums are those of all unknowns, from the p-th on
module _ (term term' : ℕ → Float → ℕ → Float → Float) (finish finish' : ℕ → Float → Float) (left down : Bool) (ld m lines p n x0 : ℕ) (b : List Float)
    (pos : 0 < ld) (low : p + n ≤ m) (ex : x0 ≡ first down m p n) (room : Room left ld m lines (length b))
    (same-term : (q s : ℕ) → s < q → q < n → (e x : Float) → term (p + q) e (p + s) x ≡ term' q e s x)
    (same_end : (q : ℕ) → q < n → (e : Float) → finish (p + q) e ≡ finish' q e)
    (start : ℕ → ℕ → Float) (k : ℕ → ℕ) (b₀ : List Float)
    (eb : b ≡ update (solving left down ld m lines nan term finish start (front (p + n) p k)) b₀) where
  abbrev solved : ℕ → ℕ → Float
  solved l q = solution nan term finish (start l) (p + q)

  module _ (line : ℕ → ℕ → Float) (begin : (i l : ℕ) → i < n → l < lines → line l i ≡ at b (cell left ld (x0 + i) l)) where
    abbrev value : ℕ → ℕ → Float
    value q l = solution nan term' finish' (λ q. line l (turn down n q)) q

    -- its sums have p terms
    begun : (q l : ℕ) → q < n → l < lines → state_of nan term finish (start l) p (p + q) ≡ line l (turn down n q)
    unfolding solving
    begun q l hq hl =
        ap (λ (j : ℕ). state_of nan term finish (start l) j (p + q)) (sym (front-in (p + n) p k (p + q) (omega arith)))
        ∙ sym (ordered_at left down ld m lines nan _ b₀ b (p + q) l (subst (λ (z : ℕ). Room left ld m lines z) (ap length eb ∙ length-update _ b₀) room) (omega arith) hl eb)
        ∙ ap (λ (i : ℕ). at b (cell left ld i l)) (turn-from down m p n x0 q low ex hq)
        ∙ sym (begin (turn down n q) l (turn_below down n q hq) hl)

    -- its unknowns follow from one another
    value-solved : (q l : ℕ) → q < n → l < lines → value q l ≡ solved l q
    value-solved q l hq hl =
        sym
        (value-only nan term' finish' (λ q. line l (turn down n q)) (solved l) n
        (λ q hq.
        value-from nan term finish (start l) p q
        ∙ same_end q hq _
        ∙ ap (finish' q)
        (ap (fold (λ e s. term (p + q) e (p + s) (solved l s)) q) (begun q l hq hl)
        ∙ fold_same _ _ q _ (λ s hs e. same-term q s hs hq e (solved l s))))
        q hq)

    -- its elements get the values w
    pub block-step : (w : ℕ → ℕ → Float) (c : List Float) → ((i l : ℕ) → i < n → l < lines → w i l ≡ value (turn down n i) l)
        → c ≡ update (grid left ld m lines (λ i l e. if within x0 n i then w (i - x0) l else e)) b
        → c ≡ update (solving left down ld m lines nan term finish start (front (p + n) (p + n) k)) b₀
    unfolding ordered
    block-step w c ew ec =
        wider nan term finish left down ld m lines start b₀ pos (p + n) (p + n) p k c
        (block-ended nan term finish left down ld m lines start b₀ pos p n (front (p + n) p k) (λ q l _. value (q - p) l) b c
        (λ q l lo up hl. value-solved (q - p) l (omega arith) hl ∙ ap (solution nan term finish (start l)) (omega arith))
        (narrower nan term finish left down ld m lines start b₀ pos (p + n) p p k b (omega arith) eb)
        (ec ∙ grid-same left ld m lines _ _ b pos
        (λ i l hi hl e.
        by-within x0 n i _ _ _
        (λ lo up.
        ew (i - x0) l (omega arith) hl
        ∙ ap (λ (q : ℕ). value q l) (element-unknown down m p n x0 (i - x0) i low ex (omega arith) (omega arith))
        ∙ chosen i l e hi (within_in x0 n i lo up))
        (λ lo. chosen i l e hi (within-before x0 n i lo))
        (λ up. chosen i l e hi (within-after x0 n i up)))))
      where
        chosen : {t : Bool} (i l : ℕ) (e : Float) → i < m → within x0 n i ≡ t
            → (if t then value (turn down m i - p) l else e) ≡ (if within p n (turn down m i) then value (turn down m i - p) l else e)
        chosen i l e hi et =
            ap (λ (t : Bool). if t then value (turn down m i - p) l else e)
            (sym et ∙ ap (λ (k : ℕ). within k n i) ex ∙ within-turn down m p n i low hi)

  -- its lines are solved where they are
  module _ (to : ℕ) (el : left ≡ false) (et : to ≡ x0 * ld) where
    abbrev lent : ℕ → ℕ → Float
    lent l i = at (take (length b - to) (drop to b)) (cell false ld i l)

    lent-begin : (i l : ℕ) → i < n → l < lines → lent l i ≡ at b (cell left ld (x0 + i) l)
    lent-begin i l hi hl = tail_at to b (cell false ld i l) nan ∙ ap (at b) (ap (λ (k : ℕ). k + cell false ld i l) et ∙ right-cell ld x0 i l el)

    pub lent-value : (q l : ℕ) → q < n → l < lines → solution nan term' finish' (λ q. lent l (turn down n q)) q ≡ solved l q
    lent-value = value-solved lent lent-begin

    pub lent-block : (ys : List Float) → to ≤ length b → x0 + n ≤ m
        → ys ≡ update (ordered false down ld n lines (λ q l _. solution nan term' finish' (λ q. lent l (turn down n q)) q)) (take (length b - to) (drop to b))
        → put_mid to (length b - to) b ys ≡ update (solving left down ld m lines nan term finish start (front (p + n) (p + n) k)) b₀
    unfolding ordered
    lent-block ys tl inside ey =
        block-step lent lent-begin w _ (λ i l hi hl. refl)
        (grid-lent nan left ld m lines x0 n to (λ i l _. w (i - x0) l) (λ i l _. w i l) b ys pos room inside (et ∙ right-corner ld x0 el) tl
        (ey ∙ ap (λ (side : Bool). update (grid side ld n lines (λ i l _. w i l)) (take (length b - to) (drop to b))) (sym el))
        (λ i l hi hl x. ap (λ (j : ℕ). w j l) (omega arith)))
      where
        w : ℕ → ℕ → Float
        w i l = solution nan term' finish' (λ q. lent l (turn down n q)) (turn down n i)
