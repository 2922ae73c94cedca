-- The factors of the terms of a diagonal block, and the end of a sum.
-- Assumes nothing.
use mathlib.Core.Bool.{Bool, true, false}
use mathlib.Core.Path.{◌≡◌, refl, sym, ap, ap₂, ◌∙◌}
use mathlib.Core.List.{List}
use Prim.Native.Nat.{ℕ, ◌+◌, ◌*◌, ◌<◌, ◌≤◌}
use native.Mathlib.Omega.{arith}
use lib.ListN.{length}
use lib.Ieee.{Float, nan, binary64, neg, of_bits}
use Rattle.arrays.specs.Update.{update, below, region}
use Rattle.arrays.proofs.UpdateLaws.{below_then, below-same}
use Rattle.arrays.proofs.FoldLaws.{fold_same}
use Rattle.floats.specs.Array.{at}
use Rattle.floats.specs.Operations.{◌⊕◌, ◌⊗◌, ◌⊘◌, −1f}
use Rattle.floats.proofs.Laws.{⊗-comm}
use Rattle.definitions.specs.Element.{divided}
use Rattle.definitions.specs.declared.Diagonal.{Diagonal}
use Rattle.definitions.specs.declared.Diagonal.TheVariants.{Unit, Nonunit}
use Rattle.packing.specs.Factor.{Matrix, turn}
use Rattle.packing.proofs.FactorLaws.{turn_below}
use Rattle.lines.specs.Lines.{cell, grid, line_term, coefficient, Beside}
use Rattle.lines.proofs.GridLaws.{grid-at}
use Rattle.trsm_diagonal.specs.Solve.{sum_after, solve_term, solve_end, value_factor, matrix_factor, packed_term, block_value, packed_value, block_from}
use Rattle.trsm_diagonal.proofs.StateLaws.{value-is, value-only}

-- ---- a term by its two factors

pub minus_one : neg (of_bits binary64 0x3ff0_0000_0000_0000) ≡ −1f
unfolding neg of_bits
minus_one = refl

term_is : (left : Bool) (T : Matrix) (i j : ℕ) (e x : Float) → line_term left −1f T i e j x ≡ e ⊕ matrix_factor left (coefficient left T i j) ⊗ value_factor left x
unfolding line_term coefficient matrix_factor value_factor
term_is true T i j e x = ap (λ (y : Float). e ⊕ y) (⊗-comm (−1f ⊗ x) (T i j))
term_is false T i j e x = refl

module _ {left : Bool} (x : Float) where
  value-scaled : (alpha : Float) → left ≡ true → alpha ≡ −1f → alpha ⊗ x ≡ value_factor left x
  unfolding value_factor
  value-scaled alpha e ea = rw e (ap (λ (y : Float). y ⊗ x) ea)

  pub matrix-kept : left ≡ true → x ≡ matrix_factor left x
  unfolding matrix_factor
  matrix-kept e = rw e

  matrix-scaled : (alpha : Float) → left ≡ false → alpha ≡ −1f → alpha ⊗ x ≡ matrix_factor left x
  unfolding matrix_factor
  matrix-scaled alpha e ea = rw e (ap (λ (y : Float). y ⊗ x) ea)

-- ---- the values of an unknown, copied to c

module _ {left : Bool} (n : ℕ) (s c d : List Float) (copied : d ≡ update (below n (λ l _. at s l)) c) where
  pub values-kept : left ≡ false → d ≡ update (below n (λ l _. value_factor left (at s l))) c
  unfolding value_factor
  values-kept el = copied ∙ below-same _ _ c n (λ l hl x. rw el)

  pub values-scaled : left ≡ true → (alpha : Float) (e : List Float) → alpha ≡ −1f → e ≡ update (below n (λ l x. alpha ⊗ x)) d
      → e ≡ update (below n (λ l _. value_factor left (at s l))) c
  values-scaled el alpha e ea ee =
      ee ∙ ap (update (below n (λ l x. alpha ⊗ x))) copied ∙ below_then _ _ _ c n (λ l hl x. value-scaled (at s l) alpha el ea)

-- ---- the entries of op(A), in the order of solving

-- the unknowns before one lie after it if solving goes down
pub before-is-beside : (down : Bool) (n q s : ℕ) → s < q → q < n → Beside down (turn down n q) (turn down n s)
unfolding turn
before-is-beside true n q s h k = omega arith
before-is-beside false n q s h k = omega arith

pub entries-scaled : {left : Bool} (alpha : Float) (n : ℕ) (v w : List Float) (i s : ℕ) (y : Float) → left ≡ false → alpha ≡ −1f → n ≤ 64 → 4096 ≤ length v
    → w ≡ update (region 64 n n (λ i j x. alpha ⊗ x)) v → i < n → s < n → at v (i * 64 + s) ≡ y → at w (i * 64 + s) ≡ matrix_factor left y
unfolding grid cell
entries-scaled alpha n v w i s y e ea few long ew hi hs ey =
    grid-at nan false 64 n n (λ i l x. alpha ⊗ x) v w i s (few, omega arith) hi hs ew
    ∙ ap (λ (y : Float). alpha ⊗ y) ey
    ∙ matrix-scaled y alpha e ea

-- ---- the end of a sum

module _ {diag : Diagonal} (n : ℕ) (f : ℕ → Float → Float) (d : Float) (s c : List Float) (summed : c ≡ update (below n f) s) where
  pub unit-end : diag ≡ Unit → c ≡ update (below n (λ l x. divided diag (f l x) d)) s
  unfolding divided
  unit-end ed = summed ∙ below-same _ _ s n (λ l hl x. rw ed)

  pub nonunit-end : (e : List Float) → diag ≡ Nonunit → e ≡ update (below n (λ l x. x ⊘ d)) c → e ≡ update (below n (λ l x. divided diag (f l x) d)) s
  unfolding divided
  nonunit-end e ed ee = ee ∙ ap (update (below n (λ l x. x ⊘ d))) summed ∙ below_then _ _ _ s n (λ l hl x. rw ed)

-- ---- the values of a block, by its factors

-- a term of the block that starts at x0
pub shifted-term : (left : Bool) (T : Matrix) (x0 i j : ℕ) (e x : Float) → line_term left −1f (block_from x0 T) i e j x ≡ line_term left −1f T (x0 + i) e (x0 + j) x
unfolding line_term
shifted-term true T x0 i j e x = refl
shifted-term false T x0 i j e x = refl

pub packed-is : (left down : Bool) (n x0 : ℕ) (diag : Diagonal) (T D : Matrix) (v : List Float) (s : ℕ → Float)
    → ((i : ℕ) → i < n → D i i ≡ T (x0 + i) (x0 + i))
    → ((q p : ℕ) → p < q → q < n → at v (turn down n q * 64 + p) ≡ matrix_factor left (coefficient left T (x0 + turn down n q) (x0 + turn down n p)))
    → (q : ℕ) → q < n → packed_value left down n diag D v s q ≡ block_value left down n diag (block_from x0 T) s q
unfolding packed_value block_value packed_term solve_term solve_end sum_after
packed-is left down n x0 diag T D v s diagonal factors q hq =
    value-only nan (solve_term left down n (block_from x0 T)) (solve_end diag down n (block_from x0 T)) (λ q. s (turn down n q)) (packed_value left down n diag D v s) n
    (λ q hq.
    value-is nan (packed_term left down n v) (solve_end diag down n D) (λ q. s (turn down n q)) q
    ∙ ap₂ (λ (e y : Float). divided diag e y)
    (fold_same _ _ q _
    (λ p hp e.
    ap (λ (y : Float). e ⊕ y ⊗ value_factor left (packed_value left down n diag D v s p)) (factors q p hp hq)
    ∙ sym (term_is left T (x0 + turn down n q) (x0 + turn down n p) e (packed_value left down n diag D v s p))
    ∙ sym (shifted-term left T x0 (turn down n q) (turn down n p) e (packed_value left down n diag D v s p))))
    (diagonal (turn down n q) (turn_below down n q hq)))
    q hq
