-- TRMM by lines of B: the terms that the elements of a line have.
--     has        element q has the term of element p: those from q on, or those up to q
--     term_from   the term of element lo + i, whose value is x i, in the sum e of element q, if q has it
--     held_terms  the terms of element q of line l that it has among n, from factors that are held in u and v: e + v * u
--     matrix_of  op(A) with its diagonal, which is 1 where it is unit
--     Pivots     r is the buffer v, but with the first n entries of op(A)'s diagonal from p₀ on in its own diagonal
--     done       element q is among the k of m that were done first: from the first on, or from the last back
use Rattle.std.specs.Prelude.{Bool, true, false, ◌≡◌, List, ℕ, ◌+◌, ◌*◌, ◌<◌, leb, ltb, length, Float}
use Rattle.arrays.specs.Fold.{fold, among}
use Rattle.floats.specs.Array.{at}
use Rattle.floats.specs.Operations.{◌⊕◌, ◌⊗◌, 1f}
use Rattle.definitions.specs.Storage.{with_diagonal}
use Rattle.definitions.specs.declared.Diagonal.{Diagonal}
use Rattle.packing.specs.Factor.{Matrix}
use Rattle.forms.specs.Forms.{op_matrix}
use Rattle.lines.specs.Lines.{line_term}
use Rattle.trmm_diagonal.specs.declared.Multiplier.{Multiplier}

unfoldable pub has : Bool → ℕ → ℕ → Bool
has true q p = leb q p
has false q p = leb p q

unfoldable pub term_from : Bool → Bool → Float → Matrix → ℕ → (ℕ → Float) → ℕ → Float → ℕ → Float
term_from left after alpha T lo x q = among (λ i. has after q (lo + i)) (λ e i. line_term left alpha T q e (lo + i) (x i))

unfoldable pub held_terms : Bool → ℕ → List Float → List Float → ℕ → ℕ → Float → Float
held_terms after n u v q l e = fold (among (has after q) (λ e p. e ⊕ at v (q * 64 + p) ⊗ at u (p * 64 + l))) n e

abbrev pub matrix_of : Multiplier → Matrix
matrix_of f = with_diagonal 1f f.diag (op_matrix f.a)

pub record Pivots (diag : Diagonal) (M : Matrix) (p₀ n : ℕ) (v r : List Float) : Type 0 where
  pub same_length : length r ≡ length v
  pub own : (i : ℕ) → i < n → at r (i * 64 + i) ≡ with_diagonal 1f diag M (p₀ + i) (p₀ + i)
  pub others : (i p : ℕ) → p < 64 → (i ≡ p → ⊥) → at r (i * 64 + p) ≡ at v (i * 64 + p)

unfoldable pub done : Bool → ℕ → ℕ → ℕ → Bool
done true m k q = ltb q k
done false m k q = leb m (q + k)
