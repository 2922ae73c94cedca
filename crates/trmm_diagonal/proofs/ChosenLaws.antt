-- The elements of a line that are chosen, and room in a buffer.
-- Assumes nothing.
use mathlib.Core.Bool.{Bool, true, false}
use mathlib.Core.Path.{◌≡◌}
use Prim.Native.Nat.{ℕ, ◌+◌, ◌<◌, ◌≤◌}
use native.Mathlib.Omega.{arith}
use lib.Dec.{leb, ltb}
use borrow.Author.Tests.{ltb-true, leb-true}
use Rattle.arrays.proofs.Tests.{and_left, and_right, by-test}
use Rattle.lines.specs.Lines.{within, Room}

pub within-out : (lo n q : ℕ) → (lo ≤ q → q < lo + n → ⊥) → within lo n q ≡ false
unfolding within
within-out lo n q out =
    by-test (leb lo q)
    (λ e. by-test (ltb q (lo + n)) (λ f. absurd (out (leb-true _ _ e) (ltb-true _ _ f))) (λ f. rw (e, f)))
    (λ e. rw e)

pub within-bounds : (lo n q : ℕ) → within lo n q ≡ true → (lo ≤ q) × (q < lo + n)
unfolding within
within-bounds lo n q e = (leb-true _ _ (and_left (leb lo q) _ e), ltb-true _ _ (and_right (leb lo q) _ e))

-- a buffer has room for a block
pub buffer-room : (left : Bool) (n lines len : ℕ) → n ≤ 64 → lines ≤ 64 → 0 < n → 0 < lines → 4096 ≤ len → Room left 64 n lines len
buffer-room true n lines len hn hl sn sl h = (omega arith, omega arith)
buffer-room false n lines len hn hl sn sl h = (omega arith, omega arith)
