-- What the kernel asks of the arrays of a call that fits: every index that is read is within its array.
-- Assumes nothing.
use Prim.Native.Nat.{ℕ, ◌+◌, ◌*◌, ◌≤◌, ◌<◌}
use mathlib.Core.Path.{◌≡◌}
use mathlib.Core.Bool.{false, and-false}
use native.Mathlib.Omega.{arith}
use lib.Dec.{leb}
use borrow.Author.Tests.{ne_eqb}
use Rattle.arrays.proofs.Tests.{or-both, by-test}
use Rattle.arrays.proofs.PartLaws.{columns-room}
use Rattle.definitions.specs.Number.{is_zero}
use Rattle.definitions.specs.Storage.{needed}
use Rattle.definitions.specs.Call.{◌by◌, has_k, start_only, stored_as}
use Rattle.definitions.specs.declared.Transpose.{Transpose}
use Rattle.definitions.specs.declared.Transpose.TheVariants.{No, Yes}
use Rattle.definitions.specs.declared.Triangle.{Triangle}
use Rattle.definitions.specs.declared.Triangle.TheVariants.{Lower, Upper}
use Rattle.definitions.specs.declared.Call.{Call}
use Rattle.definitions.proofs.Fits.{Room, entry-inside, room-sum}
use Rattle.packing.specs.declared.Form.TheVariants.{Plain}
use Rattle.packing.specs.Factor.{index_of}
use Rattle.forms.specs.Forms.{op_form, mirrored_form}

-- an entry of op(A), p by q
pub op-inside : (t : Transpose) (ld p q len : ℕ) → Room len ld (stored_as t p q) → (i j : ℕ) → i < p → j < q → index_of (op_form t) ld i j < len
unfolding stored_as index_of
op-inside No ld p q len h i j hi hj = entry-inside ld p q len h i j hi hj
op-inside Yes ld p q len h i j hi hj = entry-inside ld q p len h j i hj hi

-- an entry of a symmetric matrix of order n
pub mirrored-inside : (t : Triangle) (ld n len : ℕ) → Room len ld (n by n) → (i j : ℕ) → i < n → j < n → index_of (mirrored_form t) ld i j < len
unfolding index_of
mirrored-inside Lower ld n len h i j hi hj =
    by-test (leb j i) (λ e. rw e (entry-inside ld n n len h i j hi hj)) (λ e. rw e (entry-inside ld n n len h j i hj hi))
mirrored-inside Upper ld n len h i j hi hj =
    by-test (leb i j) (λ e. rw e (entry-inside ld n n len h i j hi hj)) (λ e. rw e (entry-inside ld n n len h j i hj hi))

-- the part of C from column `from` on has room for the strip
pub part_room : (ld m n from cols len : ℕ) → needed ld m n ≤ from * ld + len → 0 < m → 0 < cols → from + cols ≤ n → cols * ld + m ≤ len + ld
part_room ld m n from cols len h hm hc within = omega (arith, room-sum ld m n (from * ld + len) h hm (omega arith), columns-room ld from cols within)

-- the inputs are read where there is a term
pub some-term : (c : Call) (l : ℕ) → is_zero c.alpha ≡ false → l < c.k → start_only c ≡ false
unfolding start_only
some-term c l z h = or-both (is_zero c.alpha) _ z (rw (ne_eqb c.k 0 (λ e. omega arith)) (and-false (has_k c.routine)))

pub some-factor : (c : Call) → has_k c.routine ≡ false → is_zero c.alpha ≡ false → start_only c ≡ false
unfolding start_only
some-factor c h z = or-both (is_zero c.alpha) _ z (rw h)

-- an entry of a matrix that is read as it is
pub plain-inside : (ld p q len : ℕ) → Room len ld (p by q) → (i j : ℕ) → i < p → j < q → index_of Plain ld i j < len
unfolding index_of
plain-inside ld p q len h i j hi hj = entry-inside ld p q len h i j hi hj
