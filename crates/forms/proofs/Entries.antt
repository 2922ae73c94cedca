-- The matrices of a call are read by their forms.
-- Assumes nothing.
use Prim.Native.Nat.{ℕ, ◌+◌, ◌*◌}
use mathlib.Core.Path.{◌≡◌, refl}
use mathlib.Core.Bool.{Bool, true, false}
use mathlib.Core.List.{List}
use lib.Dec.{leb}
use lib.Ieee.{Float, nan}
use lib.ListN.{get_or}
use Rattle.std.specs.Prelude.{if◌then◌else◌}
use Rattle.definitions.specs.Storage.{stored, op, inside, mirrored}
use Rattle.definitions.specs.declared.Transpose.{Transpose}
use Rattle.definitions.specs.declared.Transpose.TheVariants.{No, Yes}
use Rattle.definitions.specs.declared.Triangle.{Triangle}
use Rattle.definitions.specs.declared.Triangle.TheVariants.{Lower, Upper}
use Rattle.packing.specs.declared.Form.TheVariants.{Plain}
use Rattle.packing.specs.Factor.{index_of, entry_of}
use Rattle.forms.specs.Forms.{op_form, mirrored_form}

pub op-entry : (t : Transpose) (a : List Float) (ld : ℕ) → op t (stored nan a ld) ≡ entry_of (op_form t) a ld
unfolding op stored entry_of index_of
op-entry No a ld = refl
op-entry Yes a ld = refl

either : (a : List Float) (b : Bool) (p q : ℕ) → (if b then get_or a p nan else get_or a q nan) ≡ get_or a (if b then p else q) nan
either a true p q = refl
either a false p q = refl

pub mirrored-entry : (t : Triangle) (a : List Float) (ld : ℕ) → mirrored t (stored nan a ld) ≡ entry_of (mirrored_form t) a ld
unfolding mirrored inside stored entry_of index_of
mirrored-entry Lower a ld = λ k i j. either a (leb j i) (j * ld + i) (i * ld + j) k
mirrored-entry Upper a ld = λ k i j. either a (leb i j) (j * ld + i) (i * ld + j) k

pub plain_entry : (a : List Float) (ld : ℕ) → stored nan a ld ≡ entry_of Plain a ld
unfolding stored entry_of index_of
plain_entry a ld = refl
