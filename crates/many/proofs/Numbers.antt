-- Without right sides nothing is copied.
-- Assumes nothing.
use Prim.Native.Nat.{ℕ}
use mathlib.Core.Path.{◌≡◌}
use Rattle.definitions.specs.Many.{copies, copied}
use Rattle.definitions.specs.declared.Call.{Call}

pub no_items : (c : Call) (count : ℕ) → count ≡ 0 → copied c count ≡ 0
unfolding copied copies
no_items c count h = simp h
