-- `mirror::block` meets its contract: the lines below x are done.
use Rattle.packing.specs.Factor.{mirrored_form, entry_of}
use Rattle.arrays.specs.Update.{update, region}
use mathlib.Core.Path.{◌≡◌}
use Prim.Native.Nat.{◌+◌}
use Rattle.packing.proofs.mirror.block.Given as goal

abbrev pub invariant-loop-x : goal.invariant-loop-x
invariant-loop-x l = l.dest ≡ update (region l.stride l.ny l.x (λ y x' _. entry_of (mirrored_form l.lower) l.a l.ld (l.i + y) (l.j + x'))) l.initial.dest
