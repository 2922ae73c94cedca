-- `pack_columns` copies one column after the other.
use mathlib.Core.Path.{◌≡◌}
use lib.Ieee.{nan}
use Rattle.arrays.specs.Update.{update, region}
use Rattle.definitions.specs.Storage.{stored}
use Rattle.many.proofs.pack_columns.Given as goal

abbrev pub invariant-loop-l : goal.invariant-loop-l
invariant-loop-l l = l.pack ≡ update (region l.m l.m l.l (λ i j _. stored nan l.a l.lda i j)) l.initial.pack
