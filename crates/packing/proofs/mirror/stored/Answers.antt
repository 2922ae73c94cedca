-- `mirror::stored` meets its contract: a copy.
use Prim.Native.Nat.{◌-◌}
use Rattle.arrays.proofs.PartLaws.{tail-length}
use Rattle.packing.proofs.MirrorLaws.{empty-run, stored-run}
use native.Mathlib.Omega.{arith}
use Rattle.packing.proofs.mirror.stored.Goals as goal

pub returns-then-n-eq0 : goal.returns-then-n-eq0
returns-then-n-eq0 c = empty-run _ _ _ (omega arith)

pub copy-requires : goal.copy-requires
copy-requires c = let last = c.requires.1 (c.args.n - 1) (omega arith) in (omega arith, simp tail-length (omega (arith, last)))

pub returns : goal.returns
returns c = stored-run c.args.a.now c.args.ld c.args.i c.args.j c.args.n c.args.dest.now _ c.copy.ensures
