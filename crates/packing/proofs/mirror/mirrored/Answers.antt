-- `mirror::mirrored` meets its contract: a row, gathered.
use native.Mathlib.Nat.{add-mul}
use Rattle.arrays.proofs.PartLaws.{tail-length}
use Rattle.packing.proofs.MirrorLaws.{empty-run, mirrored-run}
use native.Mathlib.Omega.{arith}
use Rattle.packing.proofs.mirror.mirrored.Goals as goal

pub returns-then-n-eq0 : goal.returns-then-n-eq0
returns-then-n-eq0 c = empty-run _ _ _ (omega arith)

pub gather-requires : goal.gather-requires
gather-requires c = (omega arith, λ y b. simp tail-length (omega (arith, add-mul c.args.i y c.args.ld, c.requires.1 y b)))

pub returns : goal.returns
returns c = mirrored-run c.args.a.now c.args.ld c.args.i c.args.j c.args.n c.args.dest.now _ c.gather.ensures
