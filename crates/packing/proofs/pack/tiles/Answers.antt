-- `pack::tiles` meets its contract: the lines of the first q tiles are done.
use Prim.Native.Nat.{◌+◌, ◌-◌, ◌*◌, ◌/◌}
use mathlib.Core.Path.{◌≡◌}
use native.Mathlib.Omega.{arith}
use Rattle.arrays.proofs.PartLaws.{tail-length}
use Rattle.arrays.proofs.RegionLaws.{region-no-columns}
use Rattle.packing.proofs.FactorLaws.{along-on, fewer, later}
use Rattle.packing.proofs.PackLaws.{lines_more}
use Rattle.packing.proofs.pack.tiles.Goals as goal

pub loop-q-init : goal.loop-q-init
loop-q-init c = region-no-columns _ _ _ _

pub transposed-requires : goal.transposed-requires
transposed-requires c = (
  omega arith,
  omega arith,
  simp tail-length (omega arith),
  c.requires.2,
  later _ _ c.index-first.ensures (fewer c.args.nx _ (omega arith) c.requires.3),
  λ y x hy hx. rw (c.index-first.ensures, along-on) (c.requires.4 y (c.loop-q.q * 8 + x) hy (omega arith)),
)

pub loop-q-preserved : goal.loop-q-preserved
loop-q-preserved c =
    let next : c.loop-q.q * 8 + 8 ≡ (c.loop-q.q + 1) * 8 = omega arith in
    rw next at (lines_more c.args.a.cells.now c.args.i.down c.args.j.down c.args.i.from c.args.a.ld c.args.j.from _ (c.loop-q.q * 8) 8 _ _ _ _ (omega arith) (omega arith) c.index-first.ensures c.loop-q.invariant c.transposed.ensures)

pub transposed-requires-2 : goal.transposed-requires-2
transposed-requires-2 c = (
  omega arith,
  omega arith,
  simp tail-length (omega arith),
  c.requires.2,
  later _ _ c.index-rest.ensures (fewer c.args.nx _ (omega arith) c.requires.3),
  λ y x hy hx. rw (c.index-rest.ensures, along-on) (c.requires.4 y (c.args.nx / 8 * 8 + x) hy (omega arith)),
)

pub returns : goal.returns
returns c =
    let tiles : c.loop-q.q ≡ c.args.nx / 8 = omega arith in
    let all : c.args.nx / 8 * 8 + (c.args.nx - c.args.nx / 8 * 8) ≡ c.args.nx = omega arith in
    rw all at (lines_more c.args.a.cells.now c.args.i.down c.args.j.down c.args.i.from c.args.a.ld c.args.j.from _ (c.args.nx / 8 * 8) (c.args.nx - c.args.nx / 8 * 8) _ _ _ _ (omega arith) (omega arith) c.index-rest.ensures (rw tiles at c.loop-q.invariant) c.transposed-2.ensures)
