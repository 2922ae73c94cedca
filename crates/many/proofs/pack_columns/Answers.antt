-- `pack_columns` copies one column after the other.
use Prim.Native.Nat.{◌-◌, ◌*◌, ◌+◌, ◌≤◌, ◌<◌}
use native.Mathlib.Omega.{arith}
use lib.ListN.{length}
use lib.Ieee.{nan}
use Rattle.arrays.proofs.PartLaws.{column-room, tail-length}
use Rattle.arrays.proofs.RegionLaws.{region-no-columns, region-column}
use Rattle.definitions.specs.Storage.{stored}
use Rattle.definitions.proofs.Fits.{entry-inside}
use Rattle.many.proofs.PanelLaws.{column-copied}
use Rattle.many.proofs.pack_columns.Goals as goal
use Rattle.many.proofs.pack_columns.Goals.{In-loop-l}

-- the next column is within the pack area, and within A
record Turn (c : In-loop-l) : Type 0 where
  in-pack : c.loop-l.l * c.args.m + c.args.m ≤ length c.loop-l.pack
  in-a : c.loop-l.l * c.args.lda + c.args.m ≤ length c.args.a.now

turn : (c : In-loop-l) → Turn c
turn c =
    let l : c.loop-l.l < c.args.k = omega arith in
    record {
      in-pack = omega (arith, c.requires, column-room c.args.m l);
      in-a = omega (arith, c.requires, entry-inside c.args.lda c.args.m c.args.k (length c.args.a.now) c.requires.3 (c.args.m - 1) c.loop-l.l (omega (arith, c.requires.0)) l);
    }

pub loop-l-init : goal.loop-l-init
loop-l-init c = region-no-columns _ _ _ _

pub copy-requires : goal.copy-requires
copy-requires c =
    let t = turn (goal.at.copy-requires c).In-loop-l in
    (simp tail-length (omega (arith, t.in-pack)), simp tail-length (omega (arith, t.in-a)))

pub loop-l-preserved : goal.loop-l-preserved
loop-l-preserved c =
    let t = turn (goal.at.loop-l-preserved c).In-loop-l in
    let l = c.loop-l.l in
    let e = region-column nan c.args.m c.requires.0 c.args.m l (λ i j _. stored nan c.args.a.now c.args.lda i j) _ _ _ (omega arith) (omega (arith, t.in-pack)) c.loop-l.invariant (column-copied c.args.a.now c.args.m c.args.lda l _ _ c.copy.ensures) in
    e

pub overflow_mul-l-in-loop-l : goal.overflow_mul-l-in-loop-l
overflow_mul-l-in-loop-l c = omega (arith, (turn (goal.at.overflow_mul-l-in-loop-l c).In-loop-l).in-a)

pub offset_bounds-a-l : goal.offset_bounds-a-l
offset_bounds-a-l c = omega (arith, (turn (goal.at.offset_bounds-a-l c).In-loop-l).in-a)

pub slice_bounds-copy-count-in-loop-l : goal.slice_bounds-copy-count-in-loop-l
slice_bounds-copy-count-in-loop-l c = omega (arith, (turn (goal.at.slice_bounds-copy-count-in-loop-l c).In-loop-l).in-a)

pub slice_bounds-copy-start-in-loop-l : goal.slice_bounds-copy-start-in-loop-l
slice_bounds-copy-start-in-loop-l c = omega (arith, (turn (goal.at.slice_bounds-copy-start-in-loop-l c).In-loop-l).in-a)
