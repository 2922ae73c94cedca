-- `triangles::row` meets its contract: its part of the triangle is the block on the diagonal and the columns before or after it.
use Prim.Native.Nat.{ℕ, ◌≤◌, ◌<◌, ◌+◌, ◌*◌}
use mathlib.Core.Path.{refl}
use native.Mathlib.Omega.{arith}
use lib.ListN.{length}
use Rattle.arrays.proofs.PartLaws.{tail-length, column-room, columns-room}
use Rattle.blocks.proofs.TermLaws.{packed-columns}
use Rattle.triangles.proofs.SlabLaws.{beside-fits, block-alone, block-and-beside}
use Rattle.triangles.proofs.row.Goals as goal
use Rattle.triangles.proofs.row.Goals.{After-pick-cols, Else-cols-eq0}

-- both parts are within the square
record Parts (x h first width order ld lc lt : ℕ) : Type 0 where
  beside : first + width ≤ order
  within : x + h ≤ order
  leading : h ≤ ld
  some : 0 < h
  few : h ≤ 64
  room : order * ld + h ≤ lc + ld
  diagonal-columns : x * ld + h * ld ≤ order * ld
  other-columns : first * ld + width * ld ≤ order * ld
  column : 0 * ld + ld ≤ h * ld
  buffer : order * 64 ≤ lt

parts : (c : After-pick-cols) → Parts c.args.x c.args.h c.pick-first.result c.pick-cols.result c.args.order c.args.ld (length c.args.c.now) (length c.args.t.now)
parts c =
    let a = c.args in
    let beside = beside-fits a.x a.h a.order _ _ (omega arith) a.lower (c.pick-first.ensures, c.pick-cols.ensures) in
    record {
      beside = beside;
      within = omega arith;
      leading = omega arith;
      some = omega arith;
      few = omega arith;
      room = omega arith;
      diagonal-columns = columns-room a.ld a.x a.h (omega arith);
      other-columns = columns-room a.ld _ _ beside;
      column = column-room _ (omega arith);
      buffer = omega arith;
    }

-- there is a column beside the block
some-column : (c : Else-cols-eq0) → 0 * c.args.ld + c.args.ld ≤ c.pick-cols.result * c.args.ld
some-column c =
    column-room _ (omega arith)

pub cut-requires : goal.cut-requires
cut-requires c = simp tail-length (omega (arith, parts (goal.at.cut-requires c).After-pick-cols))

pub returns-then-cols-eq0 : goal.returns-then-cols-eq0
returns-then-cols-eq0 c =
    let p = parts (goal.at.returns-then-cols-eq0 c).After-pick-cols in
    block-alone _ _ _ _ _ (omega (arith, p)) _ _ _ _ _ _ (c.pick-first.ensures, c.pick-cols.ensures) (omega (arith, p)) (omega (arith, p)) (omega (arith, p))
    c.cut.ensures (λ i j v. packed-columns _ _ _ _ i j v) c.if-cols-eq0.true

pub slice_bounds-block-count : goal.slice_bounds-block-count
slice_bounds-block-count c = omega (arith, parts (goal.at.slice_bounds-block-count c).After-pick-cols, some-column (goal.at.slice_bounds-block-count c).Else-cols-eq0)

pub slice_bounds-block-start : goal.slice_bounds-block-start
slice_bounds-block-start c = omega (arith, parts (goal.at.slice_bounds-block-start c).After-pick-cols, some-column (goal.at.slice_bounds-block-start c).Else-cols-eq0)

pub block-requires : goal.block-requires
block-requires c = simp tail-length (omega (arith, parts (goal.at.block-requires c).After-pick-cols, some-column (goal.at.block-requires c).Else-cols-eq0))

pub returns : goal.returns
returns c =
    let p = parts (goal.at.returns c).After-pick-cols in
    let s = some-column (goal.at.returns c).Else-cols-eq0 in
    block-and-beside _ _ _ _ _ (omega (arith, p)) _ _ _ _ _ _ (c.pick-first.ensures, c.pick-cols.ensures) (omega (arith, p)) (omega (arith, p)) (omega (arith, p))
    c.cut.ensures (λ i j v. packed-columns _ _ _ _ i j v)
    _ _ _ (omega (arith, p, s)) refl c.block.ensures (λ i j v. packed-columns _ _ _ _ i j v)
