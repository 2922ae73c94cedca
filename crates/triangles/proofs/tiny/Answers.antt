-- `triangles::tiny` meets its contract: the square on the diagonal and, if it has rows, the rectangle beside it.
use Prim.Native.Nat.{ℕ, ◌≤◌, ◌<◌, ◌+◌, ◌*◌}
use mathlib.Core.Bool.{false}
use mathlib.Core.Path.{◌≡◌, refl}
use native.Mathlib.Omega.{arith}
use lib.Ieee.{nan}
use lib.Ieee.{Float}
use lib.ListN.{length}
use Rattle.arrays.proofs.PartLaws.{column-room}
use Rattle.packing.specs.Factor.{Matrix, entry_of}
use Rattle.direct.specs.Product.{from_row, from_column, partly, product}
use Rattle.arrays.proofs.TrapezoidLaws.{rest-fits, diagonal-alone, diagonal-and-rest}
use Rattle.triangles.proofs.tiny.Goals as goal
use Rattle.triangles.proofs.tiny.Goals.{After-pick-rows}

-- the rows beside the diagonal block are within the columns
record Parts (g h top rows n ld lc : ℕ) : Type 0 where
  rest : top + rows ≤ n
  within : g + h ≤ n
  leading : n ≤ ld
  some : 0 < ld
  room : h * ld + n ≤ lc + ld
  column : 0 * ld + ld ≤ h * ld

parts : (c : After-pick-rows) → Parts c.args.part.from c.args.part.cols c.pick-top.result c.pick-rows.result c.args.part.n c.args.part.ld (length c.args.c.now)
parts c =
    record {
      rest = rest-fits c.args.part.n c.args.part.from c.args.part.cols _ _ (omega arith) c.args.part.lower c.pick-top.ensures c.pick-rows.ensures;
      within = omega arith;
      leading = omega arith;
      some = omega arith;
      room = omega arith;
      column = column-room _ (omega arith);
    }

-- the product in the rows from i₀ on
at_rows : (alpha : Float) (L R : Matrix) (k i₀ g i j : ℕ) (x : Float)
    → product alpha (from_row i₀ L) (from_column g R) false k i j x ≡ product alpha L (from_column g R) false k (i₀ + i) j x
unfolding product partly
at_rows alpha L R k i₀ g i j x = refl

pub returns-then-rows-eq0 : goal.returns-then-rows-eq0
returns-then-rows-eq0 c =
    let p = parts (goal.at.returns-then-rows-eq0 c).After-pick-rows in
    diagonal-alone _ _ _ _ _ (omega (arith, p)) nan _ _ _ _ _ _ c.pick-top.ensures c.pick-rows.ensures (omega (arith, p)) (omega (arith, p)) (omega (arith, p)) c.triangle.ensures (at_rows _ (entry_of c.args.p.left.form c.args.p.left.cells.now c.args.p.left.ld) (entry_of c.args.p.right.form c.args.p.right.cells.now c.args.p.right.ld) _ _ _) c.if-rows-eq0.true

pub returns : goal.returns
returns c =
    let p = parts (goal.at.returns c).After-pick-rows in
    diagonal-and-rest _ _ _ _ _ (omega (arith, p)) nan _ _ _ _ _ _ c.pick-top.ensures c.pick-rows.ensures (omega (arith, p)) (omega (arith, p)) (omega (arith, p)) c.triangle.ensures (at_rows _ (entry_of c.args.p.left.form c.args.p.left.cells.now c.args.p.left.ld) (entry_of c.args.p.right.form c.args.p.right.cells.now c.args.p.right.ld) _ _ _)
    _ _ _ refl c.multiply.ensures (at_rows _ (entry_of c.args.p.left.form c.args.p.left.cells.now c.args.p.left.ld) (entry_of c.args.p.right.form c.args.p.right.cells.now c.args.p.right.ld) _ _ _)
