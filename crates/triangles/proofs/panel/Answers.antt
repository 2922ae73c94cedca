-- `triangles::panel` meets its contract: the square on the diagonal and the rectangle beside it.
use Prim.Native.Nat.{ℕ, ◌≤◌, ◌<◌, ◌+◌, ◌*◌}
use mathlib.Core.Path.{◌≡◌, refl, ◌∙◌}
use mathlib.Core.List.{List}
use native.Mathlib.Omega.{arith}
use lib.Ieee.{nan}
use lib.Ieee.{Float}
use lib.ListN.{length}
use Rattle.arrays.proofs.PartLaws.{column-room}
use Rattle.packing.specs.Factor.{Matrix}
use Rattle.kernel.specs.Panels.{half_packed}
use Rattle.arrays.proofs.TrapezoidLaws.{rest-fits, diagonal-and-rest}
use Rattle.triangles.proofs.panel.Goals as goal
use Rattle.triangles.proofs.panel.Goals.{After-pick-rows}

-- the rows beside the square are within the columns
record Parts (from cols top rows n ld lc : ℕ) : Type 0 where
  rest : top + rows ≤ n
  within : from + cols ≤ n
  leading : n ≤ ld
  some : 0 < ld
  room : cols * ld + n ≤ lc + ld
  column : 0 * ld + ld ≤ cols * ld

parts : (c : After-pick-rows) → Parts c.args.part.from c.args.part.cols c.pick-top.result c.pick-rows.result c.args.part.n c.args.part.ld (length c.args.c.now)
parts c =
    let a = c.args in
    record {
      rest = rest-fits a.part.n a.part.from a.part.cols _ _ (omega arith) a.part.lower c.pick-top.ensures c.pick-rows.ensures;
      within = omega arith;
      leading = omega arith;
      some = omega arith;
      room = omega arith;
      column = column-room _ (omega arith);
    }

-- the product in the rows from i₀ on
at_rows : (n : ℕ) (t : List Float) (M : Matrix) (i₀ i j : ℕ) (x : Float) → half_packed n t (λ i q. M (i₀ + i) q) i j x ≡ half_packed n t M (i₀ + i) j x
unfolding half_packed
at_rows n t M i₀ i j x = refl

pub returns : goal.returns
returns c =
    let p = parts (goal.at.returns c).After-pick-rows in (
      diagonal-and-rest _ _ _ _ _ (omega (arith, p)) nan _ _ _ _ _ _ c.pick-top.ensures c.pick-rows.ensures (omega (arith, p)) (omega (arith, p)) (omega (arith, p))
          c.square.ensures.0 (at_rows _ _ _ _) _ _ _ refl c.sweep.ensures.0 (at_rows _ _ _ _),
      c.sweep.ensures.1 ∙ c.square.ensures.1,
    )
