-- `direct::column` meets its contract: the elements below i are done, four in a turn.
use Rattle.direct.proofs.DirectLaws.{column-part, rows-part}
use Rattle.direct.specs.Product.{strided}
use Rattle.arrays.proofs.PartLaws.{tail-length}
use Rattle.arrays.proofs.UpdateLaws.{below_none, length-update}
use lib.ListN.{length}
use native.Mathlib.Nat.{add-mul}
use mathlib.Core.Path.{◌≡◌, refl, ap, ◌∙◌}
use Prim.Native.Nat.{◌-◌, ◌+◌}
use native.Mathlib.Omega.{arith}
use Rattle.direct.proofs.column.Goals as goal

pub loop-i-init : goal.loop-i-init
loop-i-init c = (omega arith, refl, below_none _ _)

pub overflow_mul-x : goal.overflow_mul-x
overflow_mul-x c = omega (arith, c.requires.2 c.loop-i.i 0 (omega arith) c.requires.1)

pub offset_bounds-a-x : goal.offset_bounds-a-x
offset_bounds-a-x c = omega (arith, c.requires.2 c.loop-i.i 0 (omega arith) c.requires.1)

pub quad-requires : goal.quad-requires
quad-requires c = (simp tail-length (omega arith), (λ r l hr h. simp tail-length (omega (arith, c.requires.2 (c.loop-i.i + r) l (omega arith) h, add-mul c.loop-i.i r c.args.a.row))), c.requires.3)

pub loop-i-preserved : goal.loop-i-preserved
loop-i-preserved c = let e = column-part _ (strided _ _ _) _ _ _ _ _ 4 _ _ _ (omega arith) (λ r q hr hq. rows-part _ _ _ _ r q) c.loop-i.invariant.2 c.quad.ensures in
    (omega arith, ap length e ∙ length-update _ _, e)

pub overflow_mul-y : goal.overflow_mul-y
overflow_mul-y c = omega (arith, c.requires.2 c.loop-i.i 0 (omega arith) c.requires.1)

pub offset_bounds-a-y : goal.offset_bounds-a-y
offset_bounds-a-y c = omega (arith, c.requires.2 c.loop-i.i 0 (omega arith) c.requires.1)

pub singles-requires : goal.singles-requires
singles-requires c = (simp tail-length (omega arith), c.requires.1, (λ r l hr h. simp tail-length (omega (arith, c.requires.2 (c.loop-i.i + r) l (omega arith) h, add-mul c.loop-i.i r c.args.a.row))), c.requires.3)

pub returns : goal.returns
returns c = let e : c.loop-i.i + (c.args.rows - c.loop-i.i) ≡ c.args.rows = omega arith in
    rw e at (column-part _ (strided _ _ _) _ _ _ _ _ _ _ _ _ (omega arith) (λ r q hr hq. rows-part _ _ _ _ r q) c.loop-i.invariant.2 c.singles.ensures)
