-- `solve` solves all unknowns by blocks: those below the q-th are done, and `zero` is the lowest index at which they were divided by zero.
use Prim.Native.Nat.{ℕ, ◌+◌}
use mathlib.Core.Path.{◌≡◌}
use Rattle.forms.specs.Forms.{op_matrix}
use Rattle.lines.proofs.GridLaws.{some-ld}
use Rattle.trsm_diagonal.specs.Solve.{front}
use Rattle.trsm_diagonal.proofs.ZeroLaws.{LowestZero, zero-none, zero_more, zero-all}
use Rattle.trsm.specs.Steps.{Step}
use Rattle.trsm.proofs.StepLaws.{block_more}
use native.Mathlib.Omega.{arith}
use Rattle.trsm.proofs.solve.Goals as goal
use Rattle.trsm.proofs.solve.Goals.{After-lower-zero}

pub loop-q-init : goal.loop-q-init
loop-q-init c = (omega arith, λ start k l h. h, zero-none c.args.by.down c.args.g.m c.args.by.diag (op_matrix c.args.by.a))

-- after it those below the e-th are done
done : (c : After-lower-zero) (e : ℕ) → e ≡ c.loop-q.q + c.min-n.result
    → let args = c.args in
    Step args.g.left args.by.down args.g.ld args.g.m args.g.lines args.by.diag (op_matrix args.by.a) (front args.g.m 0) (front args.g.m e) args.b.now c.update_rest.new.b
    × LowestZero args.by.down args.g.m args.by.diag (op_matrix args.by.a) 0 e c.lower-zero.result
done c e is =
    let args = c.args in
    rw is (
      block_more args.g.left args.by.down args.g.ld args.g.m args.g.lines args.by.diag (op_matrix args.by.a) (some-ld args.g.left args.g.ld args.g.m args.g.lines _ (omega (arith, c.requires)) (omega (arith, c.requires)) c.requires.room)
          0 c.loop-q.q (c.loop-q.q + c.min-n.result) args.g.m args.b.now c.loop-q.b _ _ (omega arith) c.loop-q.invariant.1 c.solve_block-z.ensures.0 c.update_rest.ensures,
      zero_more args.by.down args.g.m args.by.diag (op_matrix args.by.a) c.loop-q.q (c.loop-q.q + c.min-n.result) c.loop-q.zero _ _ (omega arith) c.loop-q.invariant.2 c.solve_block-z.ensures.1 c.lower-zero.ensures,
    )

pub loop-q-preserved : goal.loop-q-preserved
loop-q-preserved c =
    let d = done (goal.at.loop-q-preserved c).After-lower-zero (c.loop-q.q + c.args.r) (omega arith) in
    (omega arith, d.0, d.1)

-- that was the last turn
pub returns-2 : goal.returns-2
returns-2 c =
    let args = c.args in
    let d = done (goal.at.returns-2 c).After-lower-zero args.g.m (omega arith) in
    (d.0, zero-all args.by.down args.g.m args.by.diag (op_matrix args.by.a) c.lower-zero.result d.1)
