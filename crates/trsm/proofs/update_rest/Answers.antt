-- `update_rest` adds the terms of solved unknowns: the sums of those below the i-th have them.
use Prim.Native.Nat.{ℕ, ◌+◌}
use mathlib.Core.Path.{◌≡◌, subst}
use Rattle.forms.specs.Forms.{op_matrix}
use Rattle.lines.proofs.GridLaws.{some-ld}
use Rattle.trsm_diagonal.specs.Solve.{front}
use Rattle.trsm_diagonal.proofs.FactorLaws.{minus_one}
use Rattle.trsm.specs.Steps.{Step}
use Rattle.trsm.proofs.StepLaws.{terms-more, terms-done}
use native.Mathlib.Omega.{arith}
use Rattle.trsm.proofs.update_rest.Goals as goal
use Rattle.trsm.proofs.update_rest.Goals.{After-add_terms}

-- nothing is left
pub returns-then-p-n : goal.returns-then-p-n
returns-then-p-n c =
    let args = c.args in
    let e : args.p + args.n ≡ args.g.m = c.if-p-n.true in
    terms-done args.g.left args.by.down args.g.ld args.g.m args.g.lines args.by.diag (op_matrix args.by.a) (some-ld args.g.left args.g.ld args.g.m args.g.lines _ (omega arith) (omega arith) c.requires.room)
    args.p args.n args.g.m args.b.now args.b.now
    (subst (λ (i : ℕ). Step args.g.left args.by.down args.g.ld args.g.m args.g.lines args.by.diag (op_matrix args.by.a) (λ k. front (args.p + args.n) (args.p + args.n) (front args.g.m args.p k)) (λ k. front i (args.p + args.n) (front args.g.m args.p k)) args.b.now args.b.now) e
    (λ start k l h. h))

-- after it those below the e-th have the terms
more : (c : After-add_terms) (e : ℕ) → e ≡ c.loop-i.i + c.min-h.result
    → let args = c.args in
    Step args.g.left args.by.down args.g.ld args.g.m args.g.lines args.by.diag (op_matrix args.by.a) (λ k. front (args.p + args.n) (args.p + args.n) (front args.g.m args.p k)) (λ k. front e (args.p + args.n) (front args.g.m args.p k)) args.b.now c.add_terms.new.b
more c e is =
    let args = c.args in
    rw is
    (terms-more args.g.left args.by.down args.g.ld args.g.m args.g.lines args.by.diag (op_matrix args.by.a) (some-ld args.g.left args.g.ld args.g.m args.g.lines _ (omega arith) (omega (arith, c.requires)) c.requires.room)
    _ args.p args.n args.g.m c.loop-i.i c.min-h.result c.least-x0.result c.least-y.result _ _ args.b.now c.loop-i.b _ minus_one (omega (arith, c.requires)) (omega (arith, c.requires)) (omega arith) (omega arith) (omega arith)
    (omega arith) c.requires.room c.least-x0.ensures.0 c.least-y.ensures.0 c.take.ensures c.loop-i.invariant.2 c.add_terms.ensures)

pub loop-i-preserved : goal.loop-i-preserved
loop-i-preserved c =
    (omega arith, omega arith, more (goal.at.loop-i-preserved c).After-add_terms (c.loop-i.i + c.reach-w.result) (omega arith))

-- that was the last turn
pub returns-else-p-n-2 : goal.returns-else-p-n-2
returns-else-p-n-2 c =
    let args = c.args in
    terms-done args.g.left args.by.down args.g.ld args.g.m args.g.lines args.by.diag (op_matrix args.by.a) (some-ld args.g.left args.g.ld args.g.m args.g.lines _ (omega arith) (omega arith) c.requires.room)
    args.p args.n args.g.m args.b.now _
    (more (goal.at.returns-else-p-n-2 c).After-add_terms args.g.m (omega arith))
