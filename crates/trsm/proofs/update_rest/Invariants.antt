-- `update_rest` adds the terms of solved unknowns: the sums of those below the i-th have them.
use Prim.Native.Nat.{◌≤◌, ◌<◌, ◌+◌}
use Rattle.forms.specs.Forms.{op_matrix}
use Rattle.trsm_diagonal.specs.Solve.{front}
use Rattle.trsm.specs.Steps.{Step}
use Rattle.trsm.proofs.update_rest.Given as goal

abbrev pub invariant-loop-i : goal.invariant-loop-i
invariant-loop-i l =
    (l.p + l.n ≤ l.i) × (l.i < l.g.m) × Step l.g.left l.by.down l.g.ld l.g.m l.g.lines l.by.diag (op_matrix l.by.a) (λ k. front (l.p + l.n) (l.p + l.n) (front l.g.m l.p k)) (λ k. front l.i (l.p + l.n) (front l.g.m l.p k)) l.initial.b l.b
