-- `solve_elements` solves the unknowns in order: those below the j-th are done, and `zero` is the lowest index at which they were divided by zero.
use Rattle.forms.specs.Forms.{op_matrix}
use Rattle.trsm_diagonal.specs.Solve.{front}
use Rattle.trsm_diagonal.proofs.ZeroLaws.{LowestZero}
use Rattle.trsm.specs.Steps.{Step}
use Rattle.trsm.proofs.solve_elements.Given as goal

abbrev pub invariant-loop-j : goal.invariant-loop-j
invariant-loop-j l =
    Step l.g.left l.by.down l.g.ld l.g.m l.g.lines l.by.diag (op_matrix l.by.a) (front l.g.m 0) (λ k. front l.j l.j (front l.g.m 0 k)) l.initial.b l.b
    × LowestZero l.by.down l.g.m l.by.diag (op_matrix l.by.a) 0 l.j l.zero
