-- `solve` solves all unknowns by blocks: those below the q-th are done, and `zero` is the lowest index at which they were divided by zero.
use Prim.Native.Nat.{◌<◌}
use Rattle.forms.specs.Forms.{op_matrix}
use Rattle.trsm_diagonal.specs.Solve.{front}
use Rattle.trsm_diagonal.proofs.ZeroLaws.{LowestZero}
use Rattle.trsm.specs.Steps.{Step}
use Rattle.trsm.proofs.solve.Given as goal

abbrev pub invariant-loop-q : goal.invariant-loop-q
invariant-loop-q l =
    (l.q < l.g.m) × Step l.g.left l.by.down l.g.ld l.g.m l.g.lines l.by.diag (op_matrix l.by.a) (front l.g.m 0) (front l.g.m l.q) l.initial.b l.b
    × LowestZero l.by.down l.g.m l.by.diag (op_matrix l.by.a) 0 l.q l.zero
