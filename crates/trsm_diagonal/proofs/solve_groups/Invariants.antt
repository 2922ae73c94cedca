-- `solve_groups` solves a diagonal block group by group: the unknowns before the next piece have their values, u has what their terms take, and `zero` is the lowest index at which
-- they were divided by zero.
use mathlib.Core.Path.{◌≡◌}
use Rattle.forms.specs.Forms.{op_matrix}
use Rattle.trsm_diagonal.specs.Solve.{block_from}
use Rattle.trsm_diagonal.proofs.AcrossLaws.{Solved, Kept}
use Rattle.trsm_diagonal.proofs.ZeroLaws.{LowestZero}
use Rattle.trsm_diagonal.proofs.solve_groups.Given as goal

abbrev pub invariant-loop-j : goal.invariant-loop-j
invariant-loop-j l =
    (goal.iterator-loop-j).can_next l.j-iterator × (goal.iterator-loop-j).is_finite l.j-iterator × (l.j-iterator.end ≡ l.g.m) × (l.j-iterator.step ≡ 16)
    × Solved l.g.left l.by.down l.g.ld l.g.m l.g.lines l.by.diag (block_from l.x0 (op_matrix l.by.a)) l.v l.initial.s l.initial.u l.j-iterator.at l.s
    × Kept l.g.left l.by.down l.g.ld l.g.m l.g.lines l.by.diag (block_from l.x0 (op_matrix l.by.a)) l.v l.initial.s l.initial.u l.j-iterator.at l.u
    × LowestZero l.by.down l.g.m l.by.diag (block_from l.x0 (op_matrix l.by.a)) 0 l.j-iterator.at l.zero
