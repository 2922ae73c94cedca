-- `pivots` meets its contract: the first i entries are in their places.
use Rattle.forms.specs.Forms.{op_matrix}
use Rattle.trmm_diagonal.specs.Terms.{Pivots}
use Rattle.trmm_diagonal.proofs.pivots.Given as goal

abbrev pub invariant-loop-i : goal.invariant-loop-i
invariant-loop-i l = Pivots l.diag (op_matrix l.a) l.p0 l.i l.initial.v l.v
