-- `triangle::by_rows` meets its contract: the places of the terms below k are done.
use Rattle.lines.proofs.TriangleLaws.{Places}
use Rattle.lines.proofs.triangle.by_rows.Given as goal

abbrev pub invariant-loop-k : goal.invariant-loop-k
invariant-loop-k l = Places l.after l.down l.a l.lda l.x0 l.n l.k l.v
