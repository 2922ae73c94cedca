-- `triangle::by_columns` meets its contract: the rows below k of the buffer are done.
use Rattle.lines.proofs.TriangleLaws.{Rows}
use Rattle.lines.proofs.triangle.by_columns.Given as goal

abbrev pub invariant-loop-k : goal.invariant-loop-k
invariant-loop-k l = Rows l.after l.down l.a l.lda l.x0 l.n l.k l.v
