-- `bad_stride` is the test of 43.
use Rattle.definitions.specs.Check.{negative, nat}
use Rattle.definitions.specs.Many.{bad_stride}
use Rattle.arguments.proofs.Signed.{same}
use native.Mathlib.Omega.{arith}
use Rattle.many.proofs.bad_stride.Goals as goal

pub returns : goal.returns
unfolding bad_stride
returns c =
    let t = c.args.t in
    simp (
      same negative t.strideb (omega arith) c.negative.ensures,
      same negative t.stridec (omega arith) c.negative-2.ensures,
      c.short-short.ensures,
      c.shape_c-shape.ensures,
      same nat t.stridec (omega arith) c.size-stride.ensures,
    )
