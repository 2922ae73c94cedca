-- `take` is a step of the elimination.
use Prim.Native.Nat.{◌+◌, ◌*◌, ◌≤◌}
use native.Mathlib.Omega.{arith}
use lib.ListN.{length-set}
use lib.Signed.{nat_abs-le}
use Rattle.arrays.proofs.PartLaws.{column-room}
use Rattle.integer_solve.proofs.Words.{fits-64, same_word, same-64, grown-set}
use Rattle.integer_solve.proofs.Taking.{open-within, taken_is}
use Rattle.integer_solve.proofs.take.Goals as goal
use Rattle.integer_solve.proofs.take.Goals.{Start}

-- the column of unknown j is in A
within : (c : Start) → c.args.j * c.args.n + c.args.n ≤ c.args.n * c.args.n
within c =
    column-room c.args.n c.requires.0

pub subtract-requires : goal.subtract-requires
subtract-requires c =
    let e = c.first_open-lo.ensures in
    let f = c.end_open-hi.ensures in
    let h = open-within c.args.down c.args.n c.args.j c.requires.0 in
    (omega (arith, e, f, h), omega (arith, f, h), omega (arith, f, h, within (goal.at.subtract-requires c).Start), λ i b. c.requires.4 i (omega (arith, f, h)))

pub returns : goal.returns
returns c =
    let m = c.subtract.new.s in
    let h = open-within c.args.down c.args.n c.args.j c.requires.0 in
    let e = c.first_open-lo.ensures in
    let f = c.end_open-hi.ensures in
    let g = rw (same_word c.args.x c.ranges.x.sfits, e, f) at c.subtract.ensures.0 in
    rw (same-64 c.args.x c.ranges.x.sfits) (
      taken_is c.args.down c.args.n c.args.a.now c.args.j c.args.x c.args.s.now m (omega arith) g h.1,
      grown-set c.args.s.now m c.args.j c.args.x c.subtract.ensures.1 (omega arith) (omega (arith, nat_abs-le c.args.x c.ranges.x.sfits)),
    )

pub overflow_mul-j : goal.overflow_mul-j
overflow_mul-j c = omega (arith, within (goal.at.overflow_mul-j c).Start)

pub overflow_cast-s : goal.overflow_cast-s
overflow_cast-s c = rw (same_word c.args.x c.ranges.x.sfits) (fits-64 c.ranges.x.sfits)

pub shape_of-s : goal.shape_of-s
shape_of-s c = simp length-set (omega arith)
