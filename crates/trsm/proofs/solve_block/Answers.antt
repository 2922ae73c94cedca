-- `solve_block` solves a diagonal block: side L in a copy of its lines, side R where they are.
use Rattle.std.proofs.Common.{rules}
use mathlib.Core.Path.{refl}
use Prim.Native.Nat.{◌+◌, ◌<◌}
use native.Mathlib.Omega.{arith}
use Rattle.arrays.proofs.PartLaws.{tail-length, column-room, columns-room}
use Rattle.arrays.proofs.SearchLaws.{mapped}
use Rattle.forms.specs.Forms.{op_matrix}
use Rattle.lines.proofs.GridLaws.{some-ld}
use Rattle.trsm_diagonal.proofs.ZeroLaws.{zero-found}
use Rattle.trsm.proofs.BlockStepLaws.{copied-step, lent-step}
use Rattle.trsm.proofs.solve_block.Goals as goal
use Rattle.trsm.proofs.solve_block.Goals.{After-least-x0}

-- the block's first element is within its line
first-low : (c : After-least-x0) → c.least-x0.result < c.args.g.m
first-low c =
    omega (arith, c.requires, c.least-x0.ensures.1)

pub returns-then-g : goal.returns-then-g
returns-then-g c =
    let args = c.args in (
      copied-step args.g.left args.by.down args.g.ld args.g.m args.g.lines args.by.diag (op_matrix args.by.a) args.p args.n c.least-x0.result args.b.now (some-ld args.g.left args.g.ld args.g.m args.g.lines _ (omega (arith, c.requires)) (omega (arith, c.requires)) c.requires.room) (omega (arith, c.requires)) c.least-x0.ensures.0 c.requires.room
          _ _ _ _ (omega (arith, c.requires), omega (arith, c.requires)) c.take.ensures c.solve_across-z.ensures.0 c.put.ensures,
      zero-found args.by.down args.g.m args.by.diag (op_matrix args.by.a) args.p args.n c.least-x0.result c.solve_across-z.result _ (omega (arith, c.requires)) c.least-x0.ensures.0 c.least-x0.ensures.1 c.solve_across-z.ensures.1
          (mapped (λ i. c.least-x0.result + i) _ (λ x r p. search rules) _ _ c.map.ensures.cases),
    )

pub solve_across-z-requires-2 : goal.solve_across-z-requires-2
solve_across-z-requires-2 c = record {
  m_nonzero = (omega arith, omega arith, omega arith, omega arith, omega (arith, c.least-x0.ensures.1, c.ranges), λ i j hi hj. c.requires.by_index (c.least-x0.result + i) (c.least-x0.result + j) (omega (arith, c.least-x0.ensures.1)) (omega (arith, c.least-x0.ensures.1)));
  room = (let room = rw c.if-g.false at c.requires.room in simp tail-length (omega (arith, room, columns-room c.args.g.ld c.least-x0.result c.args.n c.least-x0.ensures.1)));
}

pub returns : goal.returns
returns c =
    let args = c.args in
    let room = rw c.if-g.false at c.requires.room in (
      lent-step args.g.left args.by.down args.g.ld args.g.m args.g.lines args.by.diag (op_matrix args.by.a) args.p args.n c.least-x0.result args.b.now (some-ld args.g.left args.g.ld args.g.m args.g.lines _ (omega (arith, c.requires)) (omega (arith, c.requires)) c.requires.room) (omega (arith, c.requires)) c.least-x0.ensures.0 c.requires.room
          _ _ c.if-g.false refl (omega (arith, room, column-room c.args.g.ld (first-low (goal.at.returns c).After-least-x0))) c.least-x0.ensures.1 c.solve_across-z-2.ensures.0,
      zero-found args.by.down args.g.m args.by.diag (op_matrix args.by.a) args.p args.n c.least-x0.result c.solve_across-z-2.result _ (omega (arith, c.requires)) c.least-x0.ensures.0 c.least-x0.ensures.1 c.solve_across-z-2.ensures.1
          (mapped (λ i. c.least-x0.result + i) _ (λ x r p. search rules) _ _ c.map-2.ensures.cases),
    )
