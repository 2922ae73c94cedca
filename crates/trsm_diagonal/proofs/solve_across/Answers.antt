-- `solve_across` solves a diagonal block whose lines stand across: with its factors in a buffer the unknowns get the same values.
use mathlib.Core.Bool.{false}
use mathlib.Core.Path.{refl, ◌∙◌}
use Prim.Native.Nat.{◌+◌}
use native.Mathlib.Omega.{arith}
use Rattle.forms.specs.Forms.{op_matrix}
use Rattle.trsm_diagonal.proofs.OrderLaws.{ordered_same}
use Rattle.trsm_diagonal.proofs.FactorLaws.{packed-is}
use Rattle.trsm_diagonal.proofs.BlockLaws.{diagonal-index}
use Rattle.trsm_diagonal.proofs.solve_across.Goals as goal

pub solve_groups-requires : goal.solve_groups-requires
solve_groups-requires c =
    let args = c.args in record {
      m_bound = (omega arith, omega arith, omega arith, omega arith, omega arith, λ i h. omega (arith, diagonal-index args.by.a.t args.by.a.ld (args.x0 + i), c.requires.m_nonzero.5 i i h h));
      room = c.requires.room;
    }

pub returns : goal.returns
returns c =
    let args = c.args in (
      c.solve_groups.ensures.0
          ∙ ordered_same false args.by.down args.g.ld args.g.m args.g.lines _ _ args.s.now (omega (arith, c.requires))
          (λ q l hq hl x. packed-is args.g.left args.by.down args.g.m args.x0 args.by.diag (op_matrix args.by.a) _ _ _ (λ i h. refl) c.matrix_factors.ensures q hq),
      c.solve_groups.ensures.1,
    )
