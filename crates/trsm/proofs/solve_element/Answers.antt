-- `solve_element` meets its contract: the sum of the j-th unknown has the terms of those before it.
use Prim.Native.Nat.{◌+◌, ◌*◌, ◌<◌}
use native.Mathlib.Omega.{arith}
use lib.ListN.{length}
use Rattle.packing.proofs.FactorLaws.{panel-indices}
use Rattle.lines.proofs.GridLaws.{some-ld}
use Rattle.trsm_diagonal.proofs.FactorLaws.{minus_one}
use Rattle.trsm.proofs.ElementLaws.{terms-below, diagonal-low, element-step}
use Rattle.trsm.proofs.solve_element.Goals as goal
use Rattle.trsm.proofs.solve_element.Goals.{After-turn_of-i}

-- the diagonal that is read
diagonal-read : (c : After-turn_of-i) → c.turn_of-i.result * c.args.by.a.ld + c.turn_of-i.result < length c.args.by.a.cells.now
diagonal-read c =
    diagonal-low c.args.by.a.t c.args.by.a.ld c.args.g.m _ c.turn_of-i.result c.requires.by_index c.turn_of-i.ensures.1

pub end_of-requires : goal.end_of-requires
end_of-requires c = diagonal-read (goal.at.end_of-requires c).After-turn_of-i

pub element-requires : goal.element-requires
element-requires c =
    let args = c.args in record {
      room = (c.requires.room, c.turn_of-i.ensures.1, panel-indices args.by.down args.g.m 0 args.j (omega (arith, c.ranges)) (omega arith) (omega arith) c.turn_of-from.ensures.0, terms-below args.by.down args.g.m c.turn_of-from.result args.j c.turn_of-from.ensures.0 (omega arith));
      by_index = c.requires.by_index;
    }

pub returns : goal.returns
returns c =
    let args = c.args in
    element-step args.g.left args.by.down args.g.ld args.g.m args.g.lines args.by.diag args.by.a.t args.by.a.cells.now args.by.a.ld (some-ld args.g.left args.g.ld args.g.m args.g.lines _ (omega (arith, c.requires)) (omega (arith, c.requires)) c.requires.room)
    _ c.end_of.result c.turn_of-i.result args.j c.turn_of-from.result args.b.now _ minus_one c.turn_of-i.ensures.0 c.turn_of-from.ensures.0 c.requires.j_lt_m.0 c.requires.room c.end_of.ensures c.element.ensures
