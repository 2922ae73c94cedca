-- `pack::pack` meets its contract, however the block is read.
use Rattle.packing.proofs.PackLaws.{placed, mirrored-index, mirrored-block}
use Rattle.packing.specs.Factor.{along}
use native.Mathlib.Omega.{arith}
use Rattle.packing.proofs.pack.pack.Goals as goal

pub plain-requires : goal.plain-requires
plain-requires c = (
  omega arith,
  omega arith,
  omega arith,
  c.requires.4,
  c.requires.5,
  λ y x hy hx. omega (arith, c.requires.6 y x hy hx, c.way_of-way.ensures.columns c.in-Columns.is c.args.a.ld y x hy hx),
)

pub tiles-requires : goal.tiles-requires
tiles-requires c = (
  omega arith,
  omega arith,
  c.requires.4,
  c.requires.5,
  λ y x hy hx. omega (arith, c.requires.6 y x hy hx, c.way_of-way.ensures.rows c.in-Rows.is c.args.a.ld y x hy hx),
)

pub block-requires : goal.block-requires
block-requires c = let w = c.way_of-way.ensures.mirrored c.in-Mirrored.is in record {
  stride_nonzero = (omega arith, omega arith, omega arith, omega (arith, c.requires.4.up w.1), omega (arith, c.requires.5.up w.2));
  by_index = λ y x hy hx. omega (arith, c.requires.6 y x hy hx, mirrored-index c.args.a.form c.args.a.ld c.args.i.from c.args.j.from y x c.is_lower-lower.ensures w);
}

pub returns-in-Columns : goal.returns-in-Columns
returns-in-Columns c = placed _ _ _ _ _ (λ y. along c.args.i.down c.args.i.from y) (λ x. along c.args.j.down c.args.j.from x) _ _ _ c.plain.ensures
    (λ y x hy hx. c.way_of-way.ensures.columns c.in-Columns.is c.args.a.ld y x hy hx)

pub returns-in-Rows : goal.returns-in-Rows
returns-in-Rows c = placed _ _ _ _ _ (λ y. along c.args.i.down c.args.i.from y) (λ x. along c.args.j.down c.args.j.from x) _ _ _ c.tiles.ensures
    (λ y x hy hx. c.way_of-way.ensures.rows c.in-Rows.is c.args.a.ld y x hy hx)

pub returns-in-Mirrored : goal.returns-in-Mirrored
returns-in-Mirrored c = mirrored-block _ _ _ _ _ _ _ _ _ c.is_lower-lower.ensures (c.way_of-way.ensures.mirrored c.in-Mirrored.is) c.block.ensures
