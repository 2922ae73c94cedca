-- `put` lends the output's array for writing and the other two for reading.
use mathlib.Core.Path.{◌≡◌, ◌∙◌}
use mathlib.Core.List.{[]}
use native.Mathlib.Omega.{arith}
use mir.Syntax.{w32}
use mir.ValLaws.{to_z-of_z}
use Rattle.definitions.specs.Sheet.{with_array}
use Rattle.records.specs.Judgement.{arrays_of}
use Rattle.sheet.proofs.Strips.{lent_inside, lent_fits, comes_back, report_is}
use Rattle.sheet.proofs.put.Goals as goal
use Rattle.sheet.proofs.put.Goals.{In_default}

last : (c : In_default) → c.args.m.out.array ≡ 2
last c = omega (arith, c.requires.lends.out-array)

pub lend-requires-clause-off_in_bounds : goal.lend-requires-clause-off_in_bounds
unfolding with_array
lend-requires-clause-off_in_bounds c = lent_inside c.args.call c.args.m 0 c.in-0.is (arrays_of [] c.args.y.now c.args.z.now) c.args.x.now c.requires.lends

pub lend-requires-clause-fits_arrays : goal.lend-requires-clause-fits_arrays
unfolding with_array
lend-requires-clause-fits_arrays c = lent_fits c.args.call c.args.m 0 c.in-0.is (arrays_of [] c.args.y.now c.args.z.now) c.args.x.now c.requires.lends

pub returns-in-0 : goal.returns-in-0
unfolding with_array
returns-in-0 c = (
  comes_back c.args.call c.args.m 0 c.in-0.is (arrays_of [] c.args.y.now c.args.z.now) c.args.x.now c.requires.lends c.args.from _ _ c.lend.ensures.0,
  to_z-of_z w32 c.lend.result (record { sfits = c.lend.type_inv }) ∙ c.lend.ensures.1 ∙ report_is c.args.call c.args.m 0 c.in-0.is (arrays_of [] c.args.y.now c.args.z.now) c.args.x.now c.requires.lends,
)

pub lend-requires-in-1-clause-off_in_bounds : goal.lend-requires-in-1-clause-off_in_bounds
unfolding with_array
lend-requires-in-1-clause-off_in_bounds c = lent_inside c.args.call c.args.m 1 c.in-1.is (arrays_of c.args.x.now [] c.args.z.now) c.args.y.now c.requires.lends

pub lend-requires-in-1-clause-fits_arrays : goal.lend-requires-in-1-clause-fits_arrays
unfolding with_array
lend-requires-in-1-clause-fits_arrays c = lent_fits c.args.call c.args.m 1 c.in-1.is (arrays_of c.args.x.now [] c.args.z.now) c.args.y.now c.requires.lends

pub returns-in-1 : goal.returns-in-1
unfolding with_array
returns-in-1 c = (
  comes_back c.args.call c.args.m 1 c.in-1.is (arrays_of c.args.x.now [] c.args.z.now) c.args.y.now c.requires.lends c.args.from _ _ c.lend-in-1.ensures.0,
  to_z-of_z w32 c.lend-in-1.result (record { sfits = c.lend-in-1.type_inv }) ∙ c.lend-in-1.ensures.1 ∙ report_is c.args.call c.args.m 1 c.in-1.is (arrays_of c.args.x.now [] c.args.z.now) c.args.y.now c.requires.lends,
)

pub lend-requires-in_default-clause-off_in_bounds : goal.lend-requires-in_default-clause-off_in_bounds
unfolding with_array
lend-requires-in_default-clause-off_in_bounds c = lent_inside c.args.call c.args.m 2 (last (goal.at.lend-requires-in_default-clause-off_in_bounds c).In_default) (arrays_of c.args.x.now c.args.y.now []) c.args.z.now c.requires.lends

pub lend-requires-in_default-clause-fits_arrays : goal.lend-requires-in_default-clause-fits_arrays
unfolding with_array
lend-requires-in_default-clause-fits_arrays c = lent_fits c.args.call c.args.m 2 (last (goal.at.lend-requires-in_default-clause-fits_arrays c).In_default) (arrays_of c.args.x.now c.args.y.now []) c.args.z.now c.requires.lends

pub returns-in_default : goal.returns-in_default
unfolding with_array
returns-in_default c = (
  comes_back c.args.call c.args.m 2 (last (goal.at.returns-in_default c).In_default) (arrays_of c.args.x.now c.args.y.now []) c.args.z.now c.requires.lends c.args.from _ _ c.lend-in_default.ensures.0,
  to_z-of_z w32 c.lend-in_default.result (record { sfits = c.lend-in_default.type_inv }) ∙ c.lend-in_default.ensures.1 ∙ report_is c.args.call c.args.m 2 (last (goal.at.returns-in_default c).In_default) (arrays_of c.args.x.now c.args.y.now []) c.args.z.now c.requires.lends,
)
