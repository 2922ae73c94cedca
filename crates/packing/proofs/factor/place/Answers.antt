-- `factor::place` meets its contract: a case for each form, and for each side of the diagonal.
use mathlib.Core.Path.{sym}
use native.Mathlib.Omega.{arith}
use Rattle.packing.proofs.FactorLaws.{index-plain, index-transposed, index-lower, index-lower-mirrored, index-upper, index-upper-mirrored}
use Rattle.packing.proofs.factor.place.Goals as goal

pub overflow_mul-result : goal.overflow_mul-result
overflow_mul-result c = omega (arith, index-plain c.args.ld c.args.i c.args.j c.in-Plain.is)

pub overflow_add-result : goal.overflow_add-result
overflow_add-result c = omega (arith, index-plain c.args.ld c.args.i c.args.j c.in-Plain.is)

pub overflow_mul-result-in-Transposed : goal.overflow_mul-result-in-Transposed
overflow_mul-result-in-Transposed c = omega (arith, index-transposed c.args.ld c.args.i c.args.j c.in-Transposed.is)

pub overflow_add-result-in-Transposed : goal.overflow_add-result-in-Transposed
overflow_add-result-in-Transposed c = omega (arith, index-transposed c.args.ld c.args.i c.args.j c.in-Transposed.is)

pub overflow_mul-result-then-j-i : goal.overflow_mul-result-then-j-i
overflow_mul-result-then-j-i c = omega (arith, index-lower c.args.ld c.args.i c.args.j c.in-Lower.is c.if-j-i.true)

pub overflow_add-result-then-j-i : goal.overflow_add-result-then-j-i
overflow_add-result-then-j-i c = omega (arith, index-lower c.args.ld c.args.i c.args.j c.in-Lower.is c.if-j-i.true)

pub overflow_mul-result-else-j-i : goal.overflow_mul-result-else-j-i
overflow_mul-result-else-j-i c = omega (arith, index-lower-mirrored c.args.ld c.args.i c.args.j c.in-Lower.is c.if-j-i.false)

pub overflow_add-result-else-j-i : goal.overflow_add-result-else-j-i
overflow_add-result-else-j-i c = omega (arith, index-lower-mirrored c.args.ld c.args.i c.args.j c.in-Lower.is c.if-j-i.false)

pub overflow_mul-result-then-i-j : goal.overflow_mul-result-then-i-j
overflow_mul-result-then-i-j c = omega (arith, index-upper c.args.ld c.args.i c.args.j c.in-Upper.is c.if-i-j.true)

pub overflow_add-result-then-i-j : goal.overflow_add-result-then-i-j
overflow_add-result-then-i-j c = omega (arith, index-upper c.args.ld c.args.i c.args.j c.in-Upper.is c.if-i-j.true)

pub overflow_mul-result-else-i-j : goal.overflow_mul-result-else-i-j
overflow_mul-result-else-i-j c = omega (arith, index-upper-mirrored c.args.ld c.args.i c.args.j c.in-Upper.is c.if-i-j.false)

pub overflow_add-result-else-i-j : goal.overflow_add-result-else-i-j
overflow_add-result-else-i-j c = omega (arith, index-upper-mirrored c.args.ld c.args.i c.args.j c.in-Upper.is c.if-i-j.false)

pub returns-in-Plain : goal.returns-in-Plain
returns-in-Plain c = sym (index-plain _ _ _ c.in-Plain.is)

pub returns-in-Transposed : goal.returns-in-Transposed
returns-in-Transposed c = sym (index-transposed _ _ _ c.in-Transposed.is)

pub returns-then-j-i : goal.returns-then-j-i
returns-then-j-i c = sym (index-lower _ _ _ c.in-Lower.is c.if-j-i.true)

pub returns-else-j-i : goal.returns-else-j-i
returns-else-j-i c = sym (index-lower-mirrored _ _ _ c.in-Lower.is c.if-j-i.false)

pub returns-then-i-j : goal.returns-then-i-j
returns-then-i-j c = sym (index-upper _ _ _ c.in-Upper.is c.if-i-j.true)

pub returns-else-i-j : goal.returns-else-i-j
returns-else-i-j c = sym (index-upper-mirrored _ _ _ c.in-Upper.is c.if-i-j.false)
