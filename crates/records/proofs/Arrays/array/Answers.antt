-- `array` is the array with that number.
use mathlib.Core.Path.{sym, ap}
use native.Mathlib.Omega.{arith}
use Rattle.definitions.specs.Sheet.{array}
use Rattle.records.specs.Judgement.{arrays_in}
use Rattle.records.proofs.Judgements.{array-Z}
use Rattle.records.proofs.Arrays.array.Goals as goal

pub returns-in-0 : goal.returns-in-0
unfolding array
returns-in-0 c = ap (array (arrays_in c.args.self)) (sym c.in-0.is)

pub returns-in-1 : goal.returns-in-1
unfolding array
returns-in-1 c = ap (array (arrays_in c.args.self)) (sym c.in-1.is)

pub returns-in_default : goal.returns-in_default
returns-in_default c = array-Z (arrays_in c.args.self) c.args.n (omega arith)
