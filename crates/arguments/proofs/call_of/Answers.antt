-- `call_of` is the call that the arguments make, field by field.
use Rattle.std.proofs.Common.{arith}
use Rattle.definitions.specs.Check.{call_of}
use Rattle.arguments.proofs.Signed.{word_same}
use Rattle.arguments.proofs.call_of.Goals as goal
use Rattle.arguments.proofs.call_of.Goals.{then-has_m, else-has_m}

pub returns : goal.returns
unfolding call_of
returns c = elim c.if-has_m.branch [ then-has_m w ↦ grind (arith, word_same, w.result-is) | else-has_m w ↦ grind (arith, word_same, w.result-is) ]
