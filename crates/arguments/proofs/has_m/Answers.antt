-- SYRK and SYR2K have no m.
use Rattle.std.proofs.Common.{arith}
use Rattle.definitions.specs.Call.{has_m}
use Rattle.arguments.proofs.has_m.Goals as goal
use Rattle.arguments.proofs.has_m.Goals.{in-Syrk, in_default}

pub returns : goal.returns
unfolding has_m
returns c = elim c.match-matches.branch [ in-Syrk w ↦ let h = w.in-Syrk in grind arith | in_default w ↦ let h = w.in_default in grind arith ]
