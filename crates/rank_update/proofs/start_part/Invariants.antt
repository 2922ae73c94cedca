-- `rank_update::start_part` makes the start of each element of the strip's part of the triangle: the columns below j are done.
use mathlib.Core.Path.{◌≡◌}
use Rattle.arrays.specs.Update.{update, entries, only, trapezoid}
use Rattle.definitions.specs.Number.{start}
use Rattle.rank_update.proofs.start_part.Given as goal

abbrev pub invariant-loop-j : goal.invariant-loop-j
invariant-loop-j l = l.c ≡ update (entries l.part.ld (only (trapezoid l.part.lower l.part.from l.part.n l.j) (λ i j' x. start l.beta x))) l.initial.c
