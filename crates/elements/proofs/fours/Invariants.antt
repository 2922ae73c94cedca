-- `fours` meets its contract: the lines below l are done, four in a turn.
use Prim.Native.Nat.{◌-◌, ◌*◌, ◌≤◌}
use Rattle.floats.specs.Array.{at}
use Rattle.packing.specs.Factor.{along}
use Rattle.elements.specs.Sums.{Summed}
use Rattle.elements.proofs.fours.Given as goal

abbrev pub invariant-loop-l : goal.invariant-loop-l
invariant-loop-l l = (l.l ≤ l.g.lines)
    × Summed l.g.left l.g.ld l.g.m l.l l.i l.f.alpha l.f.start l.f.end (λ k. at l.a (along l.run.down l.run.from k * l.sa)) (along l.run.down l.run.from) l.count l.initial.b l.b

abbrev pub decreases-loop-l : goal.decreases-loop-l
decreases-loop-l l = l.g.lines - l.l
