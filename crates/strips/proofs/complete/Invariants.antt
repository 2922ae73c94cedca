-- `complete` goes through the strips in turn: what stands after each is one strip of all columns, or rows, so far, and it reports what the call does.
use Prim.Native.Nat.{◌<◌, min}
use mathlib.Core.Path.{◌≡◌}
use Rattle.definitions.specs.Element.{zero_of, strip}
use Rattle.strips.proofs.complete.Given as goal

abbrev pub invariant-loop-from : goal.invariant-loop-from
invariant-loop-from l =
    (l.out ≡ strip l.call l.a l.b 0 (min l.from l.d) l.initial.out) × (0 < l.from → l.zero ≡ zero_of l.call.routine l.call l.a)
