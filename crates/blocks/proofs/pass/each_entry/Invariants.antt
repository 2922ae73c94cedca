-- `pass::each_entry` meets its contract: the columns below j are done.
use mathlib.Core.Path.{◌≡◌}
use lib.Ieee.{Float}
use Rattle.arrays.specs.Update.{update, region}
use Rattle.blocks.proofs.pass.each_entry.Given as goal

abbrev pub invariant-loop-j : goal.invariant-loop-j
invariant-loop-j g l =
    (h : Float → Float) → ((x r : Float) → goal.F-post g l.f x r → r ≡ h x) → l.c ≡ update (region l.area.ld l.area.rows l.j (λ i j' x. h x)) l.initial.c
