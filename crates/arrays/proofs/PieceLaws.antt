-- What a turn over pieces may use: its piece, and where the next one begins.
-- Assumes nothing.
use mathlib.Core.Path.{◌≡◌, subst}
use Prim.Native.Nat.{ℕ, ◌+◌, ◌-◌, ◌≤◌, ◌<◌, min}
use native.Mathlib.Omega.{arith}
use Rattle.std.specs.Prelude.{Option, None, Some}
use Rattle.arrays.specs.Pieces.{gives, piece}

pub record Turn (at stop step j h at' stop' step' : ℕ) : Type 0 where
  pub first : j ≡ at
  pub length : h ≡ min step (stop - at)
  pub some : 0 < h
  pub within : j + h ≤ stop
  pub next : at' ≡ j + h
  pub ends : stop' ≡ stop
  pub steps : step' ≡ step

pub turn : {at stop step j h at' stop' step' : ℕ} {r : Option (ℕ × ℕ)} → gives at stop step r at' stop' step' → r ≡ Some (j, h) → Turn at stop step j h at' stop' step'
turn {at = at} {stop = stop} {step = step} {at' = at'} g e =
    let p = subst (λ r. piece at stop step r at') e g.item in
    record {
      first = p.0;
      length = p.1;
      some = p.2;
      within = omega arith;
      next = omega arith;
      ends = g.ends;
      steps = g.steps;
    }

-- there is no further piece
pub last : {at stop step at' stop' step' : ℕ} {r : Option (ℕ × ℕ)} → gives at stop step r at' stop' step' → r ≡ None → at ≡ stop
last {at = at} {stop = stop} {step = step} {at' = at'} g e = let p = subst (λ r. piece at stop step r at') e g.item in p.0
