-- What an iterator over pieces gives: from `at` on, below `stop`, `step` indices at most; `at'` and so on are after it.
use Rattle.std.specs.Prelude.{◌≡◌, ℕ, ◌+◌, ◌-◌, ◌<◌, ◌≤◌, min, Option, None, Some}

abbrev pub piece : ℕ → ℕ → ℕ → Option (ℕ × ℕ) → ℕ → Type 0
piece at stop step None at' = (at ≡ stop) × (at' ≡ at)
piece at stop step (Some p) at' = (p.0 ≡ at) × (p.1 ≡ min step (stop - at)) × (0 < p.1) × (at' ≡ at + p.1) × (at' ≤ stop)

pub record gives (at stop step : ℕ) (r : Option (ℕ × ℕ)) (at' stop' step' : ℕ) : Type 0 where
  pub ends : stop' ≡ stop
  pub steps : step' ≡ step
  pub item : piece at stop step r at'
