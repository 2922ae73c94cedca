-- A walk over a small triangle.
--     passes  how many passes it makes
use Rattle.std.specs.Prelude.{ℕ, ◌+◌, ◌*◌, ◌/◌}

-- "One walk over a diagonal block of order t then makes exactly t·(t+1)/2 passes" (document 02, K3).
unfoldable pub passes : ℕ → ℕ
passes t = t * (t + 1) / 2
