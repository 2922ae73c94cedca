-- What tests in turn give: a number, 0 if all are passed.
use Rattle.std.specs.Prelude.{ℕ, ◌≡◌, ◌<◌, ⊤, Result, Ok, Err, eqb, if◌then◌else◌}
use Rattle.arguments.specs.declared.Refusal.{Refusal}

-- The answer to tests that give the number n: a refusal with n, or none if n is 0.
abbrev pub Gives : ℕ → Result ⊤ Refusal → Type 0
Gives n (Ok x) = n ≡ 0
Gives n (Err e) = (n ≡ e.number) × (0 < n)

-- The number of two tests in turn: that of the first, or of the second if the first is passed.
unfoldable pub first_of : ℕ → ℕ → ℕ
first_of n rest = if eqb n 0 then rest else n
