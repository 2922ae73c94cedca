-- Where the strips of a call start.
use Rattle.std.specs.Prelude.{ℕ, ◌*◌, if◌then◌else◌}
use Rattle.definitions.specs.Call.{ld_output, cuts_rows}
use Rattle.definitions.specs.declared.Call.{Call}

-- The element of the output's array at which the strip from column `from` on starts, or from row `from` on where strips cut rows.
abbrev pub strip_start : Call → ℕ → ℕ
strip_start c from = if cuts_rows c.routine c.side then from else from * ld_output c
