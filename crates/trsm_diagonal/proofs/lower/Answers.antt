-- `lower` takes the lower of two indices, or the one that there is.
use Rattle.std.proofs.Common.{ap, Some, ◌∙◌}
use Rattle.arrays.specs.Search as Search
use Rattle.trsm_diagonal.proofs.lower.Goals as goal
use Rattle.trsm_diagonal.proofs.lower.Goals.{in_default-via-in-Some+in_default, in_default-via-in_default}

pub returns-in-Some-Some : goal.returns-in-Some-Some
unfolding Search.lower
returns-in-Some-Some c = rw (c.in-Some-Some.is-0, c.in-Some-Some.is-1) (ap Some c.min.ensures)

pub returns-in_default : goal.returns-in_default
unfolding Search.lower
returns-in_default c =
    elim c.in_default.branch [
      | in_default-via-in-Some+in_default w ↦ c.or.ensures ∙ rw (w.in_default.is-0, w.in_default.is-1)
      | in_default-via-in_default w ↦ c.or.ensures ∙ rw w.in_default.is-0
    ]
