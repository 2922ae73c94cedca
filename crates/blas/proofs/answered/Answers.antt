-- `blas::answered` does what the answer of the check means.
use Prim.Native.Nat.{◌≤◌}
use mathlib.Core.Path.{◌∙◌}
use native.Mathlib.Omega.{arith}
use mir.Syntax.{w32}
use mir.ValLaws.{to_z-of_z, to_z_pos}
use Rattle.blas.proofs.Answers.{when-refused, when-idle, when-ready}
use Rattle.blas.proofs.answered.Goals as goal
use Rattle.blas.proofs.answered.Goals.{In-Refused}

-- the number of a refusal
small : (c : In-Refused) → c.in-Refused.number ≤ 30
small c =
    c.requires.by_index _ c.in-Refused.is

pub complete-requires : goal.complete-requires
complete-requires c =
    let h = c.requires.fits_arrays _ c.in-Ready.is in record {
      fits_arrays = h.0;
      w_nonzero = omega (arith, h);
    }

pub returns-in-Refused : goal.returns-in-Refused
returns-in-Refused c =
    let n = to_z_pos w32 c.in-Refused.number (omega (arith, small (goal.at.returns-in-Refused c).In-Refused)) in
    let h = when-refused _ _ _ _ _ c.in-Refused.is in
    (n ∙ h.0, h.1, h.2)

pub returns-in-Idle : goal.returns-in-Idle
returns-in-Idle c = when-idle _ _ _ _ c.in-Idle.is

pub returns-in-Ready : goal.returns-in-Ready
returns-in-Ready c =
    let h = when-ready _ _ _ _ _ _ _ c.in-Ready.is c.complete.ensures in
    (h.0, h.1, to_z-of_z w32 c.complete.result (record { sfits = c.complete.type_inv }) ∙ h.2)
