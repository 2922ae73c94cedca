-- `op_lower` meets its contract.
use mathlib.Core.Path.{refl}
use Rattle.definitions.specs.Storage.{op_triangle}
use Rattle.definitions.specs.Element.{solves_up}
use Rattle.forms.proofs.op_lower.Goals as goal

pub returns-in-No-Lower : goal.returns-in-No-Lower
unfolding solves_up op_triangle
returns-in-No-Lower c = rw (c.in-No-Lower.is-0, c.in-No-Lower.is-1) refl

pub returns-in-No-Upper : goal.returns-in-No-Upper
unfolding solves_up op_triangle
returns-in-No-Upper c = rw (c.in-No-Upper.is-0, c.in-No-Upper.is-1) refl

pub returns-in-Yes-Lower : goal.returns-in-Yes-Lower
unfolding solves_up op_triangle
returns-in-Yes-Lower c = rw (c.in-Yes-Lower.is-0, c.in-Yes-Lower.is-1) refl

pub returns-in-Yes-Upper : goal.returns-in-Yes-Upper
unfolding solves_up op_triangle
returns-in-Yes-Upper c = rw (c.in-Yes-Upper.is-0, c.in-Yes-Upper.is-1) refl
