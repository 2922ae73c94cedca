-- `Scalar::factor` is the factor that a scalar stands for.
use lib.Ieee.{of_bits}
use Rattle.definitions.specs.Number.{factor}
use Rattle.definitions.proofs.Scalar.factor.Goals as goal

pub returns-in-Zero : goal.returns-in-Zero
unfolding factor of_bits
returns-in-Zero c = cc

pub returns-in-One : goal.returns-in-One
unfolding factor of_bits
returns-in-One c = cc

pub returns-in-Other : goal.returns-in-Other
unfolding factor of_bits
returns-in-Other c = cc
