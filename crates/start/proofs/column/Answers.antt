-- `start::column` makes the start of each element, by the cases of beta.
use mathlib.Core.Path.{refl}
use Rattle.arrays.specs.Update.{below}
use Rattle.arrays.proofs.UpdateLaws.{below-keep}
use Rattle.start.proofs.Cases.{cleared, kept, scaled}
use Rattle.start.proofs.column.Goals as goal

pub returns-in-Zero : goal.returns-in-Zero
returns-in-Zero c = cleared (λ h. below c.args.n (λ i x. h x)) _ _ _ c.in-Zero.is c.clear_column.ensures

pub returns-in-One : goal.returns-in-One
returns-in-One c = kept (λ h. below c.args.n (λ i x. h x)) _ _ _ c.in-One.is (below-keep _ _ _ (λ p b x. refl))

pub returns-in-Other : goal.returns-in-Other
returns-in-Other c = scaled (λ h. below c.args.n (λ i x. h x)) _ _ _ _ c.in-Other.is c.scale_column.ensures
