-- `start::region` makes the start of each element, by the cases of beta.
use mathlib.Core.Path.{refl}
use Rattle.arrays.specs.Update.{region}
use Rattle.arrays.proofs.RegionLaws.{region-keep}
use Rattle.start.proofs.Cases.{cleared, kept, scaled}
use Rattle.start.proofs.region.Goals as goal

pub returns-in-Zero : goal.returns-in-Zero
returns-in-Zero c = cleared (λ h. region c.args.area.ld c.args.area.rows c.args.area.cols (λ i j x. h x)) _ _ _ c.in-Zero.is c.clear.ensures

pub returns-in-One : goal.returns-in-One
returns-in-One c = kept (λ h. region c.args.area.ld c.args.area.rows c.args.area.cols (λ i j x. h x)) _ _ _ c.in-One.is (region-keep _ _ _ _ _ (λ i j r c x. refl))

pub returns-in-Other : goal.returns-in-Other
returns-in-Other c = scaled (λ h. region c.args.area.ld c.args.area.rows c.args.area.cols (λ i j x. h x)) _ _ _ _ c.in-Other.is c.scale.ensures
