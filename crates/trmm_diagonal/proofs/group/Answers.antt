-- `group` meets its contract: the small triangle and the terms on one side of it, in order, are the terms of the group's elements.
use mathlib.Core.Path.{refl}
use Rattle.trmm_diagonal.proofs.WalkLaws.{group-after, group-before}
use Rattle.trmm_diagonal.proofs.group.Goals as goal

pub returns-then-after : goal.returns-then-after
returns-then-after c = let p = c.requires in
    group-after _ _ _ _ _ _ _ _ p.2 p.0 p.3 p.4 _ _ _ c.if-after.true refl c.walk.ensures c.block.ensures

pub returns : goal.returns
returns c = let p = c.requires in
    group-before _ _ _ _ _ _ _ _ p.2 p.0 p.3 p.4 _ _ _ c.if-after.false refl c.block-2.ensures c.walk-2.ensures
