-- `groups` meets its contract: the elements of the groups before the next piece are done.
use mathlib.Core.Bool.{true, true≢false}
use mathlib.Core.Path.{refl, sym, ◌∙◌}
use Rattle.arrays.proofs.PieceLaws.{turn, last}
use Rattle.trmm_diagonal.proofs.DoneLaws.{none_done, more-done, all_done}
use native.Mathlib.Omega.{arith}
use Rattle.trmm_diagonal.proofs.groups.Goals as goal

pub loop-j-init : goal.loop-j-init
loop-j-init c = rw c.into_iter-j-iterator.ensures.into_iter_gives (omega arith, tt, c.of-j-items.ensures.1, c.of-j-items.ensures.2, rw c.of-j-items.ensures.0 (none_done _ _ _ _ _ _ _))

pub group-requires : goal.group-requires
group-requires c = let t = turn c.next.ensures.steps c.in-Some.is in omega arith

pub loop-j-preserved : goal.loop-j-preserved
loop-j-preserved c =
    let t = turn c.next.ensures.steps c.in-Some.is in (
      omega arith,
      tt,
      omega arith,
      omega arith,
      rw t.next (more-done _ true _ _ _ _ _ _ _ _ _ _ _ (omega arith) ((λ _. refl), (λ z. absurd (true≢false z))) (rw (sym t.first) at c.loop-j.invariant.4) c.group.ensures (λ q l hl lo hi e. refl)),
    )

pub returns : goal.returns
returns c = let all = last c.next.ensures.steps c.in-None.is ∙ c.loop-j.invariant.2 in all_done _ _ _ _ _ _ _ _ (omega arith) (rw all at c.loop-j.invariant.4)
