-- `subtract` goes from lo on; the remainder that it takes a term from is still as it was.
use borrow.Author.Rules.{rules}
use mathlib.Core.Path.{◌≡◌, ap, subst, ◌∙◌}
use Prim.Native.Nat.{◌+◌, ◌≤◌}
use native.Mathlib.Omega.{arith}
use lib.IntN.{pos, nat_abs}
use lib.ListN.{get_or, set}
use mir.Syntax.{w16, w64}
use mir.Val.{to_z, of_z}
use mir.ValLaws.{to_z-of_z}
use Rattle.arrays.specs.Update.{update, below}
use Rattle.arrays.proofs.UpdateLaws.{below-keep, below-yet, below_more}
use Rattle.integer_solve.specs.Elimination.{term, less_term}
use Rattle.integer_solve.proofs.Words.{same_word, grown-set, term-before, term-from}
use Rattle.integer_solve.proofs.subtract.Goals as goal
use Rattle.integer_solve.proofs.subtract.Goals.{In-loop-i}

-- the remainder as the loop found it
untouched : (c : In-loop-i) → get_or c.loop-i.s c.loop-i.i (pos 0) ≡ get_or c.args.s.now c.loop-i.i (pos 0)
untouched c =
    below-yet (pos 0) _ _ _ _ c.loop-i.invariant.0 (omega arith)

pub loop-i-init : goal.loop-i-init
loop-i-init c =
    (below-keep _ _ _ (λ p h z. term-before _ _ _ _ _ z h), λ p. omega arith)

pub less-requires : goal.less-requires
less-requires c =
    rw (to_z-of_z w64 (get_or c.loop-i.s c.loop-i.i (pos 0)) (record { sfits = search rules }), untouched (goal.at.less-requires c).In-loop-i) (c.requires.3 c.loop-i.i (omega arith))

pub loop-i-preserved : goal.loop-i-preserved
loop-i-preserved c =
    let l = c.loop-i in
    let a = c.args in
    let kept = to_z-of_z w64 (get_or l.s l.i (pos 0)) (record { sfits = search rules }) in
    let same = to_z-of_z w64 c.less.result (record { sfits = c.less.type_inv }) in
    let new : c.less.result ≡ less_term a.a.now a.at (to_z w16 (of_z w16 a.x)) a.lo l.i (get_or l.s l.i (pos 0)) =
    c.less.ensures.0
    ∙ rw (kept, same_word (get_or a.a.now (a.at + l.i) (pos 0)) (search rules), term-from a.a.now a.at (to_z w16 (of_z w16 a.x)) a.lo l.i (get_or l.s l.i (pos 0)) (omega arith)) in
    let size : nat_abs c.less.result ≤ nat_abs (get_or a.s.now l.i (pos 0)) + term = rw (kept, untouched (goal.at.loop-i-preserved c).In-loop-i) at c.less.ensures.1 in
    rw same (
      ap (set l.s l.i) new ∙ below_more (pos 0) (less_term a.a.now a.at (to_z w16 (of_z w16 a.x)) a.lo) a.s.now l.s l.i l.invariant.0 (omega arith),
      grown-set a.s.now l.s l.i c.less.result l.invariant.1 (omega arith) size,
    )

pub returns : goal.returns
returns c =
    let l = c.loop-i in
    let a = c.args in
    let e : l.i ≡ a.hi = omega arith in (
      subst (λ k. l.s ≡ update (below k (less_term a.a.now a.at a.x a.lo)) a.s.now) e
          (rw (same_word a.x c.ranges.x.sfits) at l.invariant.0),
      l.invariant.1,
    )
