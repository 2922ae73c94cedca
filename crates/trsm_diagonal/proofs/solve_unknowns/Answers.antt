-- `solve_unknowns` solves the unknowns of a diagonal block: the first j have their values, u has what their terms take, and `zero` is the lowest index at which they
-- were divided by zero.
use mathlib.Core.Path.{◌≡◌, refl, sym, ap, ◌∙◌}
use mathlib.Core.Bool.{Bool}
use Rattle.std.specs.Bool.{then_some}
use Rattle.arrays.proofs.SearchLaws.{lower-none}
use lib.ListN.{length}
use Rattle.arrays.specs.Search.{lower}
use Rattle.arrays.proofs.UpdateLaws.{length-update}
use Rattle.forms.specs.Forms.{op_matrix}
use Rattle.trsm_diagonal.specs.Solve.{block_from}
use Rattle.trsm_diagonal.proofs.AcrossLaws.{none-solved, none_kept, one-solved, one_kept, all-solved}
use Rattle.trsm_diagonal.proofs.ZeroLaws.{zero-none, zero-unknown, zero-all}
use native.Mathlib.Omega.{arith}
use Rattle.trsm_diagonal.proofs.solve_unknowns.Goals as goal
use Rattle.trsm_diagonal.proofs.solve_unknowns.Goals.{Joined-found, then-found, else-found}

-- the index is merged where it is one of a zero
merged : (c : Joined-found) → c.if-found.zero ≡ lower c.loop-j.zero (then_some c.solve_unknown-found.result c.turn_of-i.result)
merged c =
    let r = c.loop-j.zero in
    let i = c.turn_of-i.result in
    elim c.if-found.branch [
      | then-found w ↦ w.zero-is ∙ w.lower-zero.ensures ∙ ap (λ (b : Bool). lower r (then_some b i)) (sym w.if-found.true)
      | else-found w ↦ w.zero-is ∙ sym (lower-none r) ∙ ap (λ (b : Bool). lower r (then_some b i)) (sym w.if-found.false)
    ]

pub loop-j-init : goal.loop-j-init
loop-j-init c = (refl, none-solved c.args.g.left c.args.by.down c.args.g.ld c.args.g.m c.args.g.lines c.args.by.diag (block_from c.args.x0 (op_matrix c.args.by.a)) c.args.v.now c.args.s.now c.args.u.now c.requires.m_bound.1 c.requires.room (omega arith, omega arith), none_kept c.args.g.left c.args.by.down c.args.g.ld c.args.g.m c.args.g.lines c.args.by.diag (block_from c.args.x0 (op_matrix c.args.by.a)) c.args.v.now c.args.s.now c.args.u.now c.requires.m_bound.1 c.requires.room (omega arith, omega arith), zero-none c.args.by.down c.args.g.m c.args.by.diag (block_from c.args.x0 (op_matrix c.args.by.a)))

pub loop-j-preserved : goal.loop-j-preserved
loop-j-preserved c =
    let solved = one-solved c.args.g.left c.args.by.down c.args.g.ld c.args.g.m c.args.g.lines c.args.by.diag (block_from c.args.x0 (op_matrix c.args.by.a)) c.args.v.now c.args.s.now c.args.u.now c.requires.m_bound.1 c.requires.room (omega (arith, c.requires), omega (arith, c.requires)) c.loop-j.j c.turn_of-i.result c.loop-j.u c.loop-j.s c.loop-j.invariant.1 c.loop-j.invariant.2 (omega arith) c.turn_of-i.ensures.0 _ c.solve_unknown-found.ensures.0 in
    let kept = one_kept c.args.g.left c.args.by.down c.args.g.ld c.args.g.m c.args.g.lines c.args.by.diag (block_from c.args.x0 (op_matrix c.args.by.a)) c.args.v.now c.args.s.now c.args.u.now c.requires.m_bound.1 c.requires.room (omega (arith, c.requires), omega (arith, c.requires)) c.loop-j.j c.turn_of-i.result c.loop-j.u c.loop-j.s c.loop-j.invariant.1 c.loop-j.invariant.2 (omega arith) c.turn_of-i.ensures.0 _ _ solved c.value_factors.ensures in
    let zero = zero-unknown c.args.by.down c.args.g.m c.args.by.diag (block_from c.args.x0 (op_matrix c.args.by.a)) c.loop-j.j c.turn_of-i.result c.loop-j.zero _ c.solve_unknown-found.result (omega arith) c.turn_of-i.ensures.0 c.loop-j.invariant.3 c.solve_unknown-found.ensures.1 (merged (goal.at.loop-j-preserved c).Joined-found) in
    (ap length solved ∙ length-update _ _, solved, kept, zero)

pub returns : goal.returns
returns c =
    let e : c.loop-j.j ≡ c.args.g.m = omega arith in
    (all-solved c.args.g.left c.args.by.down c.args.g.ld c.args.g.m c.args.g.lines c.args.by.diag (block_from c.args.x0 (op_matrix c.args.by.a)) c.args.v.now c.args.s.now c.args.u.now c.requires.m_bound.1 c.requires.room (omega (arith, c.requires), omega (arith, c.requires)) c.loop-j.s (rw e at c.loop-j.invariant.1), (rw e at c.loop-j.invariant.2), zero-all c.args.by.down c.args.g.m c.args.by.diag (block_from c.args.x0 (op_matrix c.args.by.a)) c.loop-j.zero (rw e at c.loop-j.invariant.3))
