-- `widen` copies from the front.
use borrow.Author.Rules.{rules}
use mathlib.Core.Path.{ap, ◌∙◌}
use native.Mathlib.Omega.{arith}
use lib.IntN.{pos}
use lib.ListN.{get_or, set}
use Rattle.arrays.proofs.UpdateLaws.{below_none, below_more}
use Rattle.integer_solve.specs.Equations.{Word}
use Rattle.integer_solve.proofs.Words.{fits_word, same-64, one_more}
use Rattle.integer_solve.proofs.widen.Goals as goal

pub loop-i-init : goal.loop-i-init
loop-i-init c = (below_none _ _, λ p h. let f : ⊥ = omega arith in absurd f)

pub loop-i-preserved : goal.loop-i-preserved
loop-i-preserved c =
    let l = c.loop-i in
    let a = c.args in (
      ap (set l.s l.i) (same-64 _ (search rules)) ∙ below_more (pos 0) (λ p _. get_or a.b.now p (pos 0)) a.s.now l.s l.i l.invariant.0 (omega arith),
      one_more (λ p. Word (get_or a.b.now p (pos 0))) l.i l.invariant.1 (fits_word (search rules)),
    )
