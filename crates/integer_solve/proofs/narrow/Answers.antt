-- `narrow` copies from the front.
use mathlib.Core.Path.{◌∙◌}
use Prim.Native.Nat.{◌<◌}
use native.Mathlib.Omega.{arith}
use lib.IntN.{pos}
use lib.ListN.{get_or}
use lib.Signed.{mag}
use mir.Syntax.{w64}
use mir.ValLaws.{to_z-of_z}
use Rattle.arrays.proofs.UpdateLaws.{below_none, below_more, below_in, update_same}
use Rattle.integer_solve.proofs.Words.{word_fits, fits-64, same_word}
use Rattle.integer_solve.proofs.narrow.Goals as goal
use Rattle.integer_solve.proofs.narrow.Goals.{In-loop-i}

word : (c : In-loop-i) → mag (get_or c.args.s.now c.loop-i.i (pos 0)) < 32768
word c = word_fits (c.requires.1 c.loop-i.i (omega arith))

pub loop-i-init : goal.loop-i-init
loop-i-init c = below_none _ _

pub loop-i-preserved : goal.loop-i-preserved
loop-i-preserved c =
    let l = c.loop-i in
    let a = c.args in
    let w = word (goal.at.loop-i-preserved c).In-loop-i in
    rw (to_z-of_z w64 _ (fits-64 w), same_word _ w) (below_more (pos 0) (λ p _. get_or a.s.now p (pos 0)) a.x.now l.x l.i l.invariant (omega arith))

pub returns : goal.returns
returns c =
    let l = c.loop-i in
    l.invariant ∙ update_same _ _ _ (λ p h z. below_in l.i _ p z (omega arith))
