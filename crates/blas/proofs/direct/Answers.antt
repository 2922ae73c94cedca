-- `blas::direct` checks the arguments, and does what the answer means.
use Rattle.std.proofs.Common.{arith}
use mathlib.Core.Path.{◌≡◌}
use Rattle.definitions.specs.Check.{width, checked}
use Rattle.arguments.proofs.Signed.{same, word_same}
use Rattle.blas.proofs.Answers.{small, goes_on, is-solved}
use Rattle.blas.proofs.direct.Goals as goal
use Rattle.blas.proofs.direct.Goals.{After-check-answer}

answer : (c : After-check-answer) → c.check-answer.result ≡ checked c.args.w c.args.r c.args.g
answer c = grind (arith, word_same)

pub answered-requires : goal.answered-requires
answered-requires c =
    let p = c.args in
    let e = answer (goal.at.answered-requires c).After-check-answer in record {
      by_index = small p.w p.r p.g _ e;
      fits_arrays =
          goes_on p.w p.r p.g _ e _ _ _ _ _ c.requires.0 c.requires.1 c.requires.2 (same width p.w c.ranges.w.sfits c.width.ensures) (same width p.r c.ranges.r.sfits c.width-2.ensures);
    }

pub returns : goal.returns
returns c = is-solved c.args.w c.args.r c.args.g _ (answer (goal.at.returns c).After-check-answer) _ _ _ _ _ _ c.answered.ensures
