-- `eliminate` keeps the progress of the elimination.
use borrow.Author.Rules.{rules}
use mathlib.Core.Path.{◌≡◌, sym, ap, subst, ◌∙◌}
use mathlib.Core.List.{List}
use Prim.Native.Nat.{ℕ, ◌+◌, ◌*◌, ◌≤◌, ◌<◌}
use native.Mathlib.Omega.{arith}
use lib.Arith.{digits_lt}
use lib.IntN.{ℤ, pos, nat_abs}
use lib.ListN.{get_or}
use lib.Signed.{nat_abs-le}
use mir.Syntax.{w64}
use mir.Val.{to_z, of_z}
use mir.ValLaws.{to_z-of_z}
use Rattle.arrays.specs.Update.{update, below}
use Rattle.arrays.proofs.UpdateLaws.{at-update, below_in}
use Rattle.integer_solve.specs.Elimination.{QuotientOf}
use Rattle.std.specs.Prelude.{Option, Some, None}
use Rattle.integer_solve.proofs.Words.{word_fits, same_word}
use Rattle.integer_solve.proofs.Progress.{Progress, progress_start, progress-next, progress-none, progress-end, diagonal-some}
use Rattle.integer_solve.proofs.eliminate.Goals as goal
use Rattle.integer_solve.proofs.eliminate.Goals.{After-divide, After-turn_of-j}

-- the diagonal entry and the remainder of unknown j
within : (c : After-turn_of-j) → let n = c.args.n in c.turn_of-j.result * n + c.turn_of-j.result < n * n
within c =
    digits_lt c.turn_of-j.ensures.1 c.turn_of-j.ensures.1

abbrev divisor : (c : After-turn_of-j) → ℤ
divisor c =
    let g = c.args in get_or g.a.now (c.turn_of-j.result * g.n + c.turn_of-j.result) (pos 0)

abbrev remainder : (c : After-turn_of-j) → ℤ
remainder c =
    get_or c.loop-q.s c.turn_of-j.result (pos 0)

some : (c : After-turn_of-j) → let divisor : ℤ = let g = c.args in get_or g.a.now (c.turn_of-j.result * g.n + c.turn_of-j.result) (pos 0) in
    divisor ≡ pos 0 → ⊥
some c =
    diagonal-some c.args.n c.args.a.now c.requires.4 c.turn_of-j.result c.turn_of-j.ensures.1

quotient : (c : After-divide) → let divisor : ℤ = let g = c.args in get_or g.a.now (c.turn_of-j.result * g.n + c.turn_of-j.result) (pos 0) in
    let remainder : ℤ = get_or c.loop-q.s c.turn_of-j.result (pos 0) in
    (r : Option ℤ) → c.divide.result ≡ r → QuotientOf remainder divisor r
quotient c r e =
    let divisor : ℤ = let g = c.args in get_or g.a.now (c.turn_of-j.result * g.n + c.turn_of-j.result) (pos 0) in
    let remainder : ℤ = get_or c.loop-q.s c.turn_of-j.result (pos 0) in
    subst (QuotientOf remainder divisor) e
    (subst (λ (y : ℤ). QuotientOf y divisor c.divide.result) (to_z-of_z w64 remainder (record { sfits = search rules }))
    (subst (λ (y : ℤ). QuotientOf (to_z w64 (of_z w64 remainder)) y c.divide.result) (same_word divisor (search rules)) c.divide.ensures))

pub loop-q-init : goal.loop-q-init
loop-q-init c =
    let m = c.widen.new.s in
    let b = c.args.b.now in
    let e = subst (λ (n : ℕ). m ≡ update (below n (λ i _. get_or b i (pos 0))) c.args.s.now) c.requires.1 c.widen.ensures.0 in (
      progress_start c.args.down c.args.n c.args.a.now b m c.args.s.now (omega arith) e,
      λ i h.
          let at : get_or m i (pos 0) ≡ get_or b i (pos 0) = ap (λ (l : List ℤ). get_or l i (pos 0)) e ∙ at-update _ c.args.s.now i (pos 0) (omega arith) ∙ below_in _ _ i _ h in
          subst (λ (z : ℤ). nat_abs z ≤ 32768) (sym at) (nat_abs-le (get_or b i (pos 0)) (word_fits (c.widen.ensures.1 i (omega arith)))),
    )

pub divide-requires : goal.divide-requires
divide-requires c = (
  rw (to_z-of_z w64 (remainder (goal.at.divide-requires c).After-turn_of-j) (record { sfits = search rules })) (omega (arith, c.loop-q.invariant.1 c.turn_of-j.result c.turn_of-j.ensures.1)),
  λ e. some (goal.at.divide-requires c).After-turn_of-j (sym (same_word (divisor (goal.at.divide-requires c).After-turn_of-j) (search rules)) ∙ e),
)

pub returns-in_default : goal.returns-in_default
returns-in_default c x v =
    progress-none c.loop-q.invariant.0 c.loop-q-test.true c.turn_of-j.ensures.0 (quotient (goal.at.returns-in_default c).After-divide None c.in_default.is) x v

pub take-requires : goal.take-requires
take-requires c =
    let l = c.loop-q in
    (c.turn_of-j.ensures.1, omega arith, omega arith, omega arith, λ i h. omega (arith, l.invariant.1 i h))

pub loop-q-preserved : goal.loop-q-preserved
loop-q-preserved c =
    let l = c.loop-q in
    let x = c.in-Some.x in
    let q = quotient (goal.at.loop-q-preserved c).After-divide (Some x) c.in-Some.is in (
      progress-next l.invariant.0 c.loop-q-test.true c.turn_of-j.ensures.0 (omega arith) (some (goal.at.loop-q-preserved c).After-turn_of-j) q.0 q.1 (rw (same_word x (word_fits q.0)) at c.take.ensures.0),
      λ i h. omega (arith, l.invariant.1 i h, c.take.ensures.1 i),
    )

pub returns : goal.returns
returns c =
    let l = c.loop-q in
    let g = c.args in
    let e : l.q ≡ g.n = omega arith in
    progress-end (subst (λ (q : ℕ). Progress g.down g.n g.a.now g.b.now q l.s) e l.invariant.0)

pub overflow_mul-j : goal.overflow_mul-j
overflow_mul-j c = omega (arith, within (goal.at.overflow_mul-j c).After-turn_of-j)

pub overflow_add-j : goal.overflow_add-j
overflow_add-j c = omega (arith, within (goal.at.overflow_add-j c).After-turn_of-j)

pub offset_bounds-a-j : goal.offset_bounds-a-j
offset_bounds-a-j c = omega (arith, within (goal.at.offset_bounds-a-j c).After-turn_of-j)

pub bounds-a-j : goal.bounds-a-j
bounds-a-j c = omega (arith, within (goal.at.bounds-a-j c).After-turn_of-j)
