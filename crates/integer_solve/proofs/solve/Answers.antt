-- `solve` tests, eliminates, and writes X once all of it is known.
use mathlib.Core.Path.{◌≡◌, refl, ◌∙◌}
use mathlib.Core.Bool.{Bool, true, false}
use Prim.Native.Nat.{◌*◌, ◌≤◌}
use Rattle.std.proofs.Common.{arith}
use lib.ListN.{length}
use Rattle.arrays.proofs.Tests.{or_left}
use Rattle.definitions.specs.Check.{nat, uplo_of}
use Rattle.arguments.proofs.Signed.{same, word_same}
use Rattle.integer_solve.specs.Equations.{zero_diagonal, refusal}
use Rattle.integer_solve.specs.Elimination.{Eliminated}
use Rattle.integer_solve.proofs.Numbers.{order-within, lengths-fit, passed}
use Rattle.integer_solve.proofs.Progress.{eliminated-solves}
use Rattle.integer_solve.proofs.solve.Goals as goal
use Rattle.integer_solve.proofs.solve.Goals.{In_default, After-eliminate-found}

-- a call that passes the tests
accepted : (c : In_default) → let g = c.args in refusal g.uplo g.n g.a.now (length g.b.now) (length g.x.now) ≡ 0
accepted c = grind (arith, word_same, c.in_default.ensures)

fitting : (c : In_default) → let g = c.args in
    (nat g.n ≤ 64) × (length g.a.now ≡ nat g.n * nat g.n) × (length g.b.now ≡ nat g.n) × (length g.x.now ≡ nat g.n) × (zero_diagonal (nat g.n) g.a.now ≡ false)
fitting c =
    let g = c.args in
    let h = passed g.uplo g.n g.a.now (length g.b.now) (length g.x.now) (accepted c) in
    let l = lengths-fit (nat g.n) (length g.a.now) (length g.b.now) (length g.x.now) h.1 in
    (order-within g.n (or_left _ _ h.0), l.0, l.1, l.2, h.2)

-- what the elimination says, of the triangle and the order that were given
told : (c : After-eliminate-found) → length c.args.b.now ≡ nat c.args.n → (r : Bool) → c.eliminate-found.result ≡ r → let g = c.args in
    Eliminated (uplo_of g.uplo) (nat g.n) g.a.now g.b.now c.eliminate-found.new.s r
told c order r e =
    let g = c.args in
    let t = c.backward-down.ensures ∙ same uplo_of g.uplo c.ranges.uplo.sfits c.uplo_of.ensures in
    rw (t, order, e) at c.eliminate-found.ensures

pub returns-in-Err : goal.returns-in-Err
returns-in-Err c = (grind (arith, word_same, c.in-Err.ensures), grind (arith, c.in-Err.ensures), refl)

pub eliminate-found-requires : goal.eliminate-found-requires
eliminate-found-requires c =
    let h = fitting (goal.at.eliminate-found-requires c).In_default in (
      omega (arith, h.0, h.2),
      refl,
      omega (arith, h.0, h.2),
      rw h.2 h.1,
      rw h.2 h.4,
    )

pub narrow-requires : goal.narrow-requires
narrow-requires c =
    let h = fitting (goal.at.narrow-requires c).In_default in
    (omega (arith, h.0, h.3), λ i b. (told (goal.at.narrow-requires c).After-eliminate-found h.2 true c.if-not-found.false).0 i (omega (arith, h.3)))

pub returns-then-not-found : goal.returns-then-not-found
returns-then-not-found c =
    let h = goal.at.returns-then-not-found c in (
      accepted h.In_default,
      told h.After-eliminate-found (fitting h.In_default).2 false c.if-not-found.true,
      refl,
    )

pub returns : goal.returns
returns c =
    let g = c.args in
    let h = goal.at.returns c in (
      accepted h.In_default,
      eliminated-solves (uplo_of g.uplo) (nat g.n) g.a.now g.b.now _ g.x.now _ (told h.After-eliminate-found (fitting h.In_default).2 true c.if-not-found.false) (fitting h.In_default).3 c.narrow.ensures,
    )
