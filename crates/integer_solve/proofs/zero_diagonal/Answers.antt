-- `zero_diagonal` searches from the first entry on.
use borrow.Author.Rules.{rules}
use mathlib.Core.Path.{◌≡◌, sym, ap}
use mathlib.Core.Bool.{true, false}
use mathlib.Core.List.{List}
use Prim.Native.Nat.{ℕ, ◌+◌, ◌*◌, ◌<◌}
use native.Mathlib.Omega.{arith}
use lib.Arith.{digits_lt}
use lib.IntN.{ℤ, pos, nat_abs}
use lib.ListN.{get_or}
use borrow.Author.Tests.{lt-ltb, le-ltb, eq-eqb, ne_eqb}
use mir.Syntax.{w16}
use mir.Val.{of_z}
use Rattle.arrays.specs.Search.{lowest, Lowest}
use Rattle.arrays.proofs.SearchLaws.{lowest-only, lowest-none}
use Rattle.definitions.specs.Storage.{stored}
use Rattle.integer_solve.specs.Equations.{zero_diagonal}
use Rattle.integer_solve.proofs.Integers.{abs-zero}
use Rattle.integer_solve.proofs.Words.{fits_16, zero_bits, one_more}
use Rattle.integer_solve.proofs.zero_diagonal.Invariants.{test}
use Rattle.integer_solve.proofs.zero_diagonal.Goals as goal
use Rattle.integer_solve.proofs.zero_diagonal.Goals.{In-loop-i}

-- the entry is in A
within : (c : In-loop-i) → c.loop-i.i * c.args.n + c.loop-i.i < c.args.n * c.args.n
within c =
    digits_lt c.loop-i-test.true c.loop-i-test.true

found : (a : List ℤ) (n i : ℕ) → i < n → ((p : ℕ) → p < i → test a n p ≡ false) → test a n i ≡ true → true ≡ zero_diagonal n a
unfolding zero_diagonal
found a n i h before here =
    let r : Lowest (test a n) n i = record { within = omega arith; passes = λ _. here; before = before } in
    sym (lt-ltb (lowest (test a n) n) n (omega (arith, lowest-only (test a n) n i r)))

not_found : (a : List ℤ) (n : ℕ) → ((p : ℕ) → p < n → test a n p ≡ false) → false ≡ zero_diagonal n a
unfolding zero_diagonal
not_found a n h = sym (le-ltb (lowest (test a n) n) n (omega (arith, lowest-only (test a n) n n (lowest-none (test a n) n h))))

pub returns-then-a-i-eq0 : goal.returns-then-a-i-eq0
unfolding stored
returns-then-a-i-eq0 c =
    let l = c.loop-i in
    let a = c.args in
    let z = get_or a.a.now (l.i * a.n + l.i) (pos 0) in
    found a.a.now a.n l.i (omega arith) l.invariant (eq-eqb (nat_abs z) 0 (ap nat_abs (zero_bits w16 z (fits_16 (search rules)) c.if-a-i-eq0.true)))

pub loop-i-preserved : goal.loop-i-preserved
unfolding stored
loop-i-preserved c =
    let l = c.loop-i in
    let a = c.args in
    let z = get_or a.a.now (l.i * a.n + l.i) (pos 0) in
    let here = ne_eqb (nat_abs z) 0 (λ h. c.if-a-i-eq0.false (ap (λ (x : ℤ). of_z w16 x) (abs-zero z h))) in
    one_more (λ p. test a.a.now a.n p ≡ false) l.i l.invariant here

pub returns : goal.returns
returns c =
    let l = c.loop-i in
    let a = c.args in
    not_found a.a.now a.n (λ p h. l.invariant p (omega arith))
