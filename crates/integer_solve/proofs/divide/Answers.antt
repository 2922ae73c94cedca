-- `divide`: a quotient toward zero without a remainder is the one that is asked for, and with a remainder there is none.
use mathlib.Core.Path.{◌≡◌, sym, ap, ◌∙◌}
use mathlib.Core.Bool.{Bool, ◌||◌}
use Prim.Native.Nat.{◌<◌}
use native.Mathlib.Omega.{arith}
use lib.IntN.{ℤ, pos, negsuc}
use lib.Signed.{mag, lt_z, quot_z, rem_z, mag_rem}
use borrow.Author.Tests.{ltb-true, ltb-false}
use mir.Syntax.{w16, w64}
use mir.Val.{SFits, to_z, of_z}
use mir.ValLaws.{to_z-of_z, sfits_le}
use Rattle.integer_solve.proofs.Integers.{mag-abs, quotient-abs, quotient-whole, whole-remainder, product-cancel}
use Rattle.integer_solve.proofs.Words.{word_fits, fits_word, same_word, same-64, zero_bits, range}
use Rattle.integer_solve.proofs.divide.Goals as goal
use Rattle.integer_solve.proofs.divide.Goals.{Else-q, Start}

-- the test of the remainder, behind both tests
no-remainder : (c : Else-q) → rem_z c.args.s c.args.d ≡ pos 0
no-remainder c =
    let remainder-fits : SFits w64 (rem_z c.args.s c.args.d) = sfits_le (mag_rem c.args.s c.args.d) c.ranges.s in
    let tested : of_z w64 (rem_z (to_z w64 (of_z w64 c.args.s)) (to_z w64 (of_z w64 (to_z w16 (of_z w16 c.args.d))))) ≡ 0 = cc in
    zero_bits w64 (rem_z c.args.s c.args.d) (remainder-fits) (rw (same-64 c.args.d c.ranges.d.sfits, to_z-of_z w64 c.args.s c.ranges.s) at tested)

-- the quotient as it is tested, and the test
quotient_is : (c : Start) → to_z w64 (of_z w64 (quot_z (to_z w64 (of_z w64 c.args.s)) (to_z w64 (of_z w64 (to_z w16 (of_z w16 c.args.d)))))) ≡ quot_z c.args.s c.args.d
quotient_is c =
    let quotient_fits : SFits w64 (quot_z c.args.s c.args.d) = let q = quot_z c.args.s c.args.d in record { sfits = omega (arith, mag-abs q, quotient-abs c.args.s c.args.d, c.requires.0) } in
    rw (same-64 c.args.d c.ranges.d.sfits, to_z-of_z w64 c.args.s c.ranges.s) (to_z-of_z w64 _ quotient_fits)

outside : ℤ → Bool
outside q = lt_z q (negsuc 32767) || lt_z (pos 32767) q

inside : (c : Else-q) → mag (quot_z c.args.s c.args.d) < 32768
unfolding outside
inside c =
    let quotient_fits : SFits w64 (quot_z c.args.s c.args.d) = let q = quot_z c.args.s c.args.d in record { sfits = omega (arith, mag-abs q, quotient-abs c.args.s c.args.d, c.requires.0) } in
    let quotient_is : to_z w64 (of_z w64 (quot_z (to_z w64 (of_z w64 c.args.s)) (to_z w64 (of_z w64 (to_z w16 (of_z w16 c.args.d)))))) ≡ quot_z c.args.s c.args.d = rw (same-64 c.args.d c.ranges.d.sfits, to_z-of_z w64 c.args.s c.ranges.s) (to_z-of_z w64 _ quotient_fits) in
    let q = quot_z c.args.s c.args.d in
    omega (arith, ltb-false 32767 (mag q) (sym (range q) ∙ ap outside (sym quotient_is) ∙ c.if-q.false))

pub returns-then-s-divisor-ne0 : goal.returns-then-s-divisor-ne0
returns-then-s-divisor-ne0 c x word h =
    c.if-s-divisor-ne0.true
    (rw (same-64 c.args.d c.ranges.d.sfits, to_z-of_z w64 c.args.s c.ranges.s, whole-remainder c.args.s c.args.d x h))

pub returns-then-q : goal.returns-then-q
unfolding outside
returns-then-q c x word h =
    let same = product-cancel c.args.d x (quot_z c.args.s c.args.d) c.requires.1
    (h ∙ sym (quotient-whole c.args.s c.args.d (whole-remainder c.args.s c.args.d x h))) in
    let out = ap outside (same ∙ sym (quotient_is (goal.at.returns-then-q c).Start)) ∙ c.if-q.true in
    omega (arith, ltb-true 32767 (mag x) (sym (range x) ∙ out), word_fits word)

pub returns : goal.returns
returns c =
    rw (quotient_is (goal.at.returns c).Start, same_word _ (inside (goal.at.returns c).Else-q)) (fits_word (inside (goal.at.returns c).Else-q), quotient-whole c.args.s c.args.d (no-remainder (goal.at.returns c).Else-q))
