-- `bad_cursor` tests the cursor of a run.
use Prim.Native.Nat.{◌+◌, ◌*◌}
use mathlib.Core.Path.{◌≡◌, sym, ap, ◌∙◌}
use mathlib.Core.Bool.{false}
use native.Mathlib.Omega.{arith}
use lib.Dec.{leb, ltb}
use mir.Syntax.{w32}
use mir.ValLaws.{to_z-of_z}
use Rattle.definitions.specs.Check.{nat, negative}
use Rattle.definitions.specs.Machine.{strips_of}
use Rattle.definitions.specs.Sheet.{act}
use Rattle.records.specs.Judgement.{sheet_in, arrays_in}
use Rattle.records.proofs.Trailer.{sound-long, sound-room, cursor-s, cursor-p, cursor-first, cursor-finish, cursor-strip}
use Rattle.records.proofs.Sheet.bad_cursor.Goals as goal
use Rattle.records.proofs.Sheet.bad_cursor.Goals.{Else-negative, Else-negative-2, After-size-q, After-size-t}

not-s : (c : Else-negative) → negative c.args.s ≡ false
not-s c = sym (c.negative.ensures ∙ ap negative (to_z-of_z w32 c.args.s c.ranges.s)) ∙ c.if-negative.false

not-p : (c : Else-negative-2) → negative c.args.p ≡ false
not-p c = sym (c.negative-2.ensures ∙ ap negative (to_z-of_z w32 c.args.p c.ranges.p)) ∙ c.if-negative-2.false

is-p : (c : After-size-q) → c.size-q.result ≡ nat c.args.p
is-p c = c.size-q.ensures ∙ ap nat (to_z-of_z w32 c.args.p c.ranges.p)

is-s : (c : After-size-t) → c.size-t.result ≡ nat c.args.s
is-s c = c.size-t.ensures ∙ ap nat (to_z-of_z w32 c.args.s c.ranges.s)

pub index-index-requires : goal.index-index-requires
index-index-requires c = sound-long (sheet_in c.args.self) c.requires.sound

pub count-count-requires : goal.count-count-requires
count-count-requires c = sound-long (sheet_in c.args.self) c.requires.sound

pub invariant_of-record : goal.invariant_of-record
invariant_of-record c =
    let t = sheet_in c.args.self in
    let room = sound-room t (sound-long t c.requires.sound) c.requires.sound in
    let n = c.count-count.ensures.0 in
    let b = c.if-count-q.false in record {
      placed = (ap (λ i. i + 20 * c.size-q.result) c.index-index.ensures.0, omega (arith, c.index-index.ensures.0, n, b, room), omega (arith, n, b, c.requires.scalars));
    }

pub returns-then-negative : goal.returns-then-negative
returns-then-negative c =
    cursor-s (sheet_in c.args.self) (arrays_in c.args.arrays) c.args.p c.args.s (sym (c.negative.ensures ∙ ap negative (to_z-of_z w32 c.args.s c.ranges.s)) ∙ c.if-negative.true)

pub returns-then-negative-2 : goal.returns-then-negative-2
returns-then-negative-2 c =
    let at = goal.at.returns-then-negative-2 c in
    cursor-p (sheet_in c.args.self) (arrays_in c.args.arrays) c.args.p c.args.s (not-s at.Else-negative)
    (sym (c.negative-2.ensures ∙ ap negative (to_z-of_z w32 c.args.p c.ranges.p)) ∙ c.if-negative-2.true)

pub returns-then-t-eq0 : goal.returns-then-t-eq0
returns-then-t-eq0 c =
    let at = goal.at.returns-then-t-eq0 c in
    (λ i. ltb (c.count-count.ensures.0 i) (is-p at.After-size-q i))
    ∙ cursor-first (sheet_in c.args.self) (arrays_in c.args.arrays) c.args.p c.args.s (not-s at.Else-negative) (not-p at.Else-negative-2) (sym (is-s at.After-size-t) ∙ c.if-t-eq0.true)

pub returns-then-count-q : goal.returns-then-count-q
returns-then-count-q c =
    let at = goal.at.returns-then-count-q c in
    cursor-finish (sheet_in c.args.self) (arrays_in c.args.arrays) c.args.p c.args.s (not-s at.Else-negative) (not-p at.Else-negative-2) (λ z. c.if-t-eq0.false (is-s at.After-size-t ∙ z))
    (omega (arith, c.if-count-q.true, c.count-count.ensures.0, is-p at.After-size-q))

pub returns : goal.returns
returns c =
    let at = goal.at.returns c in
    (λ i. leb ((c.strips_of.ensures ∙ ap (λ q. strips_of (act (sheet_in c.args.self) q (arrays_in c.args.arrays))) (is-p at.After-size-q)) i) (is-s at.After-size-t i))
    ∙ cursor-strip (sheet_in c.args.self) (arrays_in c.args.arrays) c.args.p c.args.s (not-s at.Else-negative) (not-p at.Else-negative-2) (λ z. c.if-t-eq0.false (is-s at.After-size-t ∙ z))
    (omega (arith, c.if-count-q.false, c.count-count.ensures.0, is-p at.After-size-q))
