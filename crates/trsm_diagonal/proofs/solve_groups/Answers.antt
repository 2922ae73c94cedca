-- `solve_groups` solves a diagonal block group by group: the unknowns before the next piece have their values, u has what their terms take, and `zero` is the lowest index at which
-- they were divided by zero.
use Rattle.std.proofs.Common.{rules}
use mathlib.Core.Path.{◌≡◌, sym, ap, ◌∙◌}
use mathlib.Core.List.{List}
use Prim.Native.Nat.{ℕ, ◌+◌, ◌*◌, ◌≤◌, ◌<◌, ◌-◌}
use lib.ListN.{length, take, drop}
use lib.Ieee.{Float}
use borrow.Rule.Slice.PartMut.{put_mid, same_len_mid}
use Rattle.arrays.proofs.PieceLaws.{turn, last}
use Rattle.arrays.proofs.PartLaws.{tail-length, column-room, columns-room}
use Rattle.arrays.proofs.SearchLaws.{found-same, mapped}
use Rattle.definitions.specs.Element.{by_zero}
use Rattle.forms.specs.Forms.{op_matrix}
use Rattle.trsm_diagonal.specs.Solve.{block_from}
use Rattle.trsm_diagonal.proofs.AcrossLaws.{none-solved, none_kept, group-done, all-solved}
use Rattle.trsm_diagonal.proofs.ZeroLaws.{zero-none, zero-found, zero_more, zero-all}
use native.Mathlib.Nat.{add_assoc}
use native.Mathlib.Omega.{arith}
use Rattle.trsm_diagonal.proofs.solve_groups.Goals as goal
use Rattle.trsm_diagonal.proofs.solve_groups.Goals.{After-least-y}

-- in a turn: h unknowns from the j-th on, whose elements are those from y on
record Group (j h y n ld lines ls lu : ℕ) : Type 0 where
  some : 0 < h
  few : n ≤ 64
  within : j + h ≤ n
  element : y + h ≤ n
  columns : y * ld + h * ld ≤ n * ld
  column : y * ld + ld ≤ n * ld
  room : n * ld + lines ≤ ls + ld
  u-long : 4096 ≤ lu

group : (c : After-least-y) → Group c.in-Some.j c.in-Some.h c.least-y.result c.args.g.m c.args.g.ld c.args.g.lines (length c.loop-j.s) (length c.loop-j.u)
group c =
    let t = turn c.next.ensures.steps c.in-Some.is in
    record {
      some = t.some;
      few = omega arith;
      within = omega arith;
      element = omega arith;
      columns = columns-room c.args.g.ld c.least-y.result c.in-Some.h c.least-y.ensures.1;
      column = column-room c.args.g.ld (omega (arith, t.some, c.least-y.ensures.1));
      room = omega (arith, c.requires.room);
      u-long = omega arith;
    }

-- what is lent to the group has room for it, when ys has taken the place of its elements
group-room : {j h y n ld lines : ℕ} (s ys u v : List Float) → Group j h y n ld lines (length s) (length u)
    → length ys ≡ length (take (length s - y * ld) (drop (y * ld) s)) → 4096 ≤ length v
    → let c = put_mid (y * ld) (length s - y * ld) s ys in
    (h ≤ 64) × (h * 64 ≤ length (take (length u - j * 64) (drop (j * 64) u))) × (h * 64 + h ≤ length (take (length v - (y * 64 + j)) (drop (y * 64 + j) v)) + 64)
    × (h * ld + lines ≤ length (take (length c - y * ld) (drop (y * ld) c)) + ld) × ((i : ℕ) → i < h → y + i < n)
group-room {y = y} {ld = ld} s ys u v t es lv =
    (omega arith, simp tail-length (omega arith), simp tail-length (omega arith), simp tail-length (omega (arith, same_len_mid (y * ld) (length s - y * ld) s ys es)), λ i hi. omega arith)

pub loop-j-init : goal.loop-j-init
loop-j-init c =
    let args = c.args in
    let none = none-solved args.g.left args.by.down args.g.ld args.g.m args.g.lines args.by.diag (block_from args.x0 (op_matrix args.by.a)) args.v.now args.s.now args.u.now c.requires.m_bound.1 c.requires.room (omega arith, omega arith) in
    let kept = none_kept args.g.left args.by.down args.g.ld args.g.m args.g.lines args.by.diag (block_from args.x0 (op_matrix args.by.a)) args.v.now args.s.now args.u.now c.requires.m_bound.1 c.requires.room (omega arith, omega arith) in
    let zero = zero-none args.by.down args.g.m args.by.diag (block_from args.x0 (op_matrix args.by.a)) in
    rw c.into_iter-j-iterator.ensures.into_iter_gives
    (omega arith, tt, c.of-j-items.ensures.1, c.of-j-items.ensures.2, rw c.of-j-items.ensures.0 none, rw c.of-j-items.ensures.0 kept, rw c.of-j-items.ensures.0 zero)

pub block-requires : goal.block-requires
block-requires c =
    let fits = group (goal.at.block-requires c).After-least-y in
    record {
      room = (omega arith, omega arith, simp tail-length (omega arith));
      rows_bound = (omega arith, omega arith, omega arith, simp tail-length (omega arith));
    }

pub solve_unknowns-z-requires : goal.solve_unknowns-z-requires
solve_unknowns-z-requires c =
    let args = c.args in
    let y = c.least-y.result in
    let r = group-room c.loop-j.s c.block.new.c c.loop-j.u args.v.now (group (goal.at.solve_unknowns-z-requires c).After-least-y) c.block.auto.c c.requires.m_bound.4 in record {
      m_bound = (r.0, c.requires.m_bound.1, c.requires.m_bound.2, r.1, r.2, λ i hi. rw (add_assoc args.x0 y i) (c.requires.m_bound.5 (y + i) (r.4 i hi)));
      room = (c.requires.room.0, r.3);
    }

pub loop-j-preserved : goal.loop-j-preserved
loop-j-preserved c =
    let args = c.args in
    let t = turn c.next.ensures.steps c.in-Some.is in
    let u = group (goal.at.loop-j-preserved c).After-least-y in
    let y = c.least-y.result in
    let h = c.in-Some.h in
    let done = group-done args.g.left args.by.down args.g.ld args.g.m args.g.lines args.by.diag (block_from args.x0 (op_matrix args.by.a)) args.v.now args.s.now args.u.now c.requires.m_bound.1 c.requires.room (omega (arith, c.requires), omega (arith, c.requires)) c.in-Some.j y c.loop-j.u c.loop-j.s (rw (sym t.first) at c.loop-j.invariant.4) (rw (sym t.first) at c.loop-j.invariant.5) h _ u.some u.within c.least-y.ensures.0 c.least-y.ensures.1 c.block.ensures _ (λ i hi. ap (λ (k : ℕ). op_matrix args.by.a k k) (add_assoc args.x0 y i)) _ _ c.solve_unknowns-z.ensures.0 c.solve_unknowns-z.ensures.1 in
    let found = zero-found args.by.down args.g.m args.by.diag (block_from args.x0 (op_matrix args.by.a)) c.in-Some.j h y c.solve_unknowns-z.result _ u.within c.least-y.ensures.0 c.least-y.ensures.1 (found-same _ _ h _ (λ i hi. ap (λ (k : ℕ). by_zero args.by.diag (op_matrix args.by.a k k)) (add_assoc args.x0 y i)) c.solve_unknowns-z.ensures.2) (mapped (λ i. y + i) _ (λ x r p. search rules) _ _ c.map.ensures.cases) in
    let zero = zero_more args.by.down args.g.m args.by.diag (block_from args.x0 (op_matrix args.by.a)) c.in-Some.j (c.in-Some.j + h) c.loop-j.zero _ _ (omega arith) (rw (sym t.first) at c.loop-j.invariant.6) found c.lower-zero.ensures in
    (omega arith, tt, omega arith, omega arith, rw t.next done.0, rw t.next done.1, rw t.next zero)

pub returns : goal.returns
returns c =
    let args = c.args in
    let all = last c.next.ensures.steps c.in-None.is ∙ c.loop-j.invariant.2 in (
      all-solved args.g.left args.by.down args.g.ld args.g.m args.g.lines args.by.diag (block_from args.x0 (op_matrix args.by.a)) args.v.now args.s.now args.u.now c.requires.m_bound.1 c.requires.room (omega (arith, c.requires), omega (arith, c.requires)) c.loop-j.s (rw all at c.loop-j.invariant.4),
      zero-all args.by.down args.g.m args.by.diag (block_from args.x0 (op_matrix args.by.a)) c.loop-j.zero (rw all at c.loop-j.invariant.6),
    )
