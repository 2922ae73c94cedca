-- `solve_elements` solves the unknowns in order: those below the j-th are done, and `zero` is the lowest index at which they were divided by zero.
use Prim.Native.Nat.{ℕ, ◌+◌, ◌*◌, ◌<◌}
use mathlib.Core.Path.{◌≡◌, sym, ap, subst, ◌∙◌}
use mathlib.Core.Bool.{Bool}
use Rattle.std.specs.Bool.{then_some}
use Rattle.arrays.proofs.SearchLaws.{lower-none}
use native.Mathlib.Omega.{arith}
use lib.ListN.{length}
use Rattle.arrays.specs.Search.{lower}
use Rattle.forms.specs.Forms.{op_matrix}
use Rattle.lines.proofs.GridLaws.{some-ld}
use Rattle.trsm_diagonal.specs.Solve.{front}
use Rattle.trsm_diagonal.proofs.ZeroLaws.{LowestZero, zero-none, zero-unknown, zero-all}
use Rattle.trsm.specs.Steps.{Step}
use Rattle.trsm.proofs.ElementLaws.{diagonal-low, elements-none, elements-all}
use Rattle.trsm.proofs.solve_elements.Goals as goal
use Rattle.trsm.proofs.solve_elements.Goals.{After-turn_of-i, Joined-ends_by_zero, then-ends_by_zero, else-ends_by_zero}

-- what is read of the diagonal
diagonal-read : (c : After-turn_of-i) → c.turn_of-i.result * c.args.by.a.ld + c.turn_of-i.result < length c.args.by.a.cells.now
diagonal-read c =
    diagonal-low c.args.by.a.t c.args.by.a.ld c.args.g.m _ c.turn_of-i.result c.requires.by_index c.turn_of-i.ensures.1

pub loop-j-init : goal.loop-j-init
loop-j-init c =
    let args = c.args in
    (elements-none args.g.left args.by.down args.g.ld args.g.m args.g.lines args.by.diag args.by.a.t args.by.a.cells.now args.by.a.ld (some-ld args.g.left args.g.ld args.g.m args.g.lines _ (omega (arith, c.requires)) (omega (arith, c.requires)) c.requires.room) args.b.now, zero-none args.by.down args.g.m args.by.diag (op_matrix args.by.a))

pub ends_by_zero-requires : goal.ends_by_zero-requires
ends_by_zero-requires c = diagonal-read (goal.at.ends_by_zero-requires c).After-turn_of-i

-- the index is merged where it is one of a zero
merged : (c : Joined-ends_by_zero) → c.if-ends_by_zero.zero ≡ lower c.loop-j.zero (then_some c.ends_by_zero.result c.turn_of-i.result)
merged c =
    let r = c.loop-j.zero in
    let i = c.turn_of-i.result in
    elim c.if-ends_by_zero.branch [
      | then-ends_by_zero w ↦ w.zero-is ∙ w.lower-zero.ensures ∙ ap (λ (b : Bool). lower r (then_some b i)) (sym w.if-ends_by_zero.true)
      | else-ends_by_zero w ↦ w.zero-is ∙ sym (lower-none r) ∙ ap (λ (b : Bool). lower r (then_some b i)) (sym w.if-ends_by_zero.false)
    ]

pub loop-j-preserved : goal.loop-j-preserved
loop-j-preserved c =
    let args = c.args in
    let h = c.loop-j in
    let i = c.turn_of-i.result in (
      λ start k b₀ e. c.solve_element.ensures start k b₀ (h.invariant.0 start k b₀ e),
      zero-unknown args.by.down args.g.m args.by.diag (op_matrix args.by.a) h.j i h.zero _ c.ends_by_zero.result (omega arith) c.turn_of-i.ensures.0 h.invariant.1
          c.ends_by_zero.ensures (merged (goal.at.loop-j-preserved c).Joined-ends_by_zero),
    )

pub returns : goal.returns
returns c =
    let args = c.args in
    let h = c.loop-j in
    let e : h.j ≡ args.g.m = omega arith in (
      elements-all args.g.left args.by.down args.g.ld args.g.m args.g.lines args.by.diag args.by.a.t args.by.a.cells.now args.by.a.ld (some-ld args.g.left args.g.ld args.g.m args.g.lines _ (omega (arith, c.requires)) (omega (arith, c.requires)) c.requires.room) args.b.now h.b
          (subst (λ (j : ℕ). Step args.g.left args.by.down args.g.ld args.g.m args.g.lines args.by.diag (op_matrix args.by.a) (front args.g.m 0) (λ k. front j j (front args.g.m 0 k)) args.b.now h.b) e h.invariant.0),
      zero-all args.by.down args.g.m args.by.diag (op_matrix args.by.a) h.zero (subst (λ (j : ℕ). LowestZero args.by.down args.g.m args.by.diag (op_matrix args.by.a) 0 j h.zero) e h.invariant.1),
    )
