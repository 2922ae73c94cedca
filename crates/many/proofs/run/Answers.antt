-- `run` refuses, or fills the pack area and goes through the items.
use mathlib.Core.Path.{◌≡◌, refl, sym, ap, ◌∙◌}
use Rattle.std.proofs.Common.{◌<◌, arith}
use lib.IntN.{pos}
use lib.ListN.{length}
use mir.Syntax.{w32}
use mir.ValLaws.{to_z-of_z, to_z_pos}
use borrow.Author.Tests.{ne_eqb, eq-eqb}
use Rattle.arrays.specs.Fold.{fold}
use Rattle.arrays.proofs.Tests.{if-true, if-false}
use Rattle.definitions.specs.Element.{result}
use Rattle.definitions.specs.Check.{nat, width}
use Rattle.definitions.specs.Many.{copied, packed, refusal, item}
use Rattle.arguments.proofs.Signed.{same, word_same}
use Rattle.many.proofs.PanelLaws.{nothing-packed}
use Rattle.many.proofs.RunLaws.{fills, prepared, widths}
use Rattle.many.proofs.run.Goals as goal
use Rattle.many.proofs.run.Goals.{After-copied-n, In-Err}

-- the call is not refused, or is with this number
accepted : (c : After-copied-n) → refusal c.args.w c.args.r c.args.g c.args.t (length c.args.pack.now) ≡ 0
accepted c = grind (arith, word_same, c.in_default.ensures)

refused-with : (c : In-Err) → (refusal c.args.w c.args.r c.args.g c.args.t (length c.args.pack.now) ≡ c.in-Err.refusal.number) × (0 < c.in-Err.refusal.number)
refused-with c = grind (arith, word_same, c.in-Err.ensures)

count : (c : After-copied-n) → c.size.result ≡ nat c.args.t.count
count c = same nat c.args.t.count (omega arith) c.size.ensures

strideb : (c : After-copied-n) → c.size-2.result ≡ nat c.args.t.strideb
strideb c = same nat c.args.t.strideb (omega arith) c.size-2.ensures

stridec : (c : After-copied-n) → c.size-3.result ≡ nat c.args.t.stridec
stridec c = same nat c.args.t.stridec (omega arith) c.size-3.ensures

pub returns-in-Err : goal.returns-in-Err
returns-in-Err c =
    let e = refused-with (goal.at.returns-in-Err c).In-Err in
    let refused = ne_eqb (refusal c.args.w c.args.r c.args.g c.args.t (length c.args.pack.now)) 0 (λ z. omega arith) in
    (to_z_pos w32 c.in-Err.refusal.number (omega arith) ∙ ap pos (sym e.0), sym (if-false _ _ 0 refused), sym (if-false _ _ _ refused), nothing-packed _ _ _ _ (if-false _ _ 0 refused))

pub fill-requires : goal.fill-requires
fill-requires c =
    let h = (goal.at.fill-requires c).After-copied-n in
    fills c.args.w c.args.r c.args.g c.args.t _ _ _ _ c.requires (accepted h) _ _ _ _ _ c.call_of-call.ensures (strideb h) (stridec h) (count h) c.copied-n.ensures

pub all-requires : goal.all-requires
all-requires c =
    let h = (goal.at.all-requires c).After-copied-n in record {
      prepared = prepared c.args.w c.args.r c.args.g c.args.t _ _ _ _ c.requires (accepted h) _ _ _ _ _ c.call_of-call.ensures (strideb h) (stridec h) (count h) c.copied-n.ensures _ _ _ refl refl c.fill.ensures;
      w_nonzero = widths c.args.w c.args.r c.args.g c.args.t _ _ _ _ c.requires (accepted h) _ _ (c.width.ensures ∙ ap width (to_z-of_z w32 c.args.w c.ranges.w)) (c.width-2.ensures ∙ ap width (to_z-of_z w32 c.args.r c.ranges.r));
    }

pub returns : goal.returns
returns c =
    let h = (goal.at.returns c).After-copied-n in
    let call = c.call_of-call.ensures in
    let ok = eq-eqb _ 0 (accepted h) in
    let n = c.copied-n.ensures ∙ (λ i. copied (call i) (count h i)) ∙ sym (if-true _ _ 0 ok) in (
      ap pos (sym (accepted h)),
      n,
      c.all.ensures
          ∙ (λ i. fold (item (result (call i) c.args.a.now) (strideb h i) (stridec h i) c.args.b.now) (count h i) c.args.c.now)
          ∙ sym (if-true _ _ _ ok),
      c.fill.ensures ∙ λ i. packed (call i) c.args.a.now (n i) c.args.pack.now,
    )
