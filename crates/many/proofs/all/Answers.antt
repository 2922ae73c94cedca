-- `all` goes through the items over the panel, if there is something to do.
use mathlib.Core.Path.{◌≡◌, sym, ap, ◌∙◌}
use native.Mathlib.Omega.{arith}
use Prim.Native.Nat.{ℕ}
use lib.ListN.{length, take}
use Rattle.std.specs.Prelude.{if◌then◌else◌}
use Rattle.arrays.specs.Fold.{fold}
use Rattle.definitions.specs.Element.{result}
use Rattle.definitions.specs.Many.{item}
use Rattle.many.specs.Panel.{panel_of, Prepared}
use Rattle.many.proofs.PanelLaws.{items-over-panel, items-idle}
use Rattle.many.proofs.all.Goals as goal
use Rattle.many.proofs.all.Goals.{After-panel-p, Else-is_idle, then-s-eq0-via-then-s-eq0, then-s-eq0-via-else-s-eq0+then-is_idle}

prepared : (c : Else-is_idle) → let s = c.args in
    Prepared s.call s.own s.a.now s.pack.now (length s.b.now) (length s.c.now) s.s.b s.s.c s.s.count
prepared c =
    c.requires.prepared (omega (arith, c.if-s-eq0.false)) (sym c.is_idle.ensures ∙ c.if-is_idle.false)

-- the panel
part : (c : After-panel-p) → let s = c.args in c.panel-p.result.now ≡ panel_of s.call s.own s.a.now s.pack.now
part c =
    let s = c.args in
    c.panel-p.ensures ∙ ap (λ (n : ℕ). take n (if s.own then s.a.now else s.pack.now)) c.panel_size.ensures

pub returns-then-s-eq0 : goal.returns-then-s-eq0
unfolding fold
returns-then-s-eq0 c =
    let s = c.args in
    elim c.then-s-eq0.branch [
      | then-s-eq0-via-then-s-eq0 w ↦ sym (ap (λ (n : ℕ). fold (item (result s.call s.a.now) s.s.b s.s.c s.b.now) n s.c.now) w.if-s-eq0.true)
      | then-s-eq0-via-else-s-eq0+then-is_idle w ↦ sym (items-idle _ _ _ _ _ _ _ (sym w.is_idle.ensures ∙ w.if-is_idle.true))
    ]

pub returns : goal.returns
returns c =
    c.items.ensures
    ∙ items-over-panel _ _ _ _ _ _ _ _ _ _ _ _ _ (prepared (goal.at.returns c).Else-is_idle) c.over_panel.ensures (part (goal.at.returns c).After-panel-p)
