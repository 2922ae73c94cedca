-- `complete` goes through the strips in turn: what stands after each is one strip of all columns, or rows, so far, and it reports what the call does.
use Prim.Native.Nat.{◌+◌, min}
use mathlib.Core.Path.{◌≡◌, sym, ap, ◌∙◌}
use mir.Syntax.{w32}
use mir.ValLaws.{to_z-of_z}
use Rattle.definitions.specs.Element.{strip}
use Rattle.definitions.proofs.Strips.{strip-none}
use Rattle.strips.proofs.Lent.{some-lines, strip-next, strips-end}
use native.Mathlib.Omega.{arith}
use Rattle.strips.proofs.complete.Goals as goal

pub loop-from-init : goal.loop-from-init
loop-from-init c =
    let none : min 0 c.extent-d.result ≡ 0 = omega arith in
    (sym (ap (λ n. strip c.args.call c.args.a.now c.args.b.now 0 n c.args.out.now) none ∙ strip-none _ _ _ 0 _), λ h. let f : ⊥ = omega arith in absurd f)

pub loop-from-preserved : goal.loop-from-preserved
loop-from-preserved c = (
  strip-next c.args.call _ _ _ _ _ _ _ _ _ _ _ _ c.requires.fits_arrays (omega arith) (omega arith) (omega arith) c.loop-from.invariant.0 c.strip-zero.ensures.0,
  λ _. to_z-of_z w32 c.strip-zero.result (record { sfits = c.strip-zero.type_inv }) ∙ c.strip-zero.ensures.1,
)

pub returns : goal.returns
returns c = (
  strips-end c.args.call _ _ _ _ _ (omega (arith, c.extent-d.ensures.0)) c.loop-from.invariant.0,
  c.loop-from.invariant.1 (omega (arith, c.extent-d.ensures.0, some-lines c.args.call _ _ _ c.requires.fits_arrays)),
)

pub returns-2 : goal.returns-2
returns-2 c = (
  strips-end c.args.call _ _ (min (c.loop-from.from + c.at_once-most.result) c.extent-d.result) _ _ (omega (arith, c.extent-d.ensures.0))
      (strip-next c.args.call _ _ _ _ _ _ _ _ _ _ _ _ c.requires.fits_arrays (omega arith) (omega arith) (omega arith) c.loop-from.invariant.0 c.strip-zero.ensures.0),
  to_z-of_z w32 c.strip-zero.result (record { sfits = c.strip-zero.type_inv }) ∙ c.strip-zero.ensures.1,
)
