-- Which way solving goes, on either side; `low` says that op(A) is lower.
-- Assumes nothing.
use mathlib.Core.Bool.{Bool, not}
use mathlib.Core.Path.{◌≡◌, sym, ap, ◌∙◌}
use Rattle.definitions.specs.Storage.{op_triangle}
use Rattle.definitions.specs.Element.{solves_up}
use Rattle.definitions.specs.declared.Side.{Side}
use Rattle.definitions.specs.declared.Side.TheVariants.{Left, Right}
use Rattle.definitions.specs.declared.Transpose.{Transpose}
use Rattle.definitions.specs.declared.Triangle.{Triangle}
use Rattle.lines.proofs.StripLaws.{other-side}
use Rattle.trsm.specs.Steps.{goes_down}

module _ {side : Side} {low : Bool} (t : Transpose) (uplo : Triangle) (e : low ≡ solves_up Left (op_triangle t uplo)) where
  pub way-left : side ≡ Left → not low ≡ goes_down side t uplo
  unfolding goes_down
  way-left es = ap not e ∙ ap (λ (s : Side). not (solves_up s (op_triangle t uplo))) (sym es)

  pub way-right : side ≡ Right → low ≡ goes_down side t uplo
  unfolding goes_down
  way-right es = e ∙ other-side (op_triangle t uplo) ∙ ap (λ (s : Side). not (solves_up s (op_triangle t uplo))) (sym es)
