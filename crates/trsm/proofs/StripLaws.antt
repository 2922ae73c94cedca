-- Lines that are solved are TRSM's strip, on either side.
-- Assumes nothing.
use mathlib.Core.Bool.{Bool, true, false}
use mathlib.Core.Path.{◌≡◌, refl, sym, ap, subst, ◌∙◌}
use mathlib.Core.List.{List}
use Prim.Native.Nat.{ℕ, ◌+◌, ◌*◌, ◌<◌, ◌≤◌}
use lib.Ieee.{Float, nan}
use Rattle.arrays.specs.Update.{update}
use Rattle.floats.specs.Array.{at}
use Rattle.definitions.specs.Storage.{stored, op}
use Rattle.definitions.specs.Call.{by_side, in_place, order, in_triangle}
use Rattle.definitions.specs.Element.{value, StripOf}
use Rattle.definitions.specs.declared.Routine.TheVariants.{Trsm}
use Rattle.definitions.specs.declared.Side.{Side}
use Rattle.definitions.specs.declared.Side.TheVariants.{Left, Right}
use Rattle.definitions.specs.declared.Call.{Call}
use Rattle.packing.specs.Factor.{Matrix, entry_of}
use Rattle.forms.specs.Forms.{op_form}
use Rattle.forms.proofs.Entries.{op-entry}
use Rattle.lines.specs.Lines.{cell, grid}
use Rattle.lines.proofs.StripLaws.{left-entry, right-entry, left-strip, right-strip}
use Rattle.trsm.specs.Steps.{goes_down, line_value}
use Rattle.trsm.proofs.ValueLaws.{is_left, value_of}

module _ (c : Call) (a b : List Float) (from lines : ℕ) (down : Bool) (old ys : List Float) (e : c.routine ≡ Trsm) (way : down ≡ goes_down c.side c.transa c.uplo)
    (some : 0 < c.m) (fit : c.m ≤ c.ldb) where
  abbrev T : Matrix
  T = entry_of (op_form c.transa) a c.lda

  -- a line's value, by the side
  valued : (s : Side) (l : List Float) (i j x : ℕ) (y : Float) (line : ℕ → Float) → c.side ≡ s → x ≡ by_side s i j → x < by_side s c.m c.n
      → ((p : ℕ) → line p ≡ by_side s (stored nan l c.ldb p j) (stored nan l c.ldb i p))
      → line_value (is_left s) down (by_side s c.m c.n) c.diag c.alpha T line x ≡ value Trsm c a l i j y
  unfolding value order
  valued s l i j x y line es ex hx same =
      (λ t. line_value (is_left (es' t)) (way t) (by_side (es' t) c.m c.n) c.diag c.alpha (op' t) (λ p. line' p t) x)
      ∙ value_of c a (stored nan l c.ldb) i j x y (ex ∙ ap (λ (s : Side). by_side s i j) es') (subst (λ (s : Side). x < by_side s c.m c.n) es' hx)
    where
      es' : s ≡ c.side
      es' = sym es

      op' : T ≡ op c.transa (stored nan a c.lda)
      op' = sym (op-entry c.transa a c.lda)

      line' : (p : ℕ) → line p ≡ by_side c.side (stored nan l c.ldb p j) (stored nan l c.ldb i p)
      line' p = same p ∙ ap (λ (s : Side). by_side s (stored nan l c.ldb p j) (stored nan l c.ldb i p)) es'

  pub left_is : c.side ≡ Left → from + lines ≤ c.n
      → ys ≡ update (grid true c.ldb c.m lines (λ i l _. line_value true down c.m c.diag c.alpha T (λ p. at old (cell true c.ldb p l)) i)) old
      → StripOf c a b from (from + lines) (by_side c.side (from * c.ldb) from) old ys
  unfolding by_side in_place in_triangle
  left_is es within ey =
      subst (λ (s : Side). StripOf c a b from (from + lines) (by_side s (from * c.ldb) from) old ys) (sym es)
      (left-strip c a b from lines Trsm e refl (λ i j. refl) some fit es within _ old ys ey
      (λ l eo i j hi hj y. valued Left l i (from + j) i y _ es refl hi (λ p. left-entry c.ldb from l old p j eo)))

  pub right_is : c.side ≡ Right → from + lines ≤ c.m
      → ys ≡ update (grid false c.ldb c.n lines (λ i l _. line_value false down c.n c.diag c.alpha T (λ p. at old (cell false c.ldb p l)) i)) old
      → StripOf c a b from (from + lines) (by_side c.side (from * c.ldb) from) old ys
  unfolding by_side in_place in_triangle
  right_is es within ey =
      subst (λ (s : Side). StripOf c a b from (from + lines) (by_side s (from * c.ldb) from) old ys) (sym es)
      (right-strip c a b from lines Trsm e refl (λ i j. refl) some fit es within _ old ys ey
      (λ l eo i j hi hj y. valued Right l (from + i) j j y _ es refl hj (λ p. right-entry c.ldb from l old p i eo)))
