-- The lines of a strip that have their values are the strip of TRMM.
-- Assumes nothing.
use Prim.Native.Nat.{ℕ, ◌+◌, ◌*◌, ◌<◌}
use mathlib.Core.Path.{◌≡◌, refl, sym, ap, ap₂, subst, ◌∙◌}
use mathlib.Core.Bool.{Bool, true, false, not}
use mathlib.Core.List.{List}
use native.Mathlib.Nat.{zero-add}
use lib.Ieee.{Float, nan}
use Rattle.std.specs.Prelude.{if◌then◌else◌}
use Rattle.arrays.specs.Update.{update}
use Rattle.arrays.specs.Fold.{fold, among}
use Rattle.arrays.proofs.Tests.{if-true, if-false, if-both}
use Rattle.arrays.proofs.FoldLaws.{fold_same}
use Rattle.floats.specs.Array.{at}
use Rattle.floats.specs.Operations.{0f, 1f}
use Rattle.definitions.specs.Number.{is_zero, factor}
use Rattle.definitions.specs.Storage.{stored, inside, op_triangle, with_diagonal}
use Rattle.definitions.specs.Call.{by_side, in_place, order, in_triangle}
use Rattle.definitions.specs.Element.{Floats, ◌times◌, term, product_term, triangular, triangle, trmm, solves_up, value, StripOf}
use Rattle.definitions.specs.declared.Routine.TheVariants.{Trmm}
use Rattle.definitions.specs.declared.Side.{Side}
use Rattle.definitions.specs.declared.Side.TheVariants.{Left, Right}
use Rattle.definitions.specs.declared.Triangle.{Triangle}
use Rattle.definitions.specs.declared.Triangle.TheVariants.{Lower, Upper}
use Rattle.definitions.specs.declared.Scalar.{Scalar}
use Rattle.definitions.specs.declared.Call.{Call}
use Rattle.packing.specs.Factor.{Matrix, entry_of}
use Rattle.forms.specs.Forms.{op_form}
use Rattle.forms.proofs.Entries.{op-entry}
use Rattle.lines.specs.Lines.{cell, grid, line_term}
use Rattle.lines.proofs.GridLaws.{grid-same}
use Rattle.lines.proofs.StripLaws.{other-side, LinesFit, left-entry, right-entry, left-strip, right-strip}
use Rattle.trmm_diagonal.specs.Terms.{has, term_from}
use Rattle.trmm.specs.Sum.{sum_of, line_value}

-- ---- all lines, by the cases of alpha

module _ (left after : Bool) (alpha : Scalar) (T : Matrix) (ld m lines : ℕ) (pos : 0 < ld) (b r : List Float) where
  pub lines-cleared : is_zero alpha ≡ true → r ≡ update (grid left ld m lines (λ q l _. 0f)) b
      → r ≡ update (grid left ld m lines (λ q l e. line_value left after alpha T m (λ p. at b (cell left ld p l)) q)) b
  unfolding line_value
  lines-cleared z e =
      e ∙ grid-same left ld m lines _ _ b pos (λ q l hq hl x. sym (if-true (is_zero alpha) _ _ z))

  pub lines-summed : is_zero alpha ≡ false → (f : Float) → f ≡ factor alpha
      → r ≡ update (grid left ld m lines (λ q l e. sum_of left after f T m (λ p. at b (cell left ld p l)) q)) b
      → r ≡ update (grid left ld m lines (λ q l e. line_value left after alpha T m (λ p. at b (cell left ld p l)) q)) b
  unfolding line_value
  lines-summed z f ef e =
      e ∙ grid-same left ld m lines _ _ b pos
      (λ q l hq hl x. ap (λ (f : Float). sum_of left after f T m (λ p. at b (cell left ld p l)) q) ef ∙ sym (if-false (is_zero alpha) _ _ z))

-- ---- the value of an entry, by its line

-- an element's terms lie after it if solving goes down
has-inside : (s : Side) (t : Triangle) (i j l : ℕ) → by_side s (inside t i l) (inside t l j) ≡ has (not (solves_up s t)) (by_side s i j) l
unfolding by_side inside has solves_up
has-inside Left Lower i j l = refl
has-inside Left Upper i j l = refl
has-inside Right Lower i j l = refl
has-inside Right Upper i j l = refl

term_is : (s : Side) (alpha : Float) (T B : Floats) (i j : ℕ) (e : Float) (l : ℕ)
    → product_term alpha (by_side s (T times B) (B times T)) i j e l ≡ line_term (by_side s true false) alpha T (by_side s i j) e l (by_side s (B l j) (B i l))
unfolding by_side product_term term line_term
term_is Left alpha T B i j e l = refl
term_is Right alpha T B i j e l = refl

module _ (c : Call) where
  abbrev pub T : List Float → Matrix
  T a = with_diagonal 1f c.diag (entry_of (op_form c.transa) a c.lda)

  abbrev pub after : Side → Bool
  after s = not (solves_up s (op_triangle c.transa c.uplo))

  -- the same of any triangular matrix M, by the side
  by-line : (s : Side) (M B : Floats) (i j : ℕ)
      → (if is_zero c.alpha then 0f else fold (among (λ l. by_side s (inside (triangle c) i l) (inside (triangle c) l j)) (product_term (factor c.alpha) (by_side s (M times B) (B times M)) i j)) (by_side s c.m c.n) 0f)
      ≡ line_value (by_side s true false) (after s) c.alpha M (by_side s c.m c.n) (λ p. by_side s (B p j) (B i p)) (by_side s i j)
  unfolding line_value sum_of term_from among triangle
  by-line s M B i j =
      if-both (is_zero c.alpha) 0f _ 0f _ (λ _. refl)
      (λ _. fold_same _ _ (by_side s c.m c.n) 0f
      (λ l b e.
      ap₂ (λ (t : Bool) (v : Float). if t then v else e)
      (has-inside s (op_triangle c.transa c.uplo) i j l ∙ ap (has (after s) (by_side s i j)) (sym (zero-add l)))
      (term_is s (factor c.alpha) M B i j e l
      ∙ ap (λ (k : ℕ). line_term (by_side s true false) (factor c.alpha) M (by_side s i j) e k (by_side s (B l j) (B i l))) (sym (zero-add l)))))

  value-is : (s : Side) → c.side ≡ s → (a b : List Float) (i j : ℕ) (y : Float)
      → value Trmm c a b i j y
      ≡ line_value (by_side s true false) (after s) c.alpha (T a) (by_side s c.m c.n) (λ p. by_side s (stored nan b c.ldb p j) (stored nan b c.ldb i p)) (by_side s i j)
  unfolding value trmm order triangular
  value-is s e a b i j y =
      ap
      (λ (s : Side). if is_zero c.alpha then 0f else fold (among (λ l. by_side s (inside (triangle c) i l) (inside (triangle c) l j)) (product_term (factor c.alpha) (by_side s (triangular c (stored nan a c.lda) times stored nan b c.ldb) (stored nan b c.ldb times triangular c (stored nan a c.lda))) i j)) (by_side s c.m c.n) 0f) e
      ∙ by-line s (triangular c (stored nan a c.lda)) (stored nan b c.ldb) i j
      ∙ ap
      (λ (M : Matrix). line_value (by_side s true false) (after s) c.alpha (with_diagonal 1f c.diag M) (by_side s c.m c.n) (λ p. by_side s (stored nan b c.ldb p j) (stored nan b c.ldb i p)) (by_side s i j))
      (op-entry c.transa a c.lda)

-- ---- the lines that have their values are the strip; `low` says that op(A) is lower

module _ (c : Call) (from lines la len : ℕ) (e : c.routine ≡ Trmm) (a b : List Float) (low : Bool) (is-low : low ≡ solves_up Left (op_triangle c.transa c.uplo)) (old ys : List Float) where
  starting : (s : Side) → c.side ≡ s → StripOf c a b from (from + lines) (by_side s (from * c.ldb) from) old ys
      → StripOf c a b from (from + lines) (by_side c.side (from * c.ldb) from) old ys
  starting s es = subst (λ (s : Side). StripOf c a b from (from + lines) (by_side s (from * c.ldb) from) old ys) (sym es)

  pub strip-left : c.side ≡ Left → LinesFit c true from c.m lines c.n la len
      → ys ≡ update (grid true c.ldb c.m lines (λ q l _. line_value true (not low) c.alpha (T c a) c.m (λ p. at old (cell true c.ldb p l)) q)) old
      → StripOf c a b from (from + lines) (by_side c.side (from * c.ldb) from) old ys
  unfolding by_side in_place in_triangle
  strip-left es k ey =
      starting Left es
      (left-strip c a b from lines Trmm e refl (λ i j. refl) k.some-rows k.fit es k.within _ old ys ey
      (λ l eo i j hi hj y.
      ap₂ (λ (h : Bool) (x : ℕ → Float). line_value true h c.alpha (T c a) c.m x i) (ap not is-low) (λ t p. left-entry c.ldb from l old p j eo t)
      ∙ sym (value-is c Left es a l i (from + j) y)))

  pub strip-right : c.side ≡ Right → LinesFit c false from c.n lines c.m la len
      → ys ≡ update (grid false c.ldb c.n lines (λ q l _. line_value false low c.alpha (T c a) c.n (λ p. at old (cell false c.ldb p l)) q)) old
      → StripOf c a b from (from + lines) (by_side c.side (from * c.ldb) from) old ys
  unfolding by_side in_place in_triangle
  strip-right es k ey =
      starting Right es
      (right-strip c a b from lines Trmm e refl (λ i j. refl) k.some-rows k.fit es k.within _ old ys ey
      (λ l eo i j hi hj y.
      ap₂ (λ (h : Bool) (x : ℕ → Float). line_value false h c.alpha (T c a) c.n x j) (is-low ∙ other-side (op_triangle c.transa c.uplo)) (λ t p. right-entry c.ldb from l old p i eo t)
      ∙ sym (value-is c Right es a l (from + i) j y)))
