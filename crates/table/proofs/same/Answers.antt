-- `table::same` tells one value from another, and looks at no NaN's bits.
use mathlib.Core.Path.{◌≡◌, ◌∙◌, refl, sym, ap, subst}
use mathlib.Core.Bool.{true, true≢false}
use lib.Dec.{T, eqb→eq}
use lib.Ieee.{Float, nan, inf, fin, binary64, fits, is_nan, to_bits, of_bits}
use lib.Ieee.Bits.{of_bits-to_bits}
use borrow.Author.Tests.{eq-eqb}
use Rattle.table.proofs.same.Goals as goal

nan_is : (x : Float) → is_nan x ≡ true → x ≡ nan
unfolding is_nan
nan_is nan e = refl
nan_is (inf s) e = absurd (true≢false (sym e))
nan_is (fin s m e) p = absurd (true≢false (sym p))

-- The bits of a value that fits give the value.
bits-tell : (x y : Float) → fits binary64 x ≡ true → fits binary64 y ≡ true → to_bits binary64 x ≡ to_bits binary64 y → x ≡ y
bits-tell x y p q e =
    let whole : (v : Float) → fits binary64 v ≡ true → of_bits binary64 (to_bits binary64 v) ≡ v = λ v f. of_bits-to_bits binary64 v (subst T (sym f) tt) in
    sym (whole x p) ∙ ap (of_bits binary64) e ∙ whole y q

pub returns-then-is_nan : goal.returns-then-is_nan
returns-then-is_nan c =
    let x = c.if-is_nan.ensures.value in
    let y = c.is_nan-then-is_nan.ensures.value in
    (λ h. nan_is _ (sym x) ∙ sym (nan_is _ (sym y ∙ h)), λ e. y ∙ ap is_nan (sym e) ∙ sym x)

pub returns-then-is_nan-2 : goal.returns-then-is_nan-2
returns-then-is_nan-2 c =
    (λ h. absurd (true≢false (sym h)), λ e. c.if-is_nan.ensures.value ∙ ap is_nan e ∙ sym c.if-is_nan-2.ensures.value)

pub returns : goal.returns
returns c =
    let g = c.well_formed in
    (λ h. bits-tell _ _ g.0.1 g.1.0.1 (eqb→eq _ _ (subst T (sym h) tt)), λ e. eq-eqb _ _ (ap (to_bits binary64) e))
