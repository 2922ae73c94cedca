-- Tests of equality on floats and on lists of them that antt computes, and that a passed test is an equation. (Two calls of an operation that
-- are compared as they stand would be compared argument by argument.)
-- Assumes nothing.
use mathlib.Core.Path.{◌≡◌, refl, ap}
use mathlib.Core.Bool.{Bool, true, false, ◌&&◌}
use mathlib.Core.List.{List, [], ◌∷◌}
use lib.Dec.{T, eqb, eqb→eq}
use lib.IntN.{ℤ, pos, negsuc}
use lib.Ieee.{Float, nan, inf, fin}
use lib.Ieee.Fits.{and_l, and_r}

abbrev pub same_integer : ℤ → ℤ → Bool
same_integer (pos a) (pos b) = eqb a b
same_integer (pos a) (negsuc b) = false
same_integer (negsuc a) (pos b) = false
same_integer (negsuc a) (negsuc b) = eqb a b

abbrev pub same_sign : Bool → Bool → Bool
same_sign true b = b
same_sign false true = false
same_sign false false = true

abbrev pub same_float : Float → Float → Bool
same_float nan nan = true
same_float nan (inf s) = false
same_float nan (fin s m e) = false
same_float (inf s) nan = false
same_float (inf s) (inf t) = same_sign s t
same_float (inf s) (fin t n d) = false
same_float (fin s m e) nan = false
same_float (fin s m e) (inf t) = false
same_float (fin s m e) (fin t n d) = same_sign s t && (eqb m n && same_integer e d)

abbrev pub same_floats : List Float → List Float → Bool
same_floats [] [] = true
same_floats [] (y ∷ ys) = false
same_floats (x ∷ xs) [] = false
same_floats (x ∷ xs) (y ∷ ys) = same_float x y && same_floats xs ys

pub same-integer : (a b : ℤ) → T (same_integer a b) → a ≡ b
same-integer (pos a) (pos b) t = ap pos (eqb→eq a b t)
same-integer (pos a) (negsuc b) t = absurd t
same-integer (negsuc a) (pos b) t = absurd t
same-integer (negsuc a) (negsuc b) t = ap negsuc (eqb→eq a b t)

same_sign_lem : (a b : Bool) → T (same_sign a b) → a ≡ b
same_sign_lem true true t = refl
same_sign_lem true false t = absurd t
same_sign_lem false true t = absurd t
same_sign_lem false false t = refl

same_float_lem : (x y : Float) → T (same_float x y) → x ≡ y
same_float_lem nan nan t = refl
same_float_lem nan (inf s) t = absurd t
same_float_lem nan (fin s m e) t = absurd t
same_float_lem (inf s) nan t = absurd t
same_float_lem (inf s) (inf u) t = ap inf (same_sign_lem s u t)
same_float_lem (inf s) (fin u n d) t = absurd t
same_float_lem (fin s m e) nan t = absurd t
same_float_lem (fin s m e) (inf u) t = absurd t
same_float_lem (fin s m e) (fin u n d) t =
    let p = same_sign_lem s u (and_l (same_sign s u) (eqb m n && same_integer e d) t) in
    let r = and_r (same_sign s u) (eqb m n && same_integer e d) t in
    let q = eqb→eq m n (and_l (eqb m n) (same_integer e d) r) in
    let z = same-integer e d (and_r (eqb m n) (same_integer e d) r) in
    λ i. fin (p i) (q i) (z i)

pub same-floats : (xs ys : List Float) → T (same_floats xs ys) → xs ≡ ys
same-floats [] [] t = refl
same-floats [] (y ∷ ys) t = absurd t
same-floats (x ∷ xs) [] t = absurd t
same-floats (x ∷ xs) (y ∷ ys) t =
    let p = same_float_lem x y (and_l (same_float x y) (same_floats xs ys) t) in
    let q = same-floats xs ys (and_r (same_float x y) (same_floats xs ys) t) in
    λ i. p i ∷ q i
