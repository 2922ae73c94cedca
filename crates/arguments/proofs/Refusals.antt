-- The tests in turn give the number of a refusal: the rows of the table hold the places of the definitions, and the first test that fails decides.
-- Assumes nothing.
use mathlib.Core.Path.{◌≡◌, refl, sym, ap, ◌∙◌}
use mathlib.Core.Bool.{Bool, true, false, ◌||◌}
use mathlib.Core.List.{List, [], ◌∷◌, ◌++◌}
use Prim.Native.Nat.{ℕ, zero, suc}
use lib.Dec.{eqb, eqb-suc-zero}
use lib.IntN.{ℤ}
use lib.ListN.{get_or}
use Rattle.std.specs.Prelude.{if◌then◌else◌}
use Rattle.arrays.proofs.Tests.{by-test}
use Rattle.definitions.specs.Check.{Argument, Place, ◌at◌, places, arrays, bad, first_bad, bad_width, refusal}
use Rattle.definitions.specs.declared.Routine.{Routine}
use Rattle.definitions.specs.declared.Routine.TheVariants.{Gemm, Symm, Syrk, Syr2k, Trmm, Trsm}
use Rattle.definitions.specs.declared.Args.{Args}
use Rattle.definitions.proofs.CheckLaws.{column, place_in}
use Rattle.arguments.specs.Refusal.{first_of}
use Rattle.arguments.specs.Tests.{codes, sizes, leading, lengths, words, columns, row_of, tests}

-- The arguments that have a place in a row, with it.
kept : List ℕ → List Argument → List Place
kept row [] = []
kept row (x ∷ xs) = let rest = kept row xs in if eqb (get_or row (column x) 0) 0 then rest else (x at get_or row (column x) 0 ∷ rest)

-- Those of two lists in turn.
kept-both : (row : List ℕ) (xs ys : List Argument) → kept row (xs ++ ys) ≡ kept row xs ++ kept row ys
unfolding kept
kept-both row [] ys = refl
kept-both row (x ∷ xs) ys = by-test (eqb (get_or row (column x) 0) 0) (λ e. rw e (kept-both row xs ys)) (λ e. rw e (ap (λ (ps : List Place). x at get_or row (column x) 0 ∷ ps) (kept-both row xs ys)))

-- The table of the code is that of the definitions.
same-table : (f : Routine) → (kept (row_of f) words ≡ places f) × (kept (row_of f) lengths ≡ arrays f)
unfolding kept row_of columns words codes sizes leading lengths column place_in places arrays
same-table Gemm = (refl, refl)
same-table Symm = (refl, refl)
same-table Syrk = (refl, refl)
same-table Syr2k = (refl, refl)
same-table Trmm = (refl, refl)
same-table Trsm = (refl, refl)

next : (g : Args) (x : Argument) (p : ℕ) (b : Bool) → bad g x ≡ b → (n : ℕ) (rest : List Place) → n ≡ first_bad g rest
    → first_of (if b then p else 0) n ≡ first_bad g (if eqb p 0 then rest else (x at p ∷ rest))
unfolding first_of first_bad
next g x zero true e n rest h = h
next g x zero false e n rest h = h
next g x (suc p) true e n rest h = simp (eqb-suc-zero p, e)
next g x (suc p) false e n rest h = rw (eqb-suc-zero p, e) h

first-bad : (g : Args) (row : List ℕ) (xs : List Argument) → tests g row xs ≡ first_bad g (kept row xs)
unfolding tests kept first_bad
first-bad g row [] = refl
first-bad g row (x ∷ xs) = next g x (get_or row (column x) 0) (bad g x) refl (tests g row xs) (kept row xs) (first-bad g row xs)

-- two lists of tests in turn
both : (g : Args) (row : List ℕ) (xs ys : List Argument) → tests g row (xs ++ ys) ≡ first_of (tests g row xs) (tests g row ys)
unfolding tests first_of
both g row [] ys = refl
both g row (x ∷ xs) ys =
    let n = if bad g x then get_or row (column x) 0 else 0 in
    by-test (eqb n 0) (λ e. rw e (both g row xs ys)) (λ e. simp e)

-- the words in turn, and then the arrays
module _ (g : Args) (row : List ℕ) (t : row ≡ row_of g.routine) where
  pub words-tested : first_of (tests g row codes) (first_of (tests g row sizes) (tests g row leading)) ≡ first_bad g (places g.routine)
  unfolding words
  words-tested =
      sym (both g row codes (sizes ++ leading) ∙ ap (first_of (tests g row codes)) (both g row sizes leading))
      ∙ first-bad g row words ∙ ap (λ (r : List ℕ). first_bad g (kept r words)) t ∙ ap (first_bad g) (same-table g.routine).0

  pub arrays-tested : tests g row lengths ≡ first_bad g (arrays g.routine)
  arrays-tested = first-bad g row lengths ∙ ap (λ (r : List ℕ). first_bad g (kept r lengths)) t ∙ ap (first_bad g) (same-table g.routine).1

-- 30, a place, an array: the first that is bad
module _ (w r : ℤ) (g : Args) where
  pub refusal-width : (bad_width w || bad_width r) ≡ true → 30 ≡ refusal w r g
  unfolding refusal
  refusal-width h = rw h

  -- the places and then the arrays are one list of tests
  pub refusal_is : (bad_width w || bad_width r) ≡ false → first_of (first_bad g (places g.routine)) (first_bad g (arrays g.routine)) ≡ refusal w r g
  unfolding refusal columns
  refusal_is h =
      let row = row_of g.routine in
      rw h (
      sym (both g row words lengths
      ∙ ap (λ (n : ℕ). first_of n (tests g row lengths)) (first-bad g row words ∙ ap (first_bad g) (same-table g.routine).0)
      ∙ ap (first_of (first_bad g (places g.routine))) (arrays-tested g row refl))
      ∙ first-bad g row columns
      ∙ ap (first_bad g) (kept-both row words lengths ∙ λ i. (same-table g.routine).0 i ++ (same-table g.routine).1 i))
