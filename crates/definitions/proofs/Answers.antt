-- What the check's answer means is what the elements' values say: an idle call changes nothing and reports nothing, and a direct call gives 0 and the values and the
-- report of its call, or its number and nothing.
-- Assumes nothing.
use Prim.Native.Nat.{ℕ}
use mathlib.Core.Path.{◌≡◌, refl, sym, ap, ◌∙◌}
use mathlib.Core.Bool.{true, false, not, ◌&&◌, ◌||◌, true≢false}
use mathlib.Core.List.{List, [], ◌∷◌, ◌++◌}
use lib.Dec.{eqb}
use lib.IntN.{ℤ, pos}
use lib.Ieee.{Float}
use borrow.Author.Tests.{eqb-true, not-true}
use Rattle.std.specs.Prelude.{if◌then◌else◌}
use Rattle.arrays.specs.Search.{none}
use Rattle.arrays.proofs.Tests.{and_left, and_right, or-both, if-true, if-false, by-test}
use Rattle.arrays.proofs.FoldLaws.{fold-none}
use Rattle.arrays.proofs.EntryLaws.{entries-keep, only-keep}
use Rattle.definitions.specs.Number.{is_zero, is_one, factor, start}
use Rattle.definitions.specs.Call.{has_k, in_place, empty, start_only, ld_output, extent, writes}
use Rattle.definitions.specs.Element.{Product, accumulated, all_terms, gemm, symm, syrk, syr2k, zero_on_diagonal, value, zero_of, strip, result}
use Rattle.definitions.specs.Check.{places, arrays, bad_width, first_bad, refusal, call_of, idle, checked, number, leaves, reports}
use Rattle.definitions.specs.Direct.{done, solved}
use Rattle.definitions.specs.declared.Routine.{Routine}
use Rattle.definitions.specs.declared.Routine.TheVariants.{Gemm, Symm, Syrk, Syr2k, Trmm, Trsm}
use Rattle.definitions.specs.declared.Scalar.{Scalar}
use Rattle.definitions.specs.declared.Scalar.TheVariants.{Zero, One, Other}
use Rattle.definitions.specs.declared.Args.{Args}
use Rattle.definitions.specs.declared.Call.{Call}
use Rattle.definitions.proofs.Strips.{strip-empty}

-- ---- an idle call

start-one : (s : Scalar) (x : Float) → is_one s ≡ true → start s x ≡ x
unfolding start
start-one Zero x h = absurd (true≢false (sym h))
start-one One x h = refl
start-one (Other β) x h = absurd (true≢false (sym h))

no-terms : (α : Float) (ps : List Product) (i j : ℕ) (e : Float) → all_terms α 0 ps i j e ≡ e
unfolding all_terms
no-terms α [] i j e = refl
no-terms α (p ∷ ps) i j e = no-terms α ps i j _ ∙ fold-none _ e

-- "If α or k is zero the start is the result."
start-is-result : (c : Call) (k : ℕ) (ps : List Product) (i j : ℕ) (x : Float) → is_zero c.alpha ≡ false → k ≡ 0 → accumulated c k ps i j x ≡ start c.beta x
unfolding accumulated
start-is-result c k ps i j x h e =
    if-false (is_zero c.alpha) _ _ h ∙ ap (λ (n : ℕ). all_terms (factor c.alpha) n ps i j (start c.beta x)) e ∙ no-terms (factor c.alpha) ps i j _

zero-alpha : (c : Call) (k : ℕ) (ps : List Product) (i j : ℕ) (x : Float) → is_zero c.alpha ≡ true → accumulated c k ps i j x ≡ start c.beta x
unfolding accumulated
zero-alpha c k ps i j x h = if-true (is_zero c.alpha) _ _ h

module _ (c : Call) (a b : List Float) (i j : ℕ) (x : Float) where
  value-starts : (f : Routine) → in_place f ≡ false → (is_zero c.alpha || (has_k f && eqb c.k 0)) ≡ true → value f c a b i j x ≡ start c.beta x
  unfolding value gemm symm syrk syr2k has_k in_place
  value-starts Gemm p h =
      by-test (is_zero c.alpha) (λ z. zero-alpha c c.k _ i j x z) (λ z. start-is-result c c.k _ i j x z (eqb-true c.k 0 (rw z at h)))
  value-starts Symm p h =
      by-test (is_zero c.alpha) (λ z. zero-alpha c _ _ i j x z) (λ z. absurd (true≢false (sym (rw z at h))))
  value-starts Syrk p h =
      by-test (is_zero c.alpha) (λ z. zero-alpha c c.k _ i j x z) (λ z. start-is-result c c.k _ i j x z (eqb-true c.k 0 (rw z at h)))
  value-starts Syr2k p h =
      by-test (is_zero c.alpha) (λ z. zero-alpha c c.k _ i j x z) (λ z. start-is-result c c.k _ i j x z (eqb-true c.k 0 (rw z at h)))
  value-starts Trmm p h = absurd (true≢false p)
  value-starts Trsm p h = absurd (true≢false p)

-- "Nothing to do": each strip, and so the whole call, leaves the array as it was
pub idle-keeps : (c : Call) (a b : List Float) (from to : ℕ) (out : List Float) → idle c ≡ true → strip c a b from to out ≡ out
unfolding idle start_only strip
idle-keeps c a b from to out h =
    by-test (empty c)
    (λ e. strip-empty c a b from to out e)
    (λ e. started (rw e at h))
  where
    started : (not (in_place c.routine) && ((is_zero c.alpha || (has_k c.routine && eqb c.k 0)) && is_one c.beta)) ≡ true → strip c a b from to out ≡ out
    started g =
        let p = not-true _ (and_left (not (in_place c.routine)) _ g) in
        let r = and_right (not (in_place c.routine)) _ g in
        entries-keep (ld_output c) _ out
        (λ i j x.
        only-keep (writes c from to) _ i j x
        (value-starts c a _ i j x c.routine p (and_left (is_zero c.alpha || (has_k c.routine && eqb c.k 0)) _ r)
        ∙ start-one c.beta x (and_right (is_zero c.alpha || (has_k c.routine && eqb c.k 0)) _ r)))

-- and it reports nothing
idle-solve : (c : Call) (a : List Float) (f : Routine) → c.routine ≡ f → idle c ≡ true → zero_of f c a ≡ none
unfolding zero_of zero_on_diagonal idle in_place
idle-solve c a Gemm e h = refl
idle-solve c a Symm e h = refl
idle-solve c a Syrk e h = refl
idle-solve c a Syr2k e h = refl
idle-solve c a Trmm e h = refl
idle-solve c a Trsm e h =
    by-test (empty c)
    (λ m. rw m)
    (λ m.
    absurd (true≢false (sym h ∙ or-both (empty c) _ m (ap (λ (f : Routine). not (in_place f) && (start_only c && is_one c.beta)) e))))

pub idle-reports : (c : Call) (a : List Float) → idle c ≡ true → zero_of c.routine c a ≡ none
idle-reports c a h = idle-solve c a c.routine refl h

-- ---- a direct call

-- An accepted call gives 0 and leaves the values of its call; a refused one gives its number and writes nothing.
pub direct_is : (w r : ℤ) (g : Args) (a b out : List Float)
    → done w r g a b out ≡ record { number = pos (refusal w r g); array = if eqb (refusal w r g) 0 then result (call_of g) a b out else out }
unfolding done checked number leaves result
direct_is w r g a b out =
    by-test (eqb (refusal w r g) 0)
    (λ e. by-test (idle (call_of g))
    (λ i. let k = idle-keeps (call_of g) a b 0 (extent (call_of g)) out i in rw (e, i) (λ t. record { number = pos (sym (eqb-true (refusal w r g) 0 e) t); array = sym k t }))
    (λ i. rw (e, i) (λ t. record { number = pos (sym (eqb-true (refusal w r g) 0 e) t); array = result (call_of g) a b out })))
    (λ e. rw e)

-- and an accepted one reports what its call does, a refused one −1
pub direct-reports : (w r : ℤ) (g : Args) (a : List Float)
    → reports (checked w r g) a ≡ (if eqb (refusal w r g) 0 then zero_of (call_of g).routine (call_of g) a else none)
unfolding checked reports
direct-reports w r g a =
    by-test (eqb (refusal w r g) 0)
    (λ e. by-test (idle (call_of g)) (λ i. rw (e, i) (sym (idle-reports (call_of g) a i))) (λ i. rw (e, i)))
    (λ e. rw e)

-- the number of a call whose strip width and block size are allowed
pub refusal-allowed : (w r : ℤ) (g : Args) → bad_width w ≡ false → bad_width r ≡ false → refusal w r g ≡ first_bad g (places g.routine ++ arrays g.routine)
unfolding refusal
refusal-allowed w r g hw hr = if-false (bad_width w || bad_width r) 30 _ (or-both (bad_width w) (bad_width r) hw hr)

-- Two direct calls that are alike except in strip widths and block sizes, each 0 to 64, give the same number and the same array.
pub alike-calls : (w r w' r' : ℤ) (g : Args) (a b out : List Float) → bad_width w ≡ false → bad_width r ≡ false → bad_width w' ≡ false → bad_width r' ≡ false
    → done w r g a b out ≡ done w' r' g a b out
alike-calls w r w' r' g a b out hw hr hw' hr' =
    direct_is w r g a b out
    ∙ ap (λ (e : ℕ). record { number = pos e; array = if eqb e 0 then result (call_of g) a b out else out })
    (refusal-allowed w r g hw hr ∙ sym (refusal-allowed w' r' g hw' hr'))
    ∙ sym (direct_is w' r' g a b out)

-- Two such solves report the same, too.
pub alike-solves : (w r w' r' : ℤ) (g : Args) (a b out : List Float) → bad_width w ≡ false → bad_width r ≡ false → bad_width w' ≡ false → bad_width r' ≡ false
    → solved w r g a b out ≡ solved w' r' g a b out
unfolding solved
alike-solves w r w' r' g a b out hw hr hw' hr' =
    let d = alike-calls w r w' r' g a b out hw hr hw' hr' in
    let z = direct-reports w r g a
    ∙ ap (λ (e : ℕ). if eqb e 0 then zero_of (call_of g).routine (call_of g) a else none) (refusal-allowed w r g hw hr ∙ sym (refusal-allowed w' r' g hw' hr'))
    ∙ sym (direct-reports w' r' g a) in
    λ i. record { end = record { number = (d i).number; zero = z i }; array = (d i).array }
