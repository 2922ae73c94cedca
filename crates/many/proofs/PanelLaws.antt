-- What is copied, that the panel stands for A, and that each item's arrays have room.
-- Assumes nothing.
use mathlib.Core.Logic.{⊎_elim}
use Prim.Native.Nat.{ℕ, min, ◌-◌, ◌*◌, ◌/◌, ◌%◌, ◌<◌}
use mathlib.Core.Path.{◌≡◌, sym, ap, ◌∙◌}
use mathlib.Core.Bool.{Bool, true, false, and-true, and-false}
use mathlib.Core.List.{List, ◌++◌}
use native.Mathlib.Nat.{le_refl, mul_comm}
use native.Mathlib.Omega.{arith}
use lib.Dec.{eqb}
use lib.ListN.{length, get_or, take, drop, take-append-drop, drop_of_length-le}
use lib.Ieee.{Float, nan}
use borrow.Author.Tests.{eq-eqb}
use Rattle.arrays.specs.Update.{update, below, entries, region}
use Rattle.arrays.specs.Fold.{fold}
use Rattle.arrays.proofs.Tests.{by-test}
use Rattle.arrays.proofs.FoldLaws.{fold_same, fold-keep}
use Rattle.arrays.proofs.UpdateLaws.{lt-or-ge, update_same, below_none}
use Rattle.arrays.proofs.PartLaws.{tail_at}
use Rattle.arrays.proofs.EntryLaws.{only_same}
use Rattle.arrays.proofs.RegionLaws.{all-columns}
use Rattle.floats.specs.Operations.{◌⊕◌, ◌⊗◌}
use Rattle.definitions.specs.Number.{is_zero, factor, start}
use Rattle.definitions.specs.Storage.{stored, op}
use Rattle.definitions.specs.Call.{ld_output, in_output, extent, cut, writes}
use Rattle.definitions.specs.Element.{Floats, term, product_term, all_terms, accumulated, gemm, value, array_b, strip, result}
use Rattle.definitions.specs.Check.{untested, idle}
use Rattle.definitions.specs.Many.{copies, copied, packed, item}
use Rattle.definitions.specs.declared.Routine.{Routine}
use Rattle.definitions.specs.declared.Routine.TheVariants.{Gemm}
use Rattle.definitions.specs.declared.Transpose.TheVariants.{No}
use Rattle.definitions.specs.declared.Call.{Call}
use Rattle.definitions.proofs.Strips.{written}
use Rattle.definitions.proofs.Answers.{idle-keeps}
use Rattle.many.specs.Panel.{panel_size, panel_of, over_panel, Prepared}

-- ---- what is copied

pub copied-own : (c : Call) (count : ℕ) → c.lda ≡ c.m → 0 ≡ copied c count
unfolding copied copies
copied-own c count h = rw (eq-eqb _ _ h, and-false)

pub copied-panel : (c : Call) (count : ℕ) → eqb count 0 ≡ false → eqb c.lda c.m ≡ false → panel_size c ≡ copied c count
unfolding copied copies panel_size
copied-panel c count some apart = rw (some, apart, and-true) (by-test (untested c) (λ e. rw e) (λ e. rw e))

-- ---- a part of B that may not be there

pub min-rest : (x : ℕ) (l : List Float) → drop (min x (length l)) l ≡ drop x l
min-rest x l =
    ⊎_elim
    (λ k. let e : min x (length l) ≡ x = omega arith in rw e)
    (λ k. let e : min x (length l) ≡ length l = omega arith in rw e (drop_of_length-le l (le_refl _) ∙ sym (drop_of_length-le l k)))
    (lt-or-ge x (length l))

-- ---- the copy

-- what is copied of a column is the column
pub column-copied : (a : List Float) (m lda l : ℕ) (part ys : List Float) → ys ≡ update (below m (λ y x. get_or (take (length a - l * lda) (drop (l * lda) a)) y nan)) part
    → ys ≡ update (below m (λ i x. stored nan a lda i l)) part
unfolding stored
column-copied a m lda l part ys e = e ∙ λ t. update (below m (λ y x. tail_at (l * lda) a y nan t)) part

-- the columns without padding are what is packed
pub columns-packed : (c : Call) (a : List Float) (n : ℕ) (pack ys : List Float) → 0 < c.m → n ≡ c.m * c.k
    → ys ≡ update (region c.m c.m c.k (λ i l _. stored nan a c.lda i l)) pack → ys ≡ packed c a n pack
unfolding packed
columns-packed c a n pack ys some e h =
    h ∙ all-columns nan c.m some c.k _ pack
    ∙ ap (λ (k : ℕ). update (below k (entries c.m (λ i l old. stored nan a c.lda i l))) pack) (mul_comm c.k c.m ∙ sym e)

pub nothing-packed : (c : Call) (a : List Float) (n : ℕ) (pack : List Float) → n ≡ 0 → pack ≡ packed c a n pack
unfolding packed
nothing-packed c a n pack e = below_none _ pack ∙ ap (λ (k : ℕ). update (below k (entries c.m (λ i l old. stored nan a c.lda i l))) pack) (sym e)

-- ---- the panel stands for A

module _ (c : Call) (p a : List Float) (plain : c.transa ≡ No)
    (same : is_zero c.alpha ≡ false → (i l : ℕ) → i < c.m → l < c.k → stored nan p c.m i l ≡ stored nan a c.lda i l) where
  terms-same : is_zero c.alpha ≡ false → (B : Floats) (i j : ℕ) (e : Float) → i < c.m
      → fold (product_term (factor c.alpha) (record { left = op c.transa (stored nan p c.m); right = B }) i j) c.k e
      ≡ fold (product_term (factor c.alpha) (record { left = op c.transa (stored nan a c.lda); right = B }) i j) c.k e
  unfolding product_term term op
  terms-same some B i j e h =
      fold_same _ _ c.k e
      (λ l k x. ap (λ (u : Float). x ⊕ (factor c.alpha ⊗ B l j) ⊗ u)
      (rw plain (same some i l h k)))

  value_same : (b : List Float) (i j : ℕ) (x : Float) → i < c.m → value Gemm (over_panel c) p b i j x ≡ value Gemm c a b i j x
  unfolding value gemm accumulated all_terms over_panel
  value_same b i j x h =
      by-test (is_zero c.alpha)
      (λ z. rw z)
      (λ z. rw z (terms-same z (op c.transb (stored nan b c.ldb)) i j (start c.beta x) h))

  pub panel-result : c.routine ≡ Gemm → (b out : List Float) → result (over_panel c) p b out ≡ result c a b out
  unfolding result strip over_panel entries ld_output extent writes in_output cut array_b
  panel-result is b out =
      update_same _ _ out
      (λ q _ x.
      let i = q % ld_output c in
      let j = q / ld_output c in
      only_same (writes c 0 (extent c)) _ i j x _
      (λ w.
      ap (λ (f : Routine). value f (over_panel c) p (array_b c b out) i j x) is
      ∙ value_same (array_b c b out) i j x (written c 0 (extent c) i j w).row
      ∙ ap (λ (f : Routine). value f c a (array_b c b out) i j x) (sym is)))

-- ---- all items

-- over the panel as over A
pub items-over-panel : (c p : Call) (own : Bool) (a pack b out : List Float) (lenb lenc strideb stridec count : ℕ) (panel : List Float)
    → Prepared c own a pack lenb lenc strideb stridec count → p ≡ over_panel c → panel ≡ panel_of c own a pack
    → fold (item (result p panel) strideb stridec b) count out ≡ fold (item (result c a) strideb stridec b) count out
items-over-panel c p own a pack b out lenb lenc strideb stridec count panel h ep el =
    (λ t. fold (item (result (ep t) (el t)) strideb stridec b) count out)
    ∙ λ t. fold (item (λ x y. panel-result c (panel_of c own a pack) a h.plain h.same h.is-gemm x y t) strideb stridec b) count out

-- items with nothing to do
pub items-idle : (c : Call) (a b out : List Float) (strideb stridec count : ℕ) → idle c ≡ true → fold (item (result c a) strideb stridec b) count out ≡ out
unfolding item result
items-idle c a b out strideb stridec count h =
    fold-keep _ count out
    (λ i k l. ap (λ (r : List Float). take (i * stridec) l ++ r) (idle-keeps c a _ 0 (extent c) (drop (i * stridec) l) h) ∙ take-append-drop (i * stridec) l)
