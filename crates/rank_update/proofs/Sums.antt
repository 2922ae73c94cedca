-- A start and then product after product, over one mask, are the sums that the definitions give. And SYRK's and SYR2K's values are such sums, of factors as the
-- kernel reads them.
-- Assumes nothing.
use Prim.Native.Nat.{ℕ, ◌+◌, ◌<◌}
use mathlib.Core.Path.{◌≡◌, refl, sym, ap, ap₂, ◌∙◌}
use mathlib.Core.Bool.{true, false}
use mathlib.Core.List.{List, [], ◌∷◌, ◌++◌}
use lib.Ieee.{Float, nan}
use Rattle.arrays.specs.Update.{EntryMap, Mask, update, entries, only}
use Rattle.arrays.specs.Fold.{fold}
use Rattle.arrays.proofs.Tests.{if-true, if-false}
use Rattle.arrays.proofs.EntryLaws.{entries-same, only_same, only_then}
use Rattle.definitions.specs.Number.{is_zero, factor, start}
use Rattle.definitions.specs.Storage.{stored, transposed, op}
use Rattle.definitions.specs.Element.{Floats, Product, ◌times◌, term, product_term, all_terms, accumulated, syrk, syr2k, value}
use Rattle.definitions.specs.declared.Routine.TheVariants.{Syrk, Syr2k}
use Rattle.definitions.specs.declared.Transpose.{Transpose}
use Rattle.definitions.specs.declared.Transpose.TheVariants.{No, Yes}
use Rattle.definitions.specs.declared.Call.{Call}
use Rattle.blocks.specs.Terms.{accumulate}
use Rattle.packing.specs.Factor.{Matrix, index_of, entry_of, turn}
use Rattle.direct.specs.Product.{from_column, partly, product}
use Rattle.forms.specs.Forms.{op_form}
use Rattle.forms.proofs.Entries.{op-entry}
use Rattle.rank_update.specs.Options.{transposed_form}

-- ---- the sums, product after product

one_more : (α : Float) (k : ℕ) (ps : List Product) (p : Product) (i j : ℕ) (e : Float)
    → all_terms α k (ps ++ (p ∷ [])) i j e ≡ fold (product_term α p i j) k (all_terms α k ps i j e)
unfolding all_terms
one_more α k [] p i j e = refl
one_more α k (q ∷ ps) p i j e = one_more α k ps p i j (fold (product_term α q i j) k e)

module _ (c : Call) (from ld : ℕ) (mask : Mask) (pos : 0 < ld) (l : List Float) where
  -- the start and all terms of some products, in the columns from `from` on
  abbrev pub sums : List Product → EntryMap Float
  sums ps i j x = all_terms (factor c.alpha) c.k ps i (from + j) (start c.beta x)

  pub none-added : (r : List Float) → r ≡ update (entries ld (only mask (λ i j x. start c.beta x))) l → r ≡ update (entries ld (only mask (sums []))) l
  unfolding all_terms
  none-added r h = h

  pub product-added : (ps : List Product) (L R : Matrix) (f : Float) (m r : List Float) → f ≡ factor c.alpha → m ≡ update (entries ld (only mask (sums ps))) l
      → r ≡ update (entries ld (only mask (product f L (from_column from R) false c.k))) m → r ≡ update (entries ld (only mask (sums (ps ++ (L times R ∷ []))))) l
  unfolding product partly accumulate turn product_term term
  product-added ps L R f m r e em er =
      only_then ld mask (sums ps) (product f L (from_column from R) false c.k) _ l m r pos em er
      (λ i j h x.
      ap (λ (f : Float). product f L (from_column from R) false c.k i j (sums ps i j x)) e
      ∙ sym (one_more (factor c.alpha) c.k ps (L times R) i (from + j) (start c.beta x)))

  same : (f g : EntryMap Float) (r : List Float) → r ≡ update (entries ld (only mask f)) l → ((i j : ℕ) (x : Float) → f i j x ≡ g i j x)
      → r ≡ update (entries ld (only mask g)) l
  same f g r h e = h ∙ entries-same ld l pos (only mask f) (only mask g) (λ i j hi b x. only_same mask f i j x g (λ _. e i j x))

  pub start-alone : (ps : List Product) (r : List Float) → is_zero c.alpha ≡ true → r ≡ update (entries ld (only mask (λ i j x. start c.beta x))) l
      → r ≡ update (entries ld (only mask (λ i j x. accumulated c c.k ps i (from + j) x))) l
  unfolding accumulated
  start-alone ps r z h = same _ _ r h (λ i j x. sym (if-true (is_zero c.alpha) _ _ z))

  pub all-added : (ps : List Product) (r : List Float) → is_zero c.alpha ≡ false → r ≡ update (entries ld (only mask (sums ps))) l
      → r ≡ update (entries ld (only mask (λ i j x. accumulated c c.k ps i (from + j) x))) l
  unfolding accumulated
  all-added ps r z h = same _ _ r h (λ i j x. sym (if-false (is_zero c.alpha) _ _ z))

-- ---- the values

transposed-entry : (t : Transpose) (a : List Float) (ld : ℕ) → transposed (op t (stored nan a ld)) ≡ entry_of (transposed_form t) a ld
unfolding transposed op stored entry_of index_of
transposed-entry No a ld = refl
transposed-entry Yes a ld = refl

module _ (c : Call) (a b : List Float) (i j : ℕ) (x : Float) where
  pub syrk-value : value Syrk c a b i j x
      ≡ accumulated c c.k (entry_of (op_form c.transa) a c.lda times entry_of (transposed_form c.transa) a c.lda ∷ []) i j x
  unfolding value syrk
  syrk-value =
      ap₂ (λ (L R : Matrix). accumulated c c.k (L times R ∷ []) i j x) (op-entry c.transa a c.lda) (transposed-entry c.transa a c.lda)

  pub syr2k-value : value Syr2k c a b i j x
      ≡ accumulated c c.k
      (entry_of (op_form c.transa) a c.lda times entry_of (transposed_form c.transa) b c.ldb
      ∷ entry_of (op_form c.transa) b c.ldb times entry_of (transposed_form c.transa) a c.lda ∷ []) i j x
  unfolding value syr2k
  syr2k-value =
      ap₂ (λ (L R : Matrix). accumulated c c.k (L times R ∷ Q times transposed P ∷ []) i j x)
      (op-entry c.transa a c.lda) (transposed-entry c.transa b c.ldb)
      ∙ ap₂ (λ (L R : Matrix). accumulated c c.k (entry_of (op_form c.transa) a c.lda times entry_of (transposed_form c.transa) b c.ldb ∷ L times R ∷ []) i j x)
      (op-entry c.transa b c.ldb) (transposed-entry c.transa a c.lda)
    where
      P : Floats
      P = op c.transa (stored nan a c.lda)

      Q : Floats
      Q = op c.transa (stored nan b c.ldb)
