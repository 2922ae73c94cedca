-- The values of GEMM and SYMM are products of factors as the kernel reads them.
-- Assumes nothing.
use Prim.Native.Nat.{ℕ}
use mathlib.Core.Path.{◌≡◌, refl, ap, ap₂, ◌∙◌}
use mathlib.Core.List.{List, [], ◌∷◌}
use lib.Ieee.{Float, nan}
use Rattle.definitions.specs.Storage.{stored, mirrored}
use Rattle.definitions.specs.Call.{by_side, order}
use Rattle.definitions.specs.Element.{Floats, ◌times◌, term, product_term, all_terms, accumulated, gemm, symm, value}
use Rattle.definitions.specs.declared.Routine.TheVariants.{Gemm, Symm}
use Rattle.definitions.specs.declared.Side.{Side}
use Rattle.definitions.specs.declared.Side.TheVariants.{Left, Right}
use Rattle.definitions.specs.declared.Call.{Call}
use Rattle.packing.specs.declared.Form.TheVariants.{Plain}
use Rattle.blocks.specs.Terms.{accumulate}
use Rattle.packing.specs.Factor.{Matrix, entry_of, turn}
use Rattle.direct.specs.Product.{partly, product}
use Rattle.forms.specs.Forms.{op_form, mirrored_form}
use Rattle.forms.proofs.Entries.{op-entry, mirrored-entry, plain_entry}
use Rattle.gemm.specs.Sum.{summed}

-- one product, added to its start
added : (c : Call) (k : ℕ) (L R : Matrix) (i j : ℕ) (x : Float) → accumulated c k (L times R ∷ []) i j x ≡ summed c.alpha c.beta L R k i j x
unfolding accumulated summed all_terms product_term term product partly accumulate turn
added c k L R i j x = refl

pub gemm-value : (c : Call) (a b : List Float) (i j : ℕ) (x : Float)
    → value Gemm c a b i j x ≡ summed c.alpha c.beta (entry_of (op_form c.transa) a c.lda) (entry_of (op_form c.transb) b c.ldb) c.k i j x
unfolding value gemm
gemm-value c a b i j x =
    added c c.k _ _ i j x
    ∙ ap₂ (λ (L R : Matrix). summed c.alpha c.beta L R c.k i j x) (op-entry c.transa a c.lda) (op-entry c.transb b c.ldb)

module _ (c : Call) (a b : List Float) (i j : ℕ) (x : Float) where
  S : Floats
  S = mirrored c.uplo (stored nan a c.lda)

  B : Floats
  B = stored nan b c.ldb

  by_side_lem : (s : Side) → c.side ≡ s → value Symm c a b i j x ≡ accumulated c (by_side s c.m c.n) (by_side s (S times B) (B times S) ∷ []) i j x
  unfolding value symm order S B
  by_side_lem s e = ap (λ (s : Side). accumulated c (by_side s c.m c.n) (by_side s (S times B) (B times S) ∷ []) i j x) e

  pub symm-left : c.side ≡ Left
      → value Symm c a b i j x ≡ summed c.alpha c.beta (entry_of (mirrored_form c.uplo) a c.lda) (entry_of Plain b c.ldb) c.m i j x
  unfolding by_side S B
  symm-left e =
      by_side_lem Left e ∙ added c c.m S B i j x
      ∙ ap₂ (λ (L R : Matrix). summed c.alpha c.beta L R c.m i j x) (mirrored-entry c.uplo a c.lda) (plain_entry b c.ldb)

  pub symm-right : c.side ≡ Right
      → value Symm c a b i j x ≡ summed c.alpha c.beta (entry_of Plain b c.ldb) (entry_of (mirrored_form c.uplo) a c.lda) c.n i j x
  unfolding by_side S B
  symm-right e =
      by_side_lem Right e ∙ added c c.n B S i j x
      ∙ ap₂ (λ (L R : Matrix). summed c.alpha c.beta L R c.n i j x) (plain_entry b c.ldb) (mirrored-entry c.uplo a c.lda)
