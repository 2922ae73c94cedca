-- Laws of a product by panels: a block of rows more, a panel of terms more.
-- Assumes nothing.
use mathlib.Core.Bool.{Bool, true, false}
use mathlib.Core.Path.{◌≡◌, refl, ap, ap₂, ◌∙◌}
use mathlib.Core.List.{List}
use Prim.Native.Nat.{ℕ, ◌+◌, ◌-◌, ◌*◌, ◌<◌, ◌≤◌}
use native.Mathlib.Omega.{arith}
use lib.ListN.{length, take, drop}
use lib.Ieee.{Float, nan}
use borrow.Rule.Slice.PartMut.{put_mid}
use Rattle.arrays.specs.Update.{Mask, update, entries, only, box, region}
use Rattle.arrays.proofs.EntryLaws.{only_then}
use Rattle.arrays.proofs.RegionLaws.{region-same, region-then, region-rows}
use Rattle.floats.specs.Operations.{◌⊗◌}
use Rattle.blocks.specs.Terms.{packed}
use Rattle.kernel.specs.Panels.{half_packed}
use Rattle.packing.specs.Factor.{turn, Matrix, entry_of, along}
use Rattle.direct.specs.Product.{from_column, partly}
use Rattle.arrays.proofs.TrapezoidLaws.{is-box}
use Rattle.packing.specs.declared.Form.{Form}
use Rattle.packing.proofs.FactorLaws.{along-up, turn_along}
use Rattle.packing.proofs.PackLaws.{held}
use Rattle.blocks.proofs.TermLaws.{accumulate-same, accumulate-split}

-- a block of h rows more: it is packed in u
pub rows_more : (ld i h cols n : ℕ) (M L : Matrix) (u₀ u t l m ys : List Float)
    → 0 < ld → i + h ≤ ld → i ≤ length l → h ≤ 64 → n * 64 ≤ length u₀
    → u ≡ update (region 64 h n (λ y x _. M y x)) u₀
    → ((y x : ℕ) → M y x ≡ L (i + y) x)
    → m ≡ update (region ld i cols (half_packed n t L)) l
    → ys ≡ update (region ld h cols (packed n u t)) (take (length m - i) (drop i m))
    → put_mid i (length m - i) m ys ≡ update (region ld (i + h) cols (half_packed n t L)) l
unfolding packed half_packed
rows_more ld i h cols n M L u₀ u t l m ys pos il ll hh hu eu el em ey =
    region-rows nan ld pos i h cols (half_packed n t L) l m ys il ll em
    (ey ∙ region-same ld h cols (packed n u t) (λ r j e. half_packed n t L (i + r) j e) (take (length m - i) (drop i m)) pos
    (λ r j hr hj e. accumulate-same _ _ _ _ n e (λ q b. refl) (λ q b. held 64 h n M u₀ u r q hh hu eu hr b ∙ el r q)))

-- ---- a panel of terms more, on a mask

-- the right block as it is packed and then scaled
pub scaled : (alpha : Float) (n cols : ℕ) (M : Matrix) (t₀ t₁ t : List Float)
    → t₁ ≡ update (region 64 n cols (λ q j _. M q j)) t₀ → t ≡ update (region 64 n cols (λ q j x. alpha ⊗ x)) t₁
    → t ≡ update (region 64 n cols (λ q j _. alpha ⊗ M q j)) t₀
scaled alpha n cols M t₀ t₁ t e₁ e =
    region-then 64 n cols (λ q j _. M q j) (λ q j x. alpha ⊗ x) (λ q j _. alpha ⊗ M q j) t₀ t₁ t (omega arith) e₁ e (λ i j hi hj x. refl)

-- n terms more, whose right block is packed in t; the mask has at most `cols` columns
module _ (mask : Mask) (cols : ℕ) (few : (i j : ℕ) → mask i j ≡ true → j < cols) (alpha : Float) (A : Matrix) (fb : Form) (b : List Float) (ldb j₀ : ℕ) (down : Bool) (k ld : ℕ) where
  pub masked-next : (l n l₀ : ℕ) (c₀ t₀ t₁ t m r : List Float) → 0 < ld → n ≤ 64 → cols * 64 ≤ length t₀ → l₀ ≡ turn down k l
      → m ≡ update (entries ld (only mask (partly alpha A (from_column j₀ (entry_of fb b ldb)) down k l))) c₀
      → t₁ ≡ update (region 64 n cols (λ y x _. entry_of fb b ldb (along down l₀ y) (along false j₀ x))) t₀
      → t ≡ update (region 64 n cols (λ q j x. alpha ⊗ x)) t₁
      → r ≡ update (entries ld (only mask (half_packed n t (λ i q. A i (along down l₀ q))))) m
      → r ≡ update (entries ld (only mask (partly alpha A (from_column j₀ (entry_of fb b ldb)) down k (l + n)))) c₀
  unfolding partly half_packed
  masked-next l n l₀ c₀ t₀ t₁ t m r pos hn hl e em e₁ et er =
      only_then ld mask _ _ _ c₀ m r pos em er
      (λ i j h x.
      accumulate-same _ _ _ _ n _
      (λ q hq.
      held 64 n cols (λ q j. alpha ⊗ entry_of fb b ldb (along down l₀ q) (along false j₀ j)) t₀ t q j hn hl
      (scaled alpha n cols (λ y x. entry_of fb b ldb (along down l₀ y) (along false j₀ x)) t₀ t₁ t e₁ et) hq (few i j h)
      ∙ ap₂ (λ (x y : ℕ). alpha ⊗ entry_of fb b ldb x y) (turn_along down k l q e) (along-up j₀ j refl))
      (λ q hq. ap (A i) (turn_along down k l q e))
      ∙ accumulate-split (λ q. alpha ⊗ entry_of fb b ldb (turn down k q) (j₀ + j)) (λ q. A i (turn down k q)) l n x)

-- the same in a rectangle
module _ (alpha : Float) (A : Matrix) (fb : Form) (b : List Float) (ldb j₀ : ℕ) (down : Bool) (k ld rows cols : ℕ) where
  pub panel-next : (l n l₀ : ℕ) (c₀ t₀ t₁ t m r : List Float) → 0 < ld → n ≤ 64 → cols * 64 ≤ length t₀ → l₀ ≡ turn down k l
      → m ≡ update (region ld rows cols (partly alpha A (from_column j₀ (entry_of fb b ldb)) down k l)) c₀
      → t₁ ≡ update (region 64 n cols (λ y x _. entry_of fb b ldb (along down l₀ y) (along false j₀ x))) t₀
      → t ≡ update (region 64 n cols (λ q j x. alpha ⊗ x)) t₁
      → r ≡ update (region ld rows cols (half_packed n t (λ i q. A i (along down l₀ q)))) m
      → r ≡ update (region ld rows cols (partly alpha A (from_column j₀ (entry_of fb b ldb)) down k (l + n))) c₀
  unfolding region
  panel-next = masked-next (box rows cols) cols (λ i j h. (is-box rows cols i j h).1) alpha A fb b ldb j₀ down k ld
