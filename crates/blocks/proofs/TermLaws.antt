-- Laws of `accumulate` and of a product of packed blocks: no terms, some terms more, a part of the columns.
-- Assumes nothing.
use mathlib.Core.Path.{◌≡◌, refl, sym, ap, ap₂, ◌∙◌}
use mathlib.Core.Logic.{⊎_elim}
use mathlib.Core.List.{List}
use Prim.Native.Nat.{ℕ, ◌+◌, ◌-◌, ◌*◌, ◌<◌}
use native.Mathlib.Nat.{zero-add, add-zero}
use native.Mathlib.Omega.{arith}
use lib.ListN.{length, take, drop}
use lib.Ieee.{Float, nan}
use Rattle.arrays.specs.Update.{update, below, region}
use Rattle.arrays.specs.Fold.{fold}
use Rattle.arrays.proofs.UpdateLaws.{below_then, below-same, update-keep, below_in, below_out, lt-or-ge}
use Rattle.arrays.proofs.RegionLaws.{region-then, region-keep, region-same}
use Rattle.arrays.proofs.PartLaws.{tail_at}
use Rattle.arrays.proofs.FoldLaws.{fold-none, fold-split, fold_same}
use Rattle.floats.specs.Operations.{◌⊕◌, ◌⊗◌}
use Rattle.floats.specs.Array.{at}
use Rattle.blocks.specs.Terms.{accumulate, packed, AtOnce}

pub accumulate-none : (v u : ℕ → Float) (e : Float) → accumulate v u 0 e ≡ e
unfolding accumulate
accumulate-none v u e = fold-none _ e

pub accumulate-same : (v u v' u' : ℕ → Float) (n : ℕ) (e : Float) → ((q : ℕ) → q < n → v q ≡ v' q) → ((q : ℕ) → q < n → u q ≡ u' q)
    → accumulate v u n e ≡ accumulate v' u' n e
unfolding accumulate
accumulate-same v u v' u' n e hv hu = fold_same _ _ n e (λ q b x. ap₂ (λ (s r : Float). x ⊕ s ⊗ r) (hv q b) (hu q b))

-- the terms below p and then n more
pub accumulate-split : (v u : ℕ → Float) (p n : ℕ) (e : Float)
    → accumulate (λ q. v (p + q)) (λ q. u (p + q)) n (accumulate v u p e) ≡ accumulate v u (p + n) e
unfolding accumulate
accumulate-split v u p n e = sym (fold-split _ p n e)

pub packed_none : (u t : List Float) (i j : ℕ) (e : Float) → packed 0 u t i j e ≡ e
unfolding packed
packed_none u t i j e = accumulate-none _ _ e

pub packed-one : (u t : List Float) (i j : ℕ) (e : Float) → packed 1 u t i j e ≡ e ⊕ at t (j * 64 + 0) ⊗ at u i
unfolding packed accumulate fold
packed-one u t i j e = ap (λ (p : ℕ). e ⊕ at t (j * 64 + 0) ⊗ at u p) (zero-add i)

pub packed-four : (u t : List Float) (i j : ℕ) (e : Float)
    → packed 4 u t i j e
    ≡ e ⊕ at t (j * 64 + 0) ⊗ at u i ⊕ at t (j * 64 + 1) ⊗ at u (64 + i) ⊕ at t (j * 64 + 2) ⊗ at u (128 + i) ⊕ at t (j * 64 + 3) ⊗ at u (192 + i)
unfolding packed accumulate fold
packed-four u t i j e =
    ap
    (λ (p : ℕ). e ⊕ at t (j * 64 + 0) ⊗ at u p ⊕ at t (j * 64 + 1) ⊗ at u (64 + i) ⊕ at t (j * 64 + 2) ⊗ at u (128 + i) ⊕ at t (j * 64 + 3) ⊗ at u (192 + i))
    (zero-add i)

pub packed-eight : (u t : List Float) (i j : ℕ) (e : Float)
    → packed 8 u t i j e
    ≡ e ⊕ at t (j * 64 + 0) ⊗ at u i ⊕ at t (j * 64 + 1) ⊗ at u (64 + i) ⊕ at t (j * 64 + 2) ⊗ at u (128 + i) ⊕ at t (j * 64 + 3) ⊗ at u (192 + i)
    ⊕ at t (j * 64 + 4) ⊗ at u (256 + i) ⊕ at t (j * 64 + 5) ⊗ at u (320 + i) ⊕ at t (j * 64 + 6) ⊗ at u (384 + i) ⊕ at t (j * 64 + 7) ⊗ at u (448 + i)
unfolding packed accumulate fold
packed-eight u t i j e =
    ap
    (λ (p : ℕ).
    e ⊕ at t (j * 64 + 0) ⊗ at u p ⊕ at t (j * 64 + 1) ⊗ at u (64 + i) ⊕ at t (j * 64 + 2) ⊗ at u (128 + i) ⊕ at t (j * 64 + 3) ⊗ at u (192 + i)
    ⊕ at t (j * 64 + 4) ⊗ at u (256 + i) ⊕ at t (j * 64 + 5) ⊗ at u (320 + i) ⊕ at t (j * 64 + 6) ⊗ at u (384 + i) ⊕ at t (j * 64 + 7) ⊗ at u (448 + i))
    (zero-add i)

pub at-once-some : {n : ℕ} → AtOnce n → 0 < n
at-once-some h = ⊎_elim (λ e. omega arith) (⊎_elim (λ e. omega arith) (λ e. omega arith)) h

-- n terms more: their part of u and of t
pub packed_more : (q n : ℕ) (u t : List Float) (i j : ℕ) (e : Float)
    → packed n (take (length u - q * 64) (drop (q * 64) u)) (take (length t - q) (drop q t)) i j (packed q u t i j e) ≡ packed (q + n) u t i j e
unfolding packed
packed_more q n u t i j e =
    accumulate-same _ _ _ _ n _
    (λ p b. tail_at q t (j * 64 + p) nan ∙ ap (at t) (omega arith))
    (λ p b. tail_at (q * 64) u (p * 64 + i) nan ∙ ap (at u) (omega arith))
    ∙ accumulate-split (λ p. at t (j * 64 + p)) (λ p. at u (p * 64 + i)) q n e

-- the columns from j₀ on: their part of t
pub packed-columns : (n : ℕ) (u t : List Float) (j₀ i j : ℕ) (e : Float)
    → packed n u (take (length t - j₀ * 64) (drop (j₀ * 64) t)) i j e ≡ packed n u t i (j₀ + j) e
unfolding packed
packed-columns n u t j₀ i j e =
    accumulate-same _ _ _ _ n e (λ p b. tail_at (j₀ * 64) t (j * 64 + p) nan ∙ ap (at t) (omega arith)) (λ p b. refl)

-- ---- the same for the elements below `rows` of one column, and for a region

module _ (rows : ℕ) (u t l : List Float) where
  pub column-none : l ≡ update (below rows (λ i e. packed 0 u t i 0 e)) l
  column-none = sym (update-keep _ l (λ p b e. ⊎_elim (λ h. below_in rows _ p e h ∙ packed_none u t p 0 e) (λ h. below_out rows _ p e h) (lt-or-ge p rows)))

  pub column-more : (q n : ℕ) (m r : List Float)
      → m ≡ update (below rows (λ i e. packed q u t i 0 e)) l
      → r ≡ update (below rows (λ i e. packed n (take (length u - q * 64) (drop (q * 64) u)) (take (length t - q) (drop q t)) i 0 e)) m
      → r ≡ update (below rows (λ i e. packed (q + n) u t i 0 e)) l
  column-more q n m r em er =
      er ∙ ap (update (below rows (λ i e. packed n (take (length u - q * 64) (drop (q * 64) u)) (take (length t - q) (drop q t)) i 0 e))) em
      ∙ below_then _ _ _ l rows (λ i b e. packed_more q n u t i 0 e)

module _ (ld rows cols : ℕ) (u t l : List Float) where
  pub region-none : l ≡ update (region ld rows cols (packed 0 u t)) l
  region-none = region-keep ld rows cols (packed 0 u t) l (λ i j r c e. packed_none u t i j e)

  pub region-more : 0 < ld → (q n : ℕ) (m r : List Float)
      → m ≡ update (region ld rows cols (packed q u t)) l
      → r ≡ update (region ld rows cols (packed n (take (length u - q * 64) (drop (q * 64) u)) (take (length t - q) (drop q t)))) m
      → r ≡ update (region ld rows cols (packed (q + n) u t)) l
  region-more pos q n m r em er =
      region-then ld rows cols (packed q u t) (packed n (take (length u - q * 64) (drop (q * 64) u)) (take (length t - q) (drop q t))) (packed (q + n) u t)
      l m r pos em er (λ i j hi hj e. packed_more q n u t i j e)

-- ---- the columns from j on, by their part of t

module _ (n rows j : ℕ) (u t w ys : List Float) where
  pub columns_of : (ld cols : ℕ) → 0 < ld
      → ys ≡ update (region ld rows cols (packed n u (take (length t - j * 64) (drop (j * 64) t)))) w
      → ys ≡ update (region ld rows cols (λ i c e. packed n u t i (j + c) e)) w
  columns_of ld cols pos e = e ∙ region-same ld rows cols _ _ w pos (λ i c hi hc x. packed-columns n u t j i c x)

  pub column-of : ys ≡ update (below rows (λ i e. packed n u (take (length t - j * 64) (drop (j * 64) t)) i 0 e)) w
      → ys ≡ update (below rows (λ i e. packed n u t i j e)) w
  column-of e =
      e ∙ below-same _ _ w rows (λ i b x. packed-columns n u t j i 0 x ∙ ap (λ (k : ℕ). packed n u t i k x) (add-zero j))
