-- Laws of a walk over a small triangle: a column more, the passes that it takes, some terms more.
-- Assumes nothing.
use mathlib.Core.Bool.{Bool, true, false}
use mathlib.Core.Path.{◌≡◌, refl, sym, ap, ◌∙◌}
use mathlib.Core.List.{List}
use Prim.Native.Nat.{ℕ, ◌+◌, ◌-◌, ◌*◌, ◌<◌, ◌≤◌}
use native.Mathlib.Nat.{zero-add, add-mul, mul-add, sub-zero}
use native.Mathlib.Omega.{arith}
use lib.ListN.{length, take, drop}
use lib.Ieee.{Float, nan}
use borrow.Rule.Slice.PartMut.{put_mid}
use Rattle.arrays.specs.Update.{update, below, entries, only, corner}
use Rattle.arrays.proofs.EntryLaws.{entries-keep, only-keep, only_then}
use Rattle.arrays.proofs.PartLaws.{tail_at}
use Rattle.floats.specs.Array.{at}
use Rattle.blocks.specs.Terms.{packed}
use Rattle.walks.specs.Walk.{passes}
use Rattle.blocks.proofs.TermLaws.{accumulate-same, packed_none, packed_more, column-of}
use Rattle.arrays.proofs.TrapezoidLaws.{Inside, column-more}

-- ---- the rows from i₀ on, by their part of u

pub packed-rows : (n : ℕ) (u t : List Float) (i₀ i j : ℕ) (e : Float)
    → packed n (take (length u - i₀) (drop i₀ u)) t i j e ≡ packed n u t (i₀ + i) j e
unfolding packed
packed-rows n u t i₀ i j e =
    accumulate-same _ _ _ _ n e (λ p b. refl) (λ p b. tail_at i₀ u (p * 64 + i) nan ∙ ap (at u) (omega arith))

-- a column more
module _ (lower : Bool) (ld order n j first rows : ℕ) (u t l m ys : List Float) (pos : 0 < ld) (fit : order ≤ ld) (in_block : j < order) where
  pub corner-next : Inside lower order j first rows → j * ld + first ≤ length l
      → m ≡ update (entries ld (only (corner lower order j) (packed n u t))) l
      → ys ≡ update (below rows (λ i e. packed n (take (length u - first) (drop first u)) (take (length t - j * 64) (drop (j * 64) t)) i 0 e)) (take (length m - (j * ld + first)) (drop (j * ld + first) m))
      → put_mid (j * ld + first) (length m - (j * ld + first)) m ys ≡ update (entries ld (only (corner lower order (j + 1)) (packed n u t))) l
  corner-next inside al em ey =
      column-more 0 order j j first rows (sym (zero-add j)) in_block nan lower (packed n u t) (λ i e. packed n (take (length u - first) (drop first u)) t i j e) ld (j * ld + first)
      l m ys inside pos fit refl al em
      (column-of n rows j (take (length u - first) (drop first u)) t (take (length m - (j * ld + first)) (drop (j * ld + first) m)) ys ey)
      (λ i x. packed-rows n u t first i j x)

-- ---- the passes

passes-more : (t : ℕ) → passes (t + 1) ≡ passes t + (t + 1)
unfolding passes
passes-more t = omega (arith, add-mul t 1 (t + 1 + 1), mul-add t (t + 1) 1)

-- `count` passes are those of the columns below j.
abbrev pub Counted : Bool → ℕ → ℕ → ℕ → Type 0
Counted true order j count = count + passes (order - j) ≡ passes order
Counted false order j count = count ≡ passes j

pub counted_none : (lower : Bool) (order : ℕ) → Counted lower order 0 0
unfolding passes
counted_none true order = zero-add _ ∙ ap passes (sub-zero order)
counted_none false order = refl

pub counted-more : (lower : Bool) (order j first rows count : ℕ) → Inside lower order j first rows → j < order → Counted lower order j count
    → Counted lower order (j + 1) (count + rows)
counted-more true order j first rows count inside h e =
    let k : order - (j + 1) + 1 ≡ order - j = omega arith in omega (arith, e, ap passes k, passes-more (order - (j + 1)))
counted-more false order j first rows count inside h e = omega (arith, e, passes-more j)

pub counted-all : (lower : Bool) (order count : ℕ) → Counted lower order order count → count ≡ passes order
unfolding passes
counted-all true order count e = let k : order - order ≡ 0 = omega arith in omega (arith, e, ap passes k)
counted-all false order count e = e

-- ---- some terms more

module _ (lower : Bool) (ld order : ℕ) (u t l : List Float) where
  pub walked_none : l ≡ update (entries ld (only (corner lower order order) (packed 0 u t))) l
  walked_none = sym (entries-keep ld _ l (λ i j x. only-keep (corner lower order order) _ i j x (packed_none u t i j x)))

  pub walked_more : (q n : ℕ) (m r : List Float) → 0 < ld
      → m ≡ update (entries ld (only (corner lower order order) (packed q u t))) l
      → r ≡ update (entries ld (only (corner lower order order) (packed n (take (length u - q * 64) (drop (q * 64) u)) (take (length t - q) (drop q t))))) m
      → r ≡ update (entries ld (only (corner lower order order) (packed (q + n) u t))) l
  walked_more q n m r pos em er =
      only_then ld (corner lower order order) (packed q u t) _ (packed (q + n) u t) l m r pos em er (λ i j h x. packed_more q n u t i j x)
