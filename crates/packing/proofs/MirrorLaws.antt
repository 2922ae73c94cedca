-- Laws of a line of a symmetric factor: the run that is stored and the run that is mirrored.
-- Assumes nothing.
use mathlib.Core.Bool.{Bool, true, false}
use mathlib.Core.Path.{◌≡◌, sym, ap, ◌∙◌}
use mathlib.Core.Logic.{⊎_elim}
use mathlib.Core.List.{List}
use Prim.Native.Nat.{ℕ, ◌+◌, ◌-◌, ◌*◌, ◌<◌, ◌≤◌}
use native.Mathlib.Nat.{add-mul}
use native.Mathlib.Omega.{arith}
use lib.ListN.{length, take, drop}
use lib.Ieee.{Float, nan}
use borrow.Rule.Slice.PartMut.{put_mid}
use Rattle.arrays.specs.Update.{update, below}
use Rattle.arrays.proofs.UpdateLaws.{lt-or-ge, below_none, below-same, below_in, below_out}
use Rattle.arrays.proofs.PartLaws.{tail_at, part_then}
use Rattle.floats.specs.Array.{at}
use Rattle.packing.specs.Factor.{mirrored_form, index_of, entry_of}
use Rattle.packing.proofs.FactorLaws.{index-lower, index-lower-mirrored, index-upper, index-upper-mirrored}

-- ---- one run

pub empty-run : (n : ℕ) (f : ℕ → Float → Float) (l : List Float) → n ≡ 0 → l ≡ update (below n f) l
empty-run n f l e = rw e (below_none f l)

module _ (a : List Float) (ld i j n : ℕ) (l m : List Float) where
  pub stored-run : m ≡ update (below n (λ y x. at (take (length a - (j * ld + i)) (drop (j * ld + i) a)) y)) l
      → m ≡ update (below n (λ y x. at a (j * ld + (i + y)))) l
  stored-run h = h ∙ below-same _ _ l n (λ y b x. tail_at (j * ld + i) a y nan ∙ ap (at a) (omega arith))

  pub mirrored-run : m ≡ update (below n (λ y x. at (take (length a - (i * ld + j)) (drop (i * ld + j) a)) (y * ld))) l
      → m ≡ update (below n (λ y x. at a ((i + y) * ld + j))) l
  mirrored-run h = h ∙ below-same _ _ l n (λ y b x. tail_at (i * ld + j) a (y * ld) nan ∙ ap (at a) (omega (arith, add-mul i y ld)))

-- ---- two runs, the second in the part from k on

two_runs : (k n : ℕ) (f g h : ℕ → Float) (l m ys : List Float) → k ≤ n → n ≤ length l
    → m ≡ update (below k (λ y x. f y)) l → ys ≡ update (below (n - k) (λ y x. g y)) (take (length m - k) (drop k m))
    → ((y : ℕ) → y < k → f y ≡ h y) → ((y : ℕ) → y < n - k → g y ≡ h (k + y))
    → put_mid k (length m - k) m ys ≡ update (below n (λ y x. h y)) l
two_runs k n f g h l m ys kn nl em ey before after =
    part_then nan k (below k F) (below (n - k) G) (below n H) l m ys (omega arith) em ey
    (λ p b x. below_in k F p x b ∙ before p b ∙ sym (below_in n H p x (omega arith)))
    (λ y b x.
    ap (below (n - k) G y) (below_out k F (k + y) x (omega arith))
    ∙ ⊎_elim
    (λ c. below_in (n - k) G y x c ∙ after y c ∙ sym (below_in n H (k + y) x (omega arith)))
    (λ c. below_out (n - k) G y x c ∙ sym (below_out n H (k + y) x (omega arith)))
    (lt-or-ge y (n - k)))
  where
    F : ℕ → Float → Float
    F y x = f y

    G : ℕ → Float → Float
    G y x = g y

    H : ℕ → Float → Float
    H y x = h y

-- ---- the entries of a line, by the triangle that is stored

module _ {lower : Bool} (ld i j y : ℕ) where
  pub lower-mirrored : lower ≡ true → i + y < j → index_of (mirrored_form lower) ld (i + y) j ≡ (i + y) * ld + j
  lower-mirrored e h = index-lower-mirrored ld (i + y) j (ap mirrored_form e) h

  pub lower-stored : lower ≡ true → j ≤ i + y → index_of (mirrored_form lower) ld (i + y) j ≡ j * ld + (i + y)
  lower-stored e h = index-lower ld (i + y) j (ap mirrored_form e) h

  pub upper-stored : lower ≡ false → i + y < j + 1 → index_of (mirrored_form lower) ld (i + y) j ≡ j * ld + (i + y)
  upper-stored e h = index-upper ld (i + y) j (ap mirrored_form e) (omega arith)

  pub upper-mirrored : lower ≡ false → j + 1 ≤ i + y → index_of (mirrored_form lower) ld (i + y) j ≡ (i + y) * ld + j
  upper-mirrored e h = index-upper-mirrored ld (i + y) j (ap mirrored_form e) (omega arith)

module _ {lower : Bool} (a : List Float) (ld i j k n : ℕ) (l m ys : List Float) (room : n ≤ length l) where
  pub lower-line : lower ≡ true → (k ≤ n) × ((y : ℕ) → y < k → i + y < j) × ((y : ℕ) → k ≤ y → y < n → j ≤ i + y)
      → m ≡ update (below k (λ y x. at a ((i + y) * ld + j))) l
      → ys ≡ update (below (n - k) (λ y x. at a (j * ld + (i + k + y)))) (take (length m - k) (drop k m))
      → put_mid k (length m - k) m ys ≡ update (below n (λ y x. entry_of (mirrored_form lower) a ld (i + y) j)) l
  unfolding entry_of
  lower-line e c em ey =
      two_runs k n _ _ _ l m ys c.0 room em ey
      (λ y b. ap (at a) (sym (lower-mirrored ld i j y e (c.1 y b))))
      (λ y b. ap (at a) (omega (arith, lower-stored ld i j (k + y) e (c.2 (k + y) (omega arith) (omega arith)))))

  pub upper-line : lower ≡ false → (k ≤ n) × ((y : ℕ) → y < k → i + y < j + 1) × ((y : ℕ) → k ≤ y → y < n → j + 1 ≤ i + y)
      → m ≡ update (below k (λ y x. at a (j * ld + (i + y)))) l
      → ys ≡ update (below (n - k) (λ y x. at a ((i + k + y) * ld + j))) (take (length m - k) (drop k m))
      → put_mid k (length m - k) m ys ≡ update (below n (λ y x. entry_of (mirrored_form lower) a ld (i + y) j)) l
  unfolding entry_of
  upper-line e c em ey =
      two_runs k n _ _ _ l m ys c.0 room em ey
      (λ y b. ap (at a) (sym (upper-stored ld i j y e (c.1 y b))))
      (λ y b.
      let z : i + k + y ≡ i + (k + y) = omega arith in
      ap (at a) (ap (λ (r : ℕ). r * ld + j) z ∙ sym (upper-mirrored ld i j (k + y) e (c.2 (k + y) (omega arith) (omega arith)))))
