-- Masks: a part that is lent and comes back adds the entries of its own mask to those that are done.
-- Assumes nothing.
use mathlib.Core.Bool.{Bool, true, false, ◌&&◌, and-false, and_comm}
use mathlib.Core.Path.{◌≡◌, refl, sym, ap, ap₂, ◌∙◌}
use mathlib.Core.Logic.{⊎_elim, ◌⊎◌}
use mathlib.Core.List.{List}
use Prim.Native.Nat.{ℕ, ◌+◌, ◌-◌, ◌*◌, ◌<◌, ◌≤◌}
use native.Mathlib.Omega.{arith}
use lib.Dec.{leb}
use lib.ListN.{length, take, drop}
use borrow.Rule.Slice.PartMut.{put_mid}
use borrow.Author.Tests.{leb-true, le-leb, lt-leb}
use Rattle.std.specs.Prelude.{if◌then◌else◌}
use Rattle.arrays.specs.Update.{EntryMap, Mask, update, entries, only, shifted}
use Rattle.arrays.proofs.Tests.{and_left, and_right}
use Rattle.arrays.proofs.UpdateLaws.{lt-or-ge}
use Rattle.arrays.proofs.EntryLaws.{entries-same, entries-keep, only_out, only_same, only-mask, only-join}
use Rattle.arrays.proofs.PartLaws.{block-then}

-- ---- a mask that is moved

-- the mask of a block that starts at row i₀ and column j₀
unfoldable pub moved : ℕ → ℕ → Mask → Mask
moved i₀ j₀ inner i j = (leb i₀ i && leb j₀ j) && inner (i - i₀) (j - j₀)

pub record Moved (i₀ j₀ : ℕ) (inner : Mask) (i j : ℕ) : Type 0 where
  pub row : i₀ ≤ i
  pub column : j₀ ≤ j
  pub inside : inner (i - i₀) (j - j₀) ≡ true

module _ (i₀ j₀ : ℕ) (inner : Mask) (i j : ℕ) where
  pub is-moved : moved i₀ j₀ inner i j ≡ true → Moved i₀ j₀ inner i j
  unfolding moved
  is-moved h =
      let k = and_left (leb i₀ i && leb j₀ j) _ h in
      record {
        row = leb-true _ _ (and_left (leb i₀ i) _ k);
        column = leb-true _ _ (and_right (leb i₀ i) _ k);
        inside = and_right (leb i₀ i && leb j₀ j) _ h;
      }

  pub moved_in : i₀ ≤ i → j₀ ≤ j → inner (i - i₀) (j - j₀) ≡ true → moved i₀ j₀ inner i j ≡ true
  unfolding moved
  moved_in r c h = rw (le-leb i₀ i r, le-leb j₀ j c) h

  pub moved_out : inner (i - i₀) (j - j₀) ≡ false → moved i₀ j₀ inner i j ≡ false
  unfolding moved
  moved_out h = rw (h, and-false)

-- a transposed mask that is moved
pub moved-across : (i₀ j₀ : ℕ) (inner across : Mask) (i j : ℕ) → ((r c : ℕ) → inner r c ≡ across c r) → moved i₀ j₀ inner i j ≡ moved j₀ i₀ across j i
unfolding moved
moved-across i₀ j₀ inner across i j h = ap₂ (λ (s t : Bool). s && t) (and_comm (leb i₀ i) (leb j₀ j)) (h (i - i₀) (j - j₀))

module _ {A : Type 0} (d : A) (ld : ℕ) (pos : 0 < ld) where
  -- an entry map of the block, on its mask, is one of the whole on the moved mask
  shifted-only : (i₀ j₀ : ℕ) (inner : Mask) (f : EntryMap A) (i j : ℕ) (x : A)
      → shifted i₀ j₀ (only inner (λ r c y. f (i₀ + r) (j₀ + c) y)) i j x ≡ only (moved i₀ j₀ inner) f i j x
  unfolding shifted only moved
  shifted-only i₀ j₀ inner f i j x =
      ⊎_elim
      (λ (r : i < i₀). rw (lt-leb i₀ i r) refl)
      (λ (r : i₀ ≤ i). ⊎_elim
      (λ (c : j < j₀). rw (lt-leb j₀ j c, and-false) refl)
      (λ (c : j₀ ≤ j).
      let er : i₀ + (i - i₀) ≡ i = omega arith in
      let ec : j₀ + (j - j₀) ≡ j = omega arith in
      rw (le-leb i₀ i r, le-leb j₀ j c, er, ec) refl)
      (lt-or-ge j j₀))
      (lt-or-ge i i₀)

  -- a part from entry (i₀, j₀) on that was lent and came back: m is the array before, with the entries of the mask `before` done, and those of `inner` are new
  pub lent-mask : (i₀ j₀ a : ℕ) (before inner after : Mask) (f g : EntryMap A) (l m ys : List A) → i₀ ≤ ld → a ≡ j₀ * ld + i₀ → a ≤ length l
      → m ≡ update (entries ld (only before f)) l
      → ys ≡ update (entries ld (only inner g)) (take (length m - a) (drop a m))
      → ((i j : ℕ) → inner i j ≡ true → (x : A) → g i j x ≡ f (i₀ + i) (j₀ + j) x)
      → ((i j : ℕ) → ld ≤ i₀ + i → inner i j ≡ false)
      → ((i j : ℕ) → before i j ≡ true → moved i₀ j₀ inner i j ≡ false)
      → ((i j : ℕ) → after i j ≡ (if before i j then true else moved i₀ j₀ inner i j))
      → put_mid a (length m - a) m ys ≡ update (entries ld (only after f)) l
  lent-mask i₀ j₀ a before inner after f g l m ys il ea al em ey same wide apart join =
      block-then d ld i₀ j₀ a (only before f) (only inner here) (only after f) l m ys pos il ea al em
      (ey ∙ entries-same ld (take (length m - a) (drop a m)) pos (only inner g) (only inner here) (λ i j hi b x. only_same inner g i j x here (λ h. same i j h x)))
      (λ i j w x. only_out inner here i j x (wide i j w))
      (λ i j hi b x.
      shifted-only i₀ j₀ inner f i j (only before f i j x)
      ∙ only-join before (moved i₀ j₀ inner) after f i j x (apart i j) (join i j))
    where
      here : EntryMap A
      here i j x = f (i₀ + i) (j₀ + j) x

-- a mask that has no entry
pub nothing-done : {A : Type 0} (ld : ℕ) (mask : Mask) (f : EntryMap A) (l : List A) → ((i j : ℕ) → mask i j ≡ false) → l ≡ update (entries ld (only mask f)) l
nothing-done ld mask f l h = sym (entries-keep ld (only mask f) l (λ i j x. only_out mask f i j x (h i j)))

-- Tests of three masks at one entry: c is the mask of what is in a or in b, and no entry is in both.
pub joined : (a b c : Bool) → (a ≡ true → c ≡ true) → (b ≡ true → c ≡ true) → (c ≡ true → (a ≡ true) ⊎ (b ≡ true)) → c ≡ (if a then true else b)
joined true b c p q r = p refl
joined false true c p q r = q refl
joined false false true p q r = ⊎_elim (λ h. sym h) (λ h. sym h) (r refl)
joined false false false p q r = refl

pub apart : (a b : Bool) → (a ≡ true → b ≡ true → ⊥) → a ≡ true → b ≡ false
apart a true h e = absurd (h e refl)
apart a false h e = refl

-- of two masks that make a third, the second has no entry
pub mask-alone : {A : Type 0} (ld : ℕ) (pos : 0 < ld) (f : EntryMap A) (l : List A) (first second both : Mask)
    → ((i j : ℕ) → both i j ≡ (if first i j then true else second i j)) → ((i j : ℕ) → second i j ≡ false)
    → update (entries ld (only first f)) l ≡ update (entries ld (only both f)) l
mask-alone ld pos f l first second both join none =
    entries-same ld l pos _ _
    (λ i j hi b x. only-mask first both f i j x (sym (join i j ∙ ap (λ (t : Bool). if first i j then true else t) (none i j) ∙ or-not (first i j))))
  where
    or-not : (b : Bool) → (if b then true else false) ≡ b
    or-not true = refl
    or-not false = refl
