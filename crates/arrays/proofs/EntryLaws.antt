-- Laws of entry maps: entry (i, j) of an array with leading dimension ld, masks, and two entry maps in a row.
-- Assumes nothing.
use mathlib.Core.Bool.{Bool, true, false, and-false}
use mathlib.Core.Path.{◌≡◌, refl, sym, ap, ap₂, ◌∙◌}
use mathlib.Core.Logic.{⊎_elim}
use mathlib.Core.List.{List}
use Prim.Native.Nat.{ℕ, ◌+◌, ◌-◌, ◌*◌, ◌/◌, ◌%◌, ◌<◌, ◌≤◌}
use native.Mathlib.Nat.{mod-lt, div-add-mod'}
use native.Mathlib.Omega.{arith}
use lib.Arith.{digits_div, digits_mod}
use lib.ListN.{length, get_or, get_or-eq_default}
use borrow.Author.Tests.{lt-ltb, le-ltb, le-leb, lt-leb}
use Rattle.std.specs.Prelude.{if◌then◌else◌}
use Rattle.arrays.specs.Update.{EntryMap, Mask, update, entries, only, box, shifted}
use Rattle.arrays.proofs.Tests.{if-both, if-same}
use Rattle.arrays.proofs.UpdateLaws.{lt-or-ge, update-then, update_same, update-keep, at-update, length-update}

module _ {A : Type 0} where
  -- element j * ld + i is entry (i, j)
  pub entry : (ld : ℕ) (f : EntryMap A) (i j p : ℕ) (x : A) → i < ld → p ≡ j * ld + i → entries ld f p x ≡ f i j x
  unfolding entries
  entry ld f i j p x h e = ap₂ (λ (r c : ℕ). f r c x) (ap (λ (k : ℕ). k % ld) e ∙ digits_mod j h) (ap (λ (k : ℕ). k / ld) e ∙ digits_div j h)

  pub entry_at : (d : A) (ld : ℕ) (f : EntryMap A) (l : List A) (i j : ℕ) → i < ld → j * ld + i < length l
      → get_or (update (entries ld f) l) (j * ld + i) d ≡ f i j (get_or l (j * ld + i) d)
  entry_at d ld f l i j h b = at-update (entries ld f) l (j * ld + i) d b ∙ entry ld f i j (j * ld + i) _ h refl

  -- an entry that the map keeps, within the array or not
  pub entry_kept : (d : A) (ld : ℕ) (f : EntryMap A) (l : List A) (i j : ℕ) → i < ld → ((x : A) → f i j x ≡ x)
      → get_or (update (entries ld f) l) (j * ld + i) d ≡ get_or l (j * ld + i) d
  entry_kept d ld f l i j h k =
      ⊎_elim
      (λ b. entry_at d ld f l i j h b ∙ k _)
      (λ b.
      get_or-eq_default (update (entries ld f) l) d (omega (arith, length-update (entries ld f) l)) ∙ sym (get_or-eq_default l d b))
      (lt-or-ge (j * ld + i) (length l))

  -- what holds of all entries (i, j) within the array holds of each element
  module _ (ld : ℕ) (l : List A) (pos : 0 < ld) where
    by-entry : (P : ℕ → ℕ → Type 0) → ((i j : ℕ) → i < ld → j * ld + i < length l → P i j) → (p : ℕ) → p < length l → P (p % ld) (p / ld)
    by-entry P h p b = h (p % ld) (p / ld) (mod-lt p pos) (rw div-add-mod' b)

    -- two entry maps in a row
    pub entries-then : (f g h : EntryMap A) → ((i j : ℕ) → i < ld → j * ld + i < length l → (x : A) → g i j (f i j x) ≡ h i j x)
        → update (entries ld g) (update (entries ld f) l) ≡ update (entries ld h) l
    unfolding entries
    entries-then f g h e = update-then _ _ _ l (by-entry (λ i j. (x : A) → g i j (f i j x) ≡ h i j x) e)

    pub entries-same : (f g : EntryMap A) → ((i j : ℕ) → i < ld → j * ld + i < length l → (x : A) → f i j x ≡ g i j x)
        → update (entries ld f) l ≡ update (entries ld g) l
    unfolding entries
    entries-same f g e = update_same _ _ l (by-entry (λ i j. (x : A) → f i j x ≡ g i j x) e)

  pub entries-keep : (ld : ℕ) (f : EntryMap A) (l : List A) → ((i j : ℕ) (x : A) → f i j x ≡ x) → update (entries ld f) l ≡ l
  unfolding entries
  entries-keep ld f l e = update-keep _ l (λ p b x. e (p % ld) (p / ld) x)

  -- ---- masks

  module _ (inside : Mask) (f : EntryMap A) (i j : ℕ) (x : A) where
    pub only-in : inside i j ≡ true → only inside f i j x ≡ f i j x
    unfolding only
    only-in h = rw h

    pub only_out : inside i j ≡ false → only inside f i j x ≡ x
    unfolding only
    only_out h = rw h

    pub only_same : (g : EntryMap A) → (inside i j ≡ true → f i j x ≡ g i j x) → only inside f i j x ≡ only inside g i j x
    unfolding only
    only_same g h = if-both (inside i j) (f i j x) x (g i j x) x h (λ _. refl)

    pub only-keep : f i j x ≡ x → only inside f i j x ≡ x
    unfolding only
    only-keep h = if-both (inside i j) (f i j x) x x x (λ _. h) (λ _. refl) ∙ if-same (inside i j) x

  -- one mask and then another that it does not meet
  pub only-join : (first second both : Mask) (f : EntryMap A) (i j : ℕ) (x : A)
      → (first i j ≡ true → second i j ≡ false) → both i j ≡ (if first i j then true else second i j)
      → only second f i j (only first f i j x) ≡ only both f i j x
  unfolding only
  only-join first second both f i j x apart h = go (first i j) (second i j) (both i j) apart h
    where
      go : (a b c : Bool) → (a ≡ true → b ≡ false) → c ≡ (if a then true else b)
          → (if b then f i j (if a then f i j x else x) else (if a then f i j x else x)) ≡ (if c then f i j x else x)
      go true b c p q = rw (p refl, q)
      go false b c p q = rw q

  -- two masks that agree at an entry
  pub only-mask : (first second : Mask) (f : EntryMap A) (i j : ℕ) (x : A) → first i j ≡ second i j → only first f i j x ≡ only second f i j x
  unfolding only
  only-mask first second f i j x h = ap (λ (b : Bool). if b then f i j x else x) h

  -- two entry maps on one mask, one after the other
  pub only_then : (ld : ℕ) (inside : Mask) (f g h : EntryMap A) (l m r : List A) → 0 < ld
      → m ≡ update (entries ld (only inside f)) l → r ≡ update (entries ld (only inside g)) m
      → ((i j : ℕ) → inside i j ≡ true → (x : A) → g i j (f i j x) ≡ h i j x)
      → r ≡ update (entries ld (only inside h)) l
  unfolding only
  only_then ld inside f g h l m r pos em er e =
      er ∙ ap (update (entries ld (only inside g))) em
      ∙ entries-then ld l pos (only inside f) (only inside g) (only inside h) (λ i j hi b x. go i j x (inside i j) refl)
    where
      go : (i j : ℕ) (x : A) (b : Bool) → inside i j ≡ b
          → (if b then g i j (if b then f i j x else x) else (if b then f i j x else x)) ≡ (if b then h i j x else x)
      go i j x true q = e i j q x
      go i j x false q = refl

-- ---- boxes

pub box_in : (rows cols i j : ℕ) → i < rows → j < cols → box rows cols i j ≡ true
unfolding box
box_in rows cols i j r c = rw (lt-ltb i rows r, lt-ltb j cols c)

pub box-row-out : (rows cols i j : ℕ) → rows ≤ i → box rows cols i j ≡ false
unfolding box
box-row-out rows cols i j r = rw (le-ltb i rows r)

pub box-column-out : (rows cols i j : ℕ) → cols ≤ j → box rows cols i j ≡ false
unfolding box
box-column-out rows cols i j c = rw (le-ltb j cols c, and-false)

-- ---- blocks at an offset

module _ {A : Type 0} (i₀ j₀ : ℕ) (f : EntryMap A) where
  pub shifted_in : (i j : ℕ) (x : A) → shifted i₀ j₀ f (i₀ + i) (j₀ + j) x ≡ f i j x
  unfolding shifted
  shifted_in i j x =
      let r : i₀ + i - i₀ ≡ i = omega arith in
      let c : j₀ + j - j₀ ≡ j = omega arith in
      rw (le-leb i₀ (i₀ + i) (omega arith), le-leb j₀ (j₀ + j) (omega arith), r, c)

  pub shifted-row-out : (i j : ℕ) (x : A) → i < i₀ → shifted i₀ j₀ f i j x ≡ x
  unfolding shifted
  shifted-row-out i j x h = rw (lt-leb i₀ i h)

  pub shifted-column-out : (i j : ℕ) (x : A) → j < j₀ → shifted i₀ j₀ f i j x ≡ x
  unfolding shifted
  shifted-column-out i j x h = rw (lt-leb j₀ j h, and-false)
