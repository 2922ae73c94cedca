-- Laws of `grid`: the place of a cell, two updates in a row, the elements of some lines that are lent and come back.
-- Assumes nothing.
use mathlib.Core.Bool.{Bool, true, false, and-false}
use mathlib.Core.Path.{◌≡◌, refl, sym, ap, subst, ◌∙◌}
use mathlib.Core.Logic.{⊎_elim}
use mathlib.Core.List.{List}
use Prim.Native.Nat.{ℕ, ◌+◌, ◌-◌, ◌*◌, ◌/◌, ◌%◌, ◌<◌, ◌≤◌}
use native.Mathlib.Nat.{div-add-mod', zero-add}
use native.Mathlib.Omega.{arith}
use lib.ListN.{length, get_or, take, drop}
use borrow.Rule.Slice.PartMut.{put_mid}
use borrow.Author.Tests.{lt-ltb, le-ltb, le-leb, lt-leb}
use Rattle.std.specs.Prelude.{if◌then◌else◌}
use Rattle.arrays.specs.Update.{EntryMap, update, entries, region}
use Rattle.arrays.proofs.UpdateLaws.{lt-or-ge, length-update, at-update, is-update}
use Rattle.arrays.proofs.PartLaws.{column-room}
use Rattle.arrays.proofs.RegionLaws.{boxed, boxed-in, boxed-row-out, boxed-column-out, region-at, region-keep, region-same, region-then, region-block}
use Rattle.lines.specs.Lines.{cell, grid, within, Room}

-- ---- the elements from lo on and below lo + n

pub within_in : (lo n q : ℕ) → lo ≤ q → q < lo + n → within lo n q ≡ true
unfolding within
within_in lo n q h k = rw (le-leb lo q h, lt-ltb q (lo + n) k)

pub within-before : (lo n q : ℕ) → q < lo → within lo n q ≡ false
unfolding within
within-before lo n q h = rw (lt-leb lo q h)

pub within-after : (lo n q : ℕ) → lo + n ≤ q → within lo n q ≡ false
unfolding within
within-after lo n q h = rw (le-ltb q (lo + n) h, and-false)

-- an element that is the same whether it is chosen or not
pub by-within : {A : Type 0} (lo n q : ℕ) (x y z : A) → (lo ≤ q → q < lo + n → x ≡ z) → (q < lo → y ≡ z) → (lo + n ≤ q → y ≡ z)
    → (if within lo n q then x else y) ≡ z
by-within {A} lo n q x y z inside before after =
    ⊎_elim
    (λ h. ap choice (within-before lo n q h) ∙ before h)
    (λ h. ⊎_elim
    (λ k. ap choice (within_in lo n q h k) ∙ inside h k)
    (λ k. ap choice (within-after lo n q k) ∙ after k)
    (lt-or-ge q (lo + n)))
    (lt-or-ge q lo)
  where
    choice : Bool → A
    choice b = if b then x else y

-- ---- room

pub some-ld : (left : Bool) (ld m lines len : ℕ) → 0 < m → 0 < lines → Room left ld m lines len → 0 < ld
some-ld true ld m lines len a b r = omega arith
some-ld false ld m lines len a b r = omega arith

pub cell-inside : (left : Bool) (ld m lines len q l : ℕ) → Room left ld m lines len → q < m → l < lines → cell left ld q l < len
unfolding cell
cell-inside true ld m lines len q l r hq hl = omega (arith, column-room ld hl)
cell-inside false ld m lines len q l r hq hl = omega (arith, column-room ld hq)

-- ---- updates

-- two regions that agree at the values that the array has
region-same-at : {A : Type 0} (d : A) (ld rows cols : ℕ) (f g : EntryMap A) (b : List A)
    → ((i j : ℕ) → i < rows → j < cols → f i j (get_or b (j * ld + i) d) ≡ g i j (get_or b (j * ld + i) d))
    → update (region ld rows cols f) b ≡ update (region ld rows cols g) b
unfolding region entries
region-same-at d ld rows cols f g b h =
    is-update d (region ld rows cols g) b _ (length-update (region ld rows cols f) b)
    (λ p k.
    let i : ℕ = p % ld in
    let j : ℕ = p / ld in
    at-update (region ld rows cols f) b p d k
    ∙ boxed rows cols f i j _ _
    (λ r c.
    subst (λ (z : ℕ). f i j (get_or b z d) ≡ g i j (get_or b z d)) (div-add-mod' p ld) (h i j r c) ∙ sym (boxed-in rows cols g i j _ r c))
    (λ r. sym (boxed-row-out rows cols g i j _ r))
    (λ c. sym (boxed-column-out rows cols g i j _ c)))

module _ {A : Type 0} where
  -- two updates in a row
  pub grid-then : (left : Bool) (ld m lines : ℕ) (f g h : ℕ → ℕ → A → A) (b c e : List A) → 0 < ld
      → c ≡ update (grid left ld m lines f) b → e ≡ update (grid left ld m lines g) c
      → ((q l : ℕ) → q < m → l < lines → (x : A) → g q l (f q l x) ≡ h q l x) → e ≡ update (grid left ld m lines h) b
  unfolding grid
  grid-then true ld m lines f g h b c e pos ec ee k = region-then ld m lines _ _ _ b c e pos ec ee (λ i j hi hj x. k i j hi hj x)
  grid-then false ld m lines f g h b c e pos ec ee k = region-then ld lines m _ _ _ b c e pos ec ee (λ i j hi hj x. k j i hj hi x)

  pub grid-same : (left : Bool) (ld m lines : ℕ) (f g : ℕ → ℕ → A → A) (b : List A) → 0 < ld
      → ((q l : ℕ) → q < m → l < lines → (x : A) → f q l x ≡ g q l x)
      → update (grid left ld m lines f) b ≡ update (grid left ld m lines g) b
  unfolding grid
  grid-same true ld m lines f g b pos h = region-same ld m lines _ _ b pos (λ i j hi hj x. h i j hi hj x)
  grid-same false ld m lines f g b pos h = region-same ld lines m _ _ b pos (λ i j hi hj x. h j i hj hi x)

  -- the same at the values that the array has
  pub grid-same-at : (d : A) (left : Bool) (ld m lines : ℕ) (f g : ℕ → ℕ → A → A) (b : List A)
      → ((q l : ℕ) → q < m → l < lines → f q l (get_or b (cell left ld q l) d) ≡ g q l (get_or b (cell left ld q l) d))
      → update (grid left ld m lines f) b ≡ update (grid left ld m lines g) b
  unfolding grid cell
  grid-same-at d true ld m lines f g b h = region-same-at d ld m lines _ _ b (λ i j hi hj. h i j hi hj)
  grid-same-at d false ld m lines f g b h = region-same-at d ld lines m _ _ b (λ i j hi hj. h j i hj hi)

  pub grid-keep : (left : Bool) (ld m lines : ℕ) (f : ℕ → ℕ → A → A) (b : List A)
      → ((q l : ℕ) → q < m → l < lines → (x : A) → f q l x ≡ x) → b ≡ update (grid left ld m lines f) b
  unfolding grid
  grid-keep true ld m lines f b h = region-keep ld m lines _ b (λ i j hi hj x. h i j hi hj x)
  grid-keep false ld m lines f b h = region-keep ld lines m _ b (λ i j hi hj x. h j i hj hi x)

  -- element q of line l
  pub grid-cell : (left : Bool) (ld m lines len : ℕ) (f : ℕ → ℕ → A → A) (q l : ℕ) (x : A) → Room left ld m lines len → q < m → l < lines
      → grid left ld m lines f (cell left ld q l) x ≡ f q l x
  unfolding grid cell
  grid-cell true ld m lines len f q l x r hq hl = region-at ld m lines _ q l x (omega arith) hq hl
  grid-cell false ld m lines len f q l x r hq hl = region-at ld lines m _ l q x (omega arith) hl hq

  pub grid-at : (d : A) (left : Bool) (ld m lines : ℕ) (f : ℕ → ℕ → A → A) (b c : List A) (q l : ℕ)
      → Room left ld m lines (length b) → q < m → l < lines → c ≡ update (grid left ld m lines f) b
      → get_or c (cell left ld q l) d ≡ f q l (get_or b (cell left ld q l) d)
  grid-at d left ld m lines f b c q l r hq hl e =
      ap (λ (k : List A). get_or k (cell left ld q l) d) e
      ∙ at-update (grid left ld m lines f) b (cell left ld q l) d (cell-inside left ld m lines (length b) q l r hq hl)
      ∙ grid-cell left ld m lines (length b) f q l _ r hq hl

  -- the elements from y on, h of them, that were lent as `&mut b[a..]` and came back
  pub grid-lent : (d : A) (left : Bool) (ld m lines y h a : ℕ) (f g : ℕ → ℕ → A → A) (b ys : List A)
      → 0 < ld → Room left ld m lines (length b) → y + h ≤ m → a ≡ cell left ld y 0 → a ≤ length b
      → ys ≡ update (grid left ld h lines g) (take (length b - a) (drop a b))
      → ((q l : ℕ) → q < h → l < lines → (x : A) → g q l x ≡ f (y + q) l x)
      → put_mid a (length b - a) b ys ≡ update (grid left ld m lines (λ q l x. if within y h q then f q l x else x)) b
  unfolding grid cell
  grid-lent d true ld m lines y h a f g b ys pos room hm ea al ey same =
      region-block d ld pos y 0 h lines m lines a (λ i j x. x) _ _ b b ys ea hm room.0 (omega arith) al (region-keep ld m lines _ b (λ i j hi hj x. refl)) ey
      (λ i j hi hj x.
      same i j hi hj x
      ∙ sym (by-within y h (y + i) _ _ _ (λ u v. ap (λ (n : ℕ). f (y + i) n x) (zero-add j)) (λ u. let z : ⊥ = omega arith in absurd z) (λ u. let z : ⊥ = omega arith in absurd z)))
      (λ i j hi hj out x.
      sym (by-within y h i _ _ _ (λ u v. absurd (out u v (omega arith) (omega arith))) (λ u. refl) (λ u. refl)))
  grid-lent d false ld m lines y h a f g b ys pos room hm ea al ey same =
      region-block d ld pos 0 y lines h lines m a (λ i j x. x) _ _ b b ys ea (omega arith) room.0 hm al (region-keep ld lines m _ b (λ i j hi hj x. refl)) ey
      (λ i j hi hj x.
      same j i hj hi x
      ∙ sym (by-within y h (y + j) _ _ _ (λ u v. ap (λ (n : ℕ). f (y + j) n x) (zero-add i)) (λ u. let z : ⊥ = omega arith in absurd z) (λ u. let z : ⊥ = omega arith in absurd z)))
      (λ i j hi hj out x.
      sym (by-within y h j _ _ _ (λ u v. absurd (out (omega arith) (omega arith) u v)) (λ u. refl) (λ u. refl)))
