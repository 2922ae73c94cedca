-- Laws of a factor's entries, and of the order in which its terms are taken.
-- Assumes nothing.
use mathlib.Core.Bool.{Bool, true, false, true≢false}
use mathlib.Core.Path.{◌≡◌, refl, sym, ap}
use Prim.Native.Nat.{ℕ, ◌+◌, ◌-◌, ◌*◌, ◌<◌, ◌≤◌}
use native.Mathlib.Omega.{arith}
use borrow.Author.Tests.{le-leb, lt-leb}
use Rattle.packing.specs.Factor.{Indices, Within, is_mirrored, is_lower, mirrored_form, index_of, along, turn}
use Rattle.packing.specs.declared.Form.{Form}
use Rattle.packing.specs.declared.Form.TheVariants.{Plain, Transposed, Lower, Upper}

-- ---- where an entry stands

module _ {form : Form} (ld i j : ℕ) where
  pub index-plain : form ≡ Plain → index_of form ld i j ≡ j * ld + i
  unfolding index_of
  index-plain e = rw e

  pub index-transposed : form ≡ Transposed → index_of form ld i j ≡ i * ld + j
  unfolding index_of
  index-transposed e = rw e

  pub index-lower : form ≡ Lower → j ≤ i → index_of form ld i j ≡ j * ld + i
  unfolding index_of
  index-lower e h = rw (e, le-leb j i h)

  pub index-lower-mirrored : form ≡ Lower → i < j → index_of form ld i j ≡ i * ld + j
  unfolding index_of
  index-lower-mirrored e h = rw (e, lt-leb j i h)

  pub index-upper : form ≡ Upper → i ≤ j → index_of form ld i j ≡ j * ld + i
  unfolding index_of
  index-upper e h = rw (e, le-leb i j h)

  pub index-upper-mirrored : form ≡ Upper → j < i → index_of form ld i j ≡ i * ld + j
  unfolding index_of
  index-upper-mirrored e h = rw (e, lt-leb i j h)

-- the form by its triangle
pub by-triangle : (form : Form) → is_mirrored form ≡ true → mirrored_form (is_lower form) ≡ form
by-triangle Plain e = absurd (true≢false (sym e))
by-triangle Transposed e = absurd (true≢false (sym e))
by-triangle Lower e = refl
by-triangle Upper e = refl

-- ---- indices up or down

pub along-up : {down : Bool} (from q : ℕ) → down ≡ false → along down from q ≡ from + q
unfolding along
along-up from q e = rw e

pub along-down : {down : Bool} (from q : ℕ) → down ≡ true → along down from q ≡ from - q
unfolding along
along-down from q e = rw e

-- the r-th index from the q-th one on
pub along-on : (down : Bool) (from q r : ℕ) → along down (along down from q) r ≡ along down from (q + r)
unfolding along
along-on false from q r = omega arith
along-on true from q r = omega arith

-- the same indices p places further on, and that they are places of an array
pub along-after : (down : Bool) {from n : ℕ} (p q : ℕ) → q < n → Indices down from n → along down (p + from) q ≡ p + along down from q
unfolding along
along-after false p q h b = omega arith
along-after true p q h b = omega (arith, b.back refl)

pub within-after : {down : Bool} {from n : ℕ} (p len : ℕ) → 0 < n → Indices down from n → ((q : ℕ) → q < n → p + along down from q < len)
    → Within down (p + from) n len
within-after {from} {n} p len h b room = record {
  up = λ d. omega (arith, room (n - 1) (omega arith), along-up from (n - 1) d);
  back = λ d. (omega (arith, b.back d), omega (arith, room 0 h, along-down from 0 d));
}

pub within_first : (down : Bool) {from n len : ℕ} → 0 < n → Within down from n len → from < len
within_first false h w = omega (arith, w.up refl)
within_first true h w = omega (arith, w.back refl)

-- the first indices of some
pub fewer : {down : Bool} {from : ℕ} (n m : ℕ) → m ≤ n → Indices down from n → Indices down from m
fewer n m h f = record { up = λ d. let b = f.up d in omega arith; back = λ d. let b = f.back d in omega arith }

-- the indices from the q-th one on
pub later : {down : Bool} {from p : ℕ} (q n : ℕ) → p ≡ along down from q → Indices down from (q + n) → Indices down p n
later {from} q n e b = record { up = λ d. omega (arith, b.up d, along-up from q d); back = λ d. omega (arith, b.back d, along-down from q d) }

pub upward : (from n : ℕ) → from + n < 18446744073709551616 → Indices false from n
upward from n h = record { up = λ _. h; back = λ d. let z : ◌≡◌ {A = ℕ} 0 1 = cc in omega arith }

pub up_from : (i₀ i y : ℕ) → along false (i₀ + i) y ≡ i₀ + (i + y)
unfolding along
up_from i₀ i y = omega arith

-- ---- the terms of a panel, which begins with the l-th of k

pub turn_up : {down : Bool} (k q : ℕ) → down ≡ false → turn down k q ≡ q
unfolding turn
turn_up k q e = rw e

pub turn-down : {down : Bool} (k q : ℕ) → down ≡ true → turn down k q ≡ k - 1 - q
unfolding turn
turn-down k q e = rw e

pub turn_below : (down : Bool) (k q : ℕ) → q < k → turn down k q < k
unfolding turn
turn_below false k q h = h
turn_below true k q h = omega arith

-- the index of a term, and the term with an index
pub turn-turn : (down : Bool) (k q : ℕ) → q < k → turn down k (turn down k q) ≡ q
unfolding turn
turn-turn false k q h = refl
turn-turn true k q h = omega arith

-- its q-th term
pub turn_along : (down : Bool) (k l q : ℕ) {l₀ : ℕ} → l₀ ≡ turn down k l → along down l₀ q ≡ turn down k (l + q)
unfolding along turn
turn_along false k l q e = ap (λ (x : ℕ). x + q) e
turn_along true k l q e = omega (arith, e)

-- its terms are numbers of the machine
pub panel-indices : (down : Bool) (k l n : ℕ) {l₀ : ℕ} → k < 18446744073709551616 → l + n ≤ k → l < k → l₀ ≡ turn down k l → Indices down l₀ n
panel-indices down k l n hk h b e =
    record { up = λ d. omega (arith, turn_up k l d, e); back = λ d. omega (arith, turn-down k l d, e) }
