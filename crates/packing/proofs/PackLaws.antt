-- Laws of packing: how a block can be read, and what the lines that were copied hold.
-- Assumes nothing.
use mathlib.Core.Bool.{Bool, true, false}
use mathlib.Core.Path.{◌≡◌, sym, ap, ap₂, ◌∙◌}
use mathlib.Core.Logic.{⊎_elim}
use mathlib.Core.List.{List}
use Prim.Native.Nat.{ℕ, ◌+◌, ◌-◌, ◌*◌, ◌<◌, ◌≤◌}
use native.Mathlib.Omega.{arith}
use lib.ListN.{length, take, drop}
use lib.Ieee.{Float, nan}
use borrow.Rule.Slice.PartMut.{put_mid}
use Rattle.arrays.specs.Update.{update, below, region}
use Rattle.arrays.proofs.UpdateLaws.{lt-or-ge, below-same, at-update}
use Rattle.arrays.proofs.PartLaws.{tail_at, column-room}
use Rattle.arrays.proofs.RegionLaws.{region-at, region-same, region-columns}
use Rattle.floats.specs.Array.{at}
use Rattle.packing.specs.Factor.{Matrix, Indices, Reads, is_mirrored, is_lower, mirrored_form, index_of, entry_of, along}
use Rattle.packing.specs.declared.Form.{Form}
use Rattle.packing.specs.declared.Form.TheVariants.{Plain, Transposed, Lower, Upper}
use Rattle.packing.specs.declared.Way.{Way}
use Rattle.packing.specs.declared.Way.TheVariants.{Columns, Rows, Mirrored, Entries}
use Rattle.packing.proofs.FactorLaws.{index-plain, index-transposed, index-lower, index-lower-mirrored, index-upper, index-upper-mirrored, by-triangle, along-up, along-down, along-on, along-after}

-- ---- how a block can be read

abbrev number : Way → ℕ
number Columns = 0
number Rows = 1
number Mirrored = 2
number Entries = 3

-- two ways with different numbers are not the same
distinct : {v w : Way} → v ≡ w → number v ≡ number w
distinct e = ap number e

-- indices on one side of the diagonal
module _ {down across : Bool} (i ny j nx : ℕ) (d : down ≡ false) (a : across ≡ false) where
  below-diagonal : j + nx ≤ i + 1 → (y x : ℕ) → x < nx → along across j x ≤ along down i y
  below-diagonal h y x hx = omega (arith, along-up i y d, along-up j x a)

  above-diagonal : i + ny ≤ j + 1 → (y x : ℕ) → y < ny → along down i y ≤ along across j x
  above-diagonal h y x hy = omega (arith, along-up i y d, along-up j x a)

-- where row and column are the same
on-diagonal : (ld r c : ℕ) → c ≡ r → c * ld + r ≡ r * ld + c
on-diagonal ld r c e = ap₂ (λ (s t : ℕ). s * ld + t) e (sym e)

module _ {form : Form} {down across : Bool} (i ny j nx : ℕ) where
  by-columns : ((ld y x : ℕ) → y < ny → x < nx → index_of form ld (along down i y) (along across j x) ≡ along across j x * ld + along down i y)
      → Reads form down across i ny j nx Columns
  by-columns h = record { columns = λ z. h; rows = λ z. let w = distinct z in absurd (let f : ⊥ = omega arith in f); mirrored = λ z. let w = distinct z in absurd (let f : ⊥ = omega arith in f) }

  by_rows : ((ld y x : ℕ) → y < ny → x < nx → index_of form ld (along down i y) (along across j x) ≡ along down i y * ld + along across j x)
      → Reads form down across i ny j nx Rows
  by_rows h = record { columns = λ z. let w = distinct z in absurd (let f : ⊥ = omega arith in f); rows = λ z. h; mirrored = λ z. let w = distinct z in absurd (let f : ⊥ = omega arith in f) }

  pub reads_plain : form ≡ Plain → Reads form down across i ny j nx Columns
  reads_plain e = by-columns (λ ld y x hy hx. index-plain ld _ _ e)

  pub reads-transposed : form ≡ Transposed → Reads form down across i ny j nx Rows
  reads-transposed e = by_rows (λ ld y x hy hx. index-transposed ld _ _ e)

  -- a symmetric factor on one side of the diagonal
  module _ (d : down ≡ false) (a : across ≡ false) where
    pub lower-columns : form ≡ Lower → j + nx ≤ i + 1 → Reads form down across i ny j nx Columns
    lower-columns e h = by-columns (λ ld y x hy hx. index-lower ld _ _ e (below-diagonal i ny j nx d a h y x hx))

    pub lower-rows : form ≡ Lower → i + ny ≤ j + 1 → Reads form down across i ny j nx Rows
    lower-rows e h =
        by_rows
        (λ ld y x hy hx.
        ⊎_elim
        (λ (b : along down i y < along across j x). index-lower-mirrored ld _ _ e b)
        (λ b.
        let k = above-diagonal i ny j nx d a h y x hy in
        index-lower ld _ _ e b ∙ on-diagonal ld _ _ (omega arith))
        (lt-or-ge (along down i y) (along across j x)))

    pub upper-columns : form ≡ Upper → i + ny ≤ j + 1 → Reads form down across i ny j nx Columns
    upper-columns e h = by-columns (λ ld y x hy hx. index-upper ld _ _ e (above-diagonal i ny j nx d a h y x hy))

    pub upper-rows : form ≡ Upper → j + nx ≤ i + 1 → Reads form down across i ny j nx Rows
    upper-rows e h =
        by_rows
        (λ ld y x hy hx.
        ⊎_elim
        (λ (b : along across j x < along down i y). index-upper-mirrored ld _ _ e b)
        (λ b.
        let k = below-diagonal i ny j nx d a h y x hx in
        index-upper ld _ _ e b ∙ on-diagonal ld _ _ (omega arith))
        (lt-or-ge (along across j x) (along down i y)))

-- a block that is mirrored from one triangle
pub mirrored-index : (form : Form) {lower down across : Bool} (ld i j y x : ℕ) → lower ≡ is_lower form → (is_mirrored form ≡ true) × (down ≡ false) × (across ≡ false)
    → index_of form ld (along down i y) (along across j x) ≡ index_of (mirrored_form lower) ld (i + y) (j + x)
mirrored-index form ld i j y x e h =
    ap₂ (λ (r c : ℕ). index_of form ld r c) (along-up i y h.1) (along-up j x h.2)
    ∙ ap (λ (f : Form). index_of f ld (i + y) (j + x)) (sym (ap mirrored_form e ∙ by-triangle form h.0))

-- ---- a block of entries by their places

pub placed : (form : Form) (a : List Float) (ld ny nx : ℕ) (I J : ℕ → ℕ) (P : ℕ → ℕ → ℕ) (d₀ d : List Float)
    → d ≡ update (region 64 ny nx (λ y x _. at a (P y x))) d₀
    → ((y x : ℕ) → y < ny → x < nx → index_of form ld (I y) (J x) ≡ P y x)
    → d ≡ update (region 64 ny nx (λ y x _. entry_of form a ld (I y) (J x))) d₀
unfolding entry_of
placed form a ld ny nx I J P d₀ d e h =
    e ∙ region-same 64 ny nx _ _ d₀ (omega arith) (λ y x hy hx _. ap (at a) (sym (h y x hy hx)))

-- a block that was mirrored
pub mirrored-block : (form : Form) (a : List Float) {lower down across : Bool} (ld ny nx i j : ℕ) (d₀ d : List Float) → lower ≡ is_lower form
    → (is_mirrored form ≡ true) × (down ≡ false) × (across ≡ false)
    → d ≡ update (region 64 ny nx (λ y x _. entry_of (mirrored_form lower) a ld (i + y) (j + x))) d₀
    → d ≡ update (region 64 ny nx (λ y x _. entry_of form a ld (along down i y) (along across j x))) d₀
unfolding entry_of
mirrored-block form a {lower} {down} {across} ld ny nx i j d₀ d e h ed =
    placed form a ld ny nx (λ y. along down i y) (λ x. along across j x) (λ y x. index_of (mirrored_form lower) ld (i + y) (j + x)) d₀ d ed
    (λ y x hy hx. mirrored-index form ld i j y x e h)

-- ---- runs of elements, up or down

-- an element of the run, as an element of the part from the run's lowest place on
module _ {down : Bool} (a : List Float) (from y : ℕ) where
  pub run_up : down ≡ false → at (take (length a - from) (drop from a)) y ≡ at a (along down from y)
  run_up d = tail_at from a y nan ∙ ap (at a) (sym (along-up from y d))

  pub run_down : (n : ℕ) → down ≡ true → y < n → n ≤ from + 1
      → at (take (length a - (from + 1 - n)) (drop (from + 1 - n) a)) (n - 1 - y) ≡ at a (along down from y)
  run_down n d h b = tail_at (from + 1 - n) a (n - 1 - y) nan ∙ ap (at a) (omega (arith, along-down from y d))

-- a line that was copied from column p of the array
pub one_line : (a : List Float) (down : Bool) (ld i n p q : ℕ) (w ys : List Float) → Indices down i n → p ≡ q
    → ys ≡ update (below n (λ y _. at a (along down (p * ld + i) y))) w
    → ys ≡ update (below n (λ y _. at a (q * ld + along down i y))) w
one_line a down ld i n p q w ys b k e =
    e ∙ below-same _ _ w n (λ y h _. ap (at a) (along-after down (p * ld) y h b ∙ ap (λ (c : ℕ). c * ld + along down i y) k))

-- column p of the array that was spread over the lines, as their element y
pub one-row : (a : List Float) (down across : Bool) (i y ld j n p : ℕ) (w ys : List Float) → Indices across j n → p ≡ along down i y
    → ys ≡ update (region 64 1 n (λ r x _. at a (along across (p * ld + j) x))) w
    → ys ≡ update (region 64 1 n (λ r x _. at a (along down i (y + r) * ld + along across j x))) w
one-row a down across i y ld j n p w ys b k e =
    e
    ∙ region-same 64 1 n _ _ w (omega arith)
    (λ r x hr hx _.
    ap (at a) (along-after across (p * ld) x hx b
    ∙ ap (λ (c : ℕ). c * ld + along across j x) (k ∙ ap (along down i) (omega arith))))

-- n lines more, whose elements are parts of rows of the array
pub lines_more : (a : List Float) (down across : Bool) (i ld j ny x n p : ℕ) (l m ys : List Float) → ny ≤ 64 → x * 64 ≤ length l
    → p ≡ along across j x
    → m ≡ update (region 64 ny x (λ y x _. at a (along down i y * ld + along across j x))) l
    → ys ≡ update (region 64 ny n (λ y r _. at a (along down i y * ld + along across p r))) (take (length m - x * 64) (drop (x * 64) m))
    → put_mid (x * 64) (length m - x * 64) m ys ≡ update (region 64 ny (x + n) (λ y x _. at a (along down i y * ld + along across j x))) l
lines_more a down across i ld j ny x n p l m ys few fit k em ey =
    region-columns nan 64 (omega arith) ny x n (λ y x _. at a (along down i y * ld + along across j x)) l m ys few fit em
    (ey
    ∙ region-same 64 ny n _ _ (take (length m - x * 64) (drop (x * 64) m)) (omega arith)
    (λ y r hy hr _. ap (λ (c : ℕ). at a (along down i y * ld + c)) (ap (λ (q : ℕ). along across q r) k ∙ along-on across j x r)))

-- ---- what a buffer holds

-- after packing: line x, element y
pub held : (ld ny nx : ℕ) (M : Matrix) (d₀ d : List Float) (y x : ℕ) → ny ≤ ld → nx * ld ≤ length d₀ → d ≡ update (region ld ny nx (λ y x _. M y x)) d₀
    → y < ny → x < nx → at d (x * ld + y) ≡ M y x
held ld ny nx M d₀ d y x hn hl e hy hx =
    ap (λ (l : List Float). at l (x * ld + y)) e ∙ at-update _ d₀ (x * ld + y) nan (omega (arith, column-room ld hx))
    ∙ region-at ld ny nx (λ y x _. M y x) y x _ (omega arith) hy hx
