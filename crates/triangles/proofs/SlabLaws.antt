-- Some rows of a square of which one triangle is written: they are a block on the diagonal and the columns before or after it, and row by row they make the triangle.
-- Transposed, they are columns of the other triangle, so that the laws of columns are cited.
-- Assumes nothing.
use mathlib.Core.Bool.{Bool, true, false, not, true≢false}
use mathlib.Core.Path.{◌≡◌, refl, sym, ap, ap₂, ◌∙◌}
use mathlib.Core.List.{List}
use Prim.Native.Nat.{ℕ, ◌+◌, ◌-◌, ◌*◌, ◌<◌, ◌≤◌}
use native.Mathlib.Nat.{zero-add}
use native.Mathlib.Omega.{arith}
use lib.Ieee.{Float, nan}
use lib.ListN.{length, take, drop}
use borrow.Rule.Slice.PartMut.{put_mid}
use Rattle.std.specs.Prelude.{if◌then◌else◌}
use Rattle.arrays.specs.Update.{EntryMap, update, entries, only, box, region, trapezoid, corner}
use Rattle.arrays.proofs.EntryLaws.{box-row-out, box-column-out}
use Rattle.floats.specs.Array.{at}
use Rattle.blocks.specs.Terms.{packed}
use Rattle.blocks.proofs.TermLaws.{accumulate-same}
use Rattle.packing.specs.Factor.{Matrix}
use Rattle.kernel.specs.Panels.{half_packed}
use Rattle.arrays.proofs.MaskLaws.{moved, moved_out, moved-across, lent-mask, nothing-done, mask-alone}
use Rattle.arrays.proofs.TrapezoidLaws.{within, row_out, column-out, box-across, corner-across, columns-apart, columns-join, rest-fits, rest-apart, rest-join}
use Rattle.packing.proofs.PackLaws.{held}
use Rattle.triangles.specs.Slab.{slab}

-- ---- the block on the diagonal, and the columns before or after it

-- These are `width` columns, from `first` on.
abbrev pub BesideColumns : Bool → ℕ → ℕ → ℕ → ℕ → ℕ → Type 0
BesideColumns lower x h order first width = (first ≡ (if lower then 0 else x + h)) × (width ≡ (if lower then x else order - (x + h)))

-- They are the rows below or above the diagonal block of the other triangle.
across : (lower : Bool) (n m : ℕ) → (if lower then n else m) ≡ (if not lower then m else n)
across true n m = refl
across false n m = refl

module _ (x h order first width : ℕ) (fits : x + h ≤ order) where
  pub beside-fits : (lower : Bool) → BesideColumns lower x h order first width → first + width ≤ order
  beside-fits lower e = rest-fits order x h first width fits (not lower) (e.0 ∙ across lower _ _) (e.1 ∙ across lower _ _)

  module _ (lower : Bool) (e : BesideColumns lower x h order first width) (i j : ℕ) where
    block-across : moved 0 x (corner lower h h) i j ≡ moved x 0 (corner (not lower) h h) j i
    block-across = moved-across 0 x (corner lower h h) (corner (not lower) h h) i j (corner-across lower h h)

    beside-across : moved 0 first (box h width) i j ≡ moved first 0 (box width h) j i
    beside-across = moved-across 0 first (box h width) (box width h) i j (box-across h width)

    parts-apart : moved 0 x (corner lower h h) i j ≡ true → moved 0 first (box h width) i j ≡ false
    parts-apart u =
        beside-across
        ∙ rest-apart order x h first width fits (not lower) (e.0 ∙ across lower _ _) (e.1 ∙ across lower _ _) j i (sym block-across ∙ u)

    parts_join : slab lower x h order i j ≡ (if moved 0 x (corner lower h h) i j then true else moved 0 first (box h width) i j)
    parts_join =
        rest-join order x h first width fits (not lower) (e.0 ∙ across lower _ _) (e.1 ∙ across lower _ _) j i
        ∙ sym (ap₂ (λ (s t : Bool). if s then true else t) block-across beside-across)

  module _ (lower : Bool) (F D : EntryMap Float) (ld : ℕ) (l d : List Float) (e : BesideColumns lower x h order first width) (pos : 0 < ld) (fit : h ≤ ld)
      (room : x * ld ≤ length l) (ed : d ≡ update (entries ld (only (corner lower h h) D)) (take (length l - x * ld) (drop (x * ld) l)))
      (there : (i j : ℕ) (v : Float) → D i j v ≡ F i (x + j) v) where
    diagonal : put_mid (x * ld) (length l - x * ld) l d ≡ update (entries ld (only (moved 0 x (corner lower h h)) F)) l
    diagonal =
        lent-mask nan ld pos 0 x (x * ld) (λ i j. false) (corner lower h h) (moved 0 x (corner lower h h)) F D l l d
        (omega arith) (omega arith) room (nothing-done ld (λ i j. false) F l (λ i j. refl)) ed
        (λ i j z v. there i j v ∙ ap (λ (p : ℕ). F p (x + j) v) (sym (zero-add i)))
        (λ i j w. row_out 0 h h i j lower (omega arith))
        (λ i j z. absurd (true≢false (sym z)))
        (λ i j. refl)

    -- there are no columns beside the diagonal block
    pub block-alone : width ≡ 0 → put_mid (x * ld) (length l - x * ld) l d ≡ update (entries ld (only (slab lower x h order) F)) l
    block-alone z = diagonal ∙ mask-alone ld pos F l (moved 0 x (corner lower h h)) (moved 0 first (box h width)) (slab lower x h order)
        (parts_join lower e) (λ i j. moved_out 0 first (box h width) i j (box-column-out h width _ _ (omega arith)))

    pub block-and-beside : (G : EntryMap Float) (m ys : List Float) → first * ld ≤ length l → m ≡ put_mid (x * ld) (length l - x * ld) l d
        → ys ≡ update (region ld h width G) (take (length m - first * ld) (drop (first * ld) m))
        → ((i j : ℕ) (v : Float) → G i j v ≡ F i (first + j) v)
        → put_mid (first * ld) (length m - first * ld) m ys ≡ update (entries ld (only (slab lower x h order) F)) l
    unfolding region
    block-and-beside G m ys rf em ey beside =
        lent-mask nan ld pos 0 first (first * ld) (moved 0 x (corner lower h h)) (box h width) (slab lower x h order) F G l m ys
        (omega arith) (omega arith) rf (em ∙ diagonal) ey
        (λ i j z v. beside i j v ∙ ap (λ (p : ℕ). F p (first + j) v) (sym (zero-add i)))
        (λ i j w. box-row-out h width i j (omega arith))
        (parts-apart lower e)
        (parts_join lower e)

-- ---- the triangle by rows

-- no rows at all
pub no_rows : (lower : Bool) (n ld : ℕ) (f : EntryMap Float) (l : List Float) → l ≡ update (entries ld (only (corner lower 0 n) f)) l
no_rows lower n ld f l = nothing-done ld (corner lower 0 n) f l (λ i j. row_out 0 0 n i j lower (omega arith))

-- h rows more, from row x on

module _ (lower : Bool) (n x h : ℕ) (i j : ℕ) where
  slab-across : moved x 0 (slab lower x h n) i j ≡ moved 0 x (trapezoid (not lower) x n h) j i
  slab-across = moved-across x 0 (slab lower x h n) (trapezoid (not lower) x n h) i j (λ r c. refl)

  rows_apart : corner lower x n i j ≡ true → moved x 0 (slab lower x h n) i j ≡ false
  rows_apart u = slab-across ∙ columns-apart (not lower) 0 n x x h (sym (zero-add x)) j i (sym (corner-across lower x n i j) ∙ u)

  rows_join : corner lower (x + h) n i j ≡ (if corner lower x n i j then true else moved x 0 (slab lower x h n) i j)
  rows_join =
      corner-across lower (x + h) n i j
      ∙ columns-join (not lower) 0 n x x h (sym (zero-add x)) j i
      ∙ sym (ap₂ (λ (s t : Bool). if s then true else t) (corner-across lower x n i j) slab-across)

-- they are packed in u
pub slab-more : (lower : Bool) (ld n x h k : ℕ) (M L : Matrix) (u₀ u t l m ys : List Float) → 0 < ld → x + h ≤ ld → x ≤ length l → h ≤ 64 → k * 64 ≤ length u₀
    → u ≡ update (region 64 h k (λ y z _. M y z)) u₀
    → ((y z : ℕ) → M y z ≡ L (x + y) z)
    → m ≡ update (entries ld (only (corner lower x n) (half_packed k t L))) l
    → ys ≡ update (entries ld (only (slab lower x h n) (packed k u t))) (take (length m - x) (drop x m))
    → put_mid x (length m - x) m ys ≡ update (entries ld (only (corner lower (x + h) n) (half_packed k t L))) l
unfolding packed half_packed
slab-more lower ld n x h k M L u₀ u t l m ys pos fit room few hu eu el em ey =
    lent-mask nan ld pos x 0 x (corner lower x n) (slab lower x h n) (corner lower (x + h) n) (half_packed k t L) (packed k u t) l m ys
    (omega arith) (omega arith) room em ey
    (λ i j z v.
    let a = within x n h j i (not lower) z in
    accumulate-same _ _ _ _ k v (λ q b. ap (λ (p : ℕ). at t (p * 64 + q)) (sym (zero-add j))) (λ q b. held 64 h k M u₀ u i q few hu eu a.column b ∙ el i q))
    (λ i j w. column-out x n h j i (not lower) (omega arith))
    (rows_apart lower n x h)
    (rows_join lower n x h)
