-- The elements of lines that packing copies, to lines of either side and back.
-- Assumes nothing.
use mathlib.Core.Bool.{Bool, true, false}
use mathlib.Core.Path.{◌≡◌, ap, ◌∙◌}
use mathlib.Core.List.{List}
use Prim.Native.Nat.{ℕ, ◌+◌, ◌-◌, ◌*◌, ◌<◌, ◌≤◌}
use native.Mathlib.Nat.{zero-add}
use native.Mathlib.Omega.{arith}
use lib.ListN.{length, take, drop}
use lib.Ieee.{Float, nan}
use borrow.Rule.Slice.PartMut.{put_mid}
use Rattle.std.specs.Prelude.{if◌then◌else◌}
use Rattle.arrays.specs.Update.{update, region}
use Rattle.arrays.proofs.RegionLaws.{region-same}
use Rattle.floats.specs.Array.{at}
use Rattle.packing.specs.Factor.{index_of, entry_of, along}
use Rattle.packing.specs.declared.Form.{Form}
use Rattle.lines.specs.Lines.{cell, grid, within, line_form, Room}
use Rattle.lines.proofs.GridLaws.{cell-inside, grid-lent}

index-left : (left : Bool) (ld x0 q l : ℕ) → index_of (line_form left true) ld (along false x0 q) (along false 0 l) ≡ cell left ld (x0 + q) l
unfolding index_of along cell
index-left true ld x0 q l = ap (λ (j : ℕ). j * ld + (x0 + q)) (zero-add l)
index-left false ld x0 q l = ap (λ (i : ℕ). (x0 + q) * ld + i) (zero-add l)

index-right : (left : Bool) (ld x0 q l : ℕ) → index_of (line_form left false) ld (along false 0 l) (along false x0 q) ≡ cell left ld (x0 + q) l
unfolding index_of along cell
index-right true ld x0 q l = ap (λ (j : ℕ). j * ld + (x0 + q)) (zero-add l)
index-right false ld x0 q l = ap (λ (i : ℕ). (x0 + q) * ld + i) (zero-add l)

module _ (left : Bool) {f : Form} where
  -- by the lines of side L
  module _ (e : f ≡ line_form left true) where
    left-index : (ld x0 q l : ℕ) → index_of f ld (along false x0 q) (along false 0 l) ≡ cell left ld (x0 + q) l
    left-index ld x0 q l = ap (λ (g : Form). index_of g ld (along false x0 q) (along false 0 l)) e ∙ index-left left ld x0 q l

    pub left-inside : (ld m lines len x0 q l : ℕ) → x0 + q < m → l < lines → Room left ld m lines len → index_of f ld (along false x0 q) (along false 0 l) < len
    left-inside ld m lines len x0 q l low line room = omega (arith, left-index ld x0 q l, cell-inside left ld m lines len (x0 + q) l room low line)

    pub taken-left : (b : List Float) (ld x0 n lines : ℕ) (x : List Float)
        → update (region 64 n lines (λ q l _. entry_of f b ld (along false x0 q) (along false 0 l))) x ≡ update (grid true 64 n lines (λ q l _. at b (cell left ld (x0 + q) l))) x
    unfolding grid entry_of
    taken-left b ld x0 n lines x = region-same 64 n lines _ _ x (omega arith) (λ q l hq hl _. ap (at b) (left-index ld x0 q l))

    pub put-left : (ld m lines x0 n : ℕ) (x b ys : List Float) → 0 < ld → Room true ld m lines (length b) → x0 + n ≤ m → x0 ≤ length b
        → ys ≡ update (region ld n lines (λ q l _. entry_of f x 64 (along false 0 q) (along false 0 l))) (take (length b - x0) (drop x0 b))
        → put_mid x0 (length b - x0) b ys ≡ update (grid true ld m lines (λ q l e. if within x0 n q then at x (cell left 64 (q - x0) l) else e)) b
    unfolding grid cell entry_of
    put-left ld m lines x0 n x b ys pos room low al ey =
        grid-lent nan true ld m lines x0 n x0 (λ q l _. at x (cell left 64 (q - x0) l)) _ b ys pos room low (omega arith) al ey
        (λ q l hq hl _. ap (at x) (left-index 64 0 q l ∙ ap (λ (k : ℕ). cell left 64 k l) (omega arith)))

  -- by those of side R
  module _ (e : f ≡ line_form left false) where
    right-index : (ld x0 q l : ℕ) → index_of f ld (along false 0 l) (along false x0 q) ≡ cell left ld (x0 + q) l
    right-index ld x0 q l = ap (λ (g : Form). index_of g ld (along false 0 l) (along false x0 q)) e ∙ index-right left ld x0 q l

    pub right-inside : (ld m lines len x0 q l : ℕ) → x0 + q < m → l < lines → Room left ld m lines len → index_of f ld (along false 0 l) (along false x0 q) < len
    right-inside ld m lines len x0 q l low line room = omega (arith, right-index ld x0 q l, cell-inside left ld m lines len (x0 + q) l room low line)

    pub taken-right : (b : List Float) (ld x0 n lines : ℕ) (x : List Float)
        → update (region 64 lines n (λ l q _. entry_of f b ld (along false 0 l) (along false x0 q))) x ≡ update (grid false 64 n lines (λ q l _. at b (cell left ld (x0 + q) l))) x
    unfolding grid entry_of
    taken-right b ld x0 n lines x = region-same 64 lines n _ _ x (omega arith) (λ l q hl hq _. ap (at b) (right-index ld x0 q l))

    pub put_right : (ld m lines x0 n to : ℕ) (x b ys : List Float) → 0 < ld → Room false ld m lines (length b) → x0 + n ≤ m → to ≡ x0 * ld → to ≤ length b
        → ys ≡ update (region ld lines n (λ l q _. entry_of f x 64 (along false 0 l) (along false 0 q))) (take (length b - to) (drop to b))
        → put_mid to (length b - to) b ys ≡ update (grid false ld m lines (λ q l e. if within x0 n q then at x (cell left 64 (q - x0) l) else e)) b
    unfolding grid cell entry_of
    put_right ld m lines x0 n to x b ys pos room low et al ey =
        grid-lent nan false ld m lines x0 n to (λ q l _. at x (cell left 64 (q - x0) l)) (λ q l _. entry_of f x 64 (along false 0 l) (along false 0 q)) b ys pos room low (omega arith) al ey
        (λ q l hq hl _. ap (at x) (right-index 64 0 q l ∙ ap (λ (k : ℕ). cell left 64 k l) (omega arith)))

-- a buffer has room for 64 lines of 64 elements
pub buffer-room : (left : Bool) (len : ℕ) → 4096 ≤ len → Room left 64 64 64 len
buffer-room true len h = (omega arith, omega arith)
buffer-room false len h = (omega arith, omega arith)
