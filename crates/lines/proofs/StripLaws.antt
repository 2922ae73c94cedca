-- A strip of a routine that writes over B: the part from the strip's first column (side L) or row (side R) on, by lines.
-- Assumes nothing.
use mathlib.Core.Bool.{Bool, true, false, not, ◌&&◌, true≢false}
use mathlib.Core.Path.{◌≡◌, refl, sym, ap, ap₂, subst, ◌∙◌}
use mathlib.Core.List.{List}
use Prim.Native.Nat.{ℕ, ◌+◌, ◌*◌, ◌<◌, ◌≤◌}
use native.Mathlib.Nat.{add-mul}
use native.Mathlib.Omega.{arith}
use lib.ListN.{drop}
use lib.Seq.{get_or-drop}
use lib.Ieee.{Float, nan}
use Rattle.std.specs.Prelude.{if◌then◌else◌}
use Rattle.arrays.specs.Update.{update, region}
use Rattle.floats.specs.Array.{at}
use Rattle.definitions.specs.Number.{is_zero}
use Rattle.definitions.specs.Storage.{stored, needed}
use Rattle.definitions.specs.Call.{◌by◌, stored_as, by_side, has_k, in_place, order, shape_a, shape_b, ld_output, in_triangle, cuts_rows, extent}
use Rattle.definitions.specs.Element.{solves_up, value, array_b, StripOf}
use Rattle.definitions.specs.declared.Routine.{Routine}
use Rattle.definitions.specs.declared.Routine.TheVariants.{Gemm, Symm, Syrk, Syr2k, Trmm, Trsm}
use Rattle.definitions.specs.declared.Side.{Side}
use Rattle.definitions.specs.declared.Side.TheVariants.{Left, Right}
use Rattle.definitions.specs.declared.Call.{Call}
use Rattle.definitions.specs.declared.Triangle.{Triangle}
use Rattle.definitions.specs.declared.Triangle.TheVariants.{Lower, Upper}
use Rattle.definitions.specs.declared.Shape.{Shape}
use Rattle.definitions.specs.declared.Transpose.{Transpose}
use Rattle.definitions.specs.declared.Transpose.TheVariants.{No, Yes}
use Rattle.definitions.proofs.Fits as Arrays
use Rattle.definitions.proofs.Fits.{Fits, room-sum}
use Rattle.definitions.proofs.Parts.{strip-of-box, strip-of-rows}
use Rattle.packing.specs.Factor.{index_of}
use Rattle.forms.specs.Forms.{op_form}
use Rattle.forms.proofs.Rooms.{op-inside, part_room, some-factor}
use Rattle.lines.specs.Lines.{cell, grid, Room}

-- what goes up on one side goes down on the other
pub other-side : (t : Triangle) → solves_up Left t ≡ not (solves_up Right t)
unfolding solves_up
other-side Lower = refl
other-side Upper = refl

-- ---- what is read and written is within the arrays

-- an entry of op(A), of order n
order-inside : (t : Transpose) (ld n len : ℕ) → Arrays.Room len ld (n by n) → (i j : ℕ) → i < n → j < n → index_of (op_form t) ld i j < len
unfolding stored_as
order-inside No ld n len h i j hi hj = op-inside No ld n n len h i j hi hj
order-inside Yes ld n len h i j hi hj = op-inside Yes ld n n len h i j hi hj

left-room : (ld m n from lines len : ℕ) → needed ld m n ≤ from * ld + len → 0 < m → 0 < lines → from + lines ≤ n → m ≤ ld → Room true ld m lines len
left-room ld m n from lines len h hm hl within fit = (fit, part_room ld m n from lines len h hm hl within)

right-room : (ld m n from lines len : ℕ) → needed ld m n ≤ from + len → 0 < m → 0 < n → from + lines ≤ m → m ≤ ld → Room false ld n lines len
right-room ld m n from lines len h hm hn within fit = (omega arith, omega (arith, room-sum ld m n (from + len) h hm hn))

-- what a call that fits gives its lines: `lines` of the lines across, from the one of number `from` on, with m elements in each
pub record LinesFit (c : Call) (left : Bool) (from m lines across la len : ℕ) : Type 0 where
  pub some : 0 < m
  pub within : from + lines ≤ across
  pub some-rows : 0 < c.m
  pub fit : c.m ≤ c.ldb
  pub room : Room left c.ldb m lines len
  pub reads : is_zero c.alpha ≡ false → (i j : ℕ) → i < m → j < m → index_of (op_form c.transa) c.lda i j < la

shapes : (f : Routine) (c : Call) → in_place f ≡ true → (has_k f ≡ false) × (shape_a f c ≡ order c by order c) × (shape_b f c ≡ c.m by c.n)
unfolding in_place has_k shape_a shape_b
shapes Gemm c h = absurd (true≢false (sym h))
shapes Symm c h = absurd (true≢false (sym h))
shapes Syrk c h = absurd (true≢false (sym h))
shapes Syr2k c h = absurd (true≢false (sym h))
shapes Trmm c h = (refl, refl, refl)
shapes Trsm c h = (refl, refl, refl)

choice : (s : Side) (m n : ℕ) → (if by_side s false true then m else n) ≡ by_side s n m
unfolding by_side
choice Left m n = refl
choice Right m n = refl

module _ (f : Routine) (over : in_place f ≡ true) (c : Call) (la len lenc from lines : ℕ) (k : Fits f c la (by_side c.side (from * c.ldb) from + len) lenc) (some : 0 < lines) (within : from + lines ≤ extent c) where
  across-is : (s : Side) → c.side ≡ s → extent c ≡ by_side s c.n c.m
  unfolding extent cuts_rows
  across-is s e = ap₂ (λ (b : Bool) (s : Side). if b && by_side s false true then c.m else c.n) (ap in_place k.routine-is ∙ over) e ∙ choice s c.m c.n

  rows_fit : c.m ≤ c.ldb
  rows_fit = subst (λ (p : Shape). p.rows ≤ c.ldb) (shapes f c over).2 k.ld-b

  room-b : (s : Side) → c.side ≡ s → needed c.ldb c.m c.n ≤ by_side s (from * c.ldb) from + len
  room-b s e =
      subst (λ (s : Side). needed c.ldb c.m c.n ≤ by_side s (from * c.ldb) from + len) e
      (subst (Arrays.Room (by_side c.side (from * c.ldb) from + len) c.ldb) (shapes f c over).2 (k.room-written-b over))

  reads_of : (s : Side) → c.side ≡ s → is_zero c.alpha ≡ false → (i j : ℕ) → i < by_side s c.m c.n → j < by_side s c.m c.n → index_of (op_form c.transa) c.lda i j < la
  unfolding order
  reads_of s e z =
      order-inside c.transa c.lda (by_side s c.m c.n) la
      (subst (λ (s : Side). Arrays.Room la c.lda (by_side s c.m c.n by by_side s c.m c.n)) e
      (subst (Arrays.Room la c.lda) (shapes f c over).1 (k.room-a (some-factor c (ap has_k k.routine-is ∙ (shapes f c over).0) z))))

  pub left-fits : c.side ≡ Left → LinesFit c true from c.m lines c.n la len
  unfolding by_side
  left-fits e =
      let w : from + lines ≤ c.n = omega (arith, across-is Left e) in
      record {
        some = k.some-rows;
        within = w;
        some-rows = k.some-rows;
        fit = rows_fit;
        room = left-room c.ldb c.m c.n from lines len (room-b Left e) k.some-rows some w rows_fit;
        reads = reads_of Left e;
      }

  pub right-fits : c.side ≡ Right → LinesFit c false from c.n lines c.m la len
  unfolding by_side
  right-fits e =
      let w : from + lines ≤ c.m = omega (arith, across-is Right e) in
      record {
        some = k.some-columns;
        within = w;
        some-rows = k.some-rows;
        fit = rows_fit;
        room = right-room c.ldb c.m c.n from lines len (room-b Right e) k.some-rows k.some-columns w rows_fit;
        reads = reads_of Right e;
      }

-- ---- an element of a line of the part, as an entry of B

pub left-entry : (ld from : ℕ) (l old : List Float) (p j : ℕ) → old ≡ drop (from * ld) l → at old (cell true ld p j) ≡ stored nan l ld p (from + j)
unfolding cell stored
left-entry ld from l old p j e =
    ap (λ (xs : List Float). at xs (j * ld + p)) e ∙ get_or-drop (from * ld) l (j * ld + p) nan ∙ ap (at l) (rw (add-mul from j ld) (omega arith))

pub right-entry : (ld from : ℕ) (l old : List Float) (p i : ℕ) → old ≡ drop from l → at old (cell false ld p i) ≡ stored nan l ld (from + i) p
unfolding cell stored
right-entry ld from l old p i e =
    ap (λ (xs : List Float). at xs (p * ld + i)) e ∙ get_or-drop from l (p * ld + i) nan ∙ ap (at l) (omega arith)

-- ---- lines that have the routine's values

module _ (c : Call) (a b : List Float) (from lines : ℕ) (f : Routine) (e : c.routine ≡ f) (over : in_place f ≡ true) (all : (i j : ℕ) → in_triangle f c.uplo i j ≡ true)
    (some : 0 < c.m) (fit : c.m ≤ c.ldb) where
  in_place_lem : in_place c.routine ≡ true
  in_place_lem = ap in_place e ∙ over

  ld-is : ld_output c ≡ c.ldb
  unfolding ld_output
  ld-is = rw in_place_lem

  b-is : (l : List Float) → array_b c b l ≡ l
  unfolding array_b
  b-is l = rw in_place_lem

  all-written : (i j : ℕ) → in_triangle c.routine c.uplo i j ≡ true
  all-written i j = ap (λ (g : Routine). in_triangle g c.uplo i j) e ∙ all i j

  value-is : (l : List Float) (i j : ℕ) (y : Float) → value f c a l i j y ≡ value c.routine c a (array_b c b l) i j y
  value-is l i j y = ap₂ (λ (g : Routine) (xs : List Float). value g c a xs i j y) (sym e) (sym (b-is l))

  cuts : (s : Side) → c.side ≡ s → cuts_rows c.routine c.side ≡ by_side s false true
  unfolding cuts_rows
  cuts s es = rw in_place_lem (ap (λ (t : Side). by_side t false true) es)

  pub left-strip : c.side ≡ Left → from + lines ≤ c.n → (g : ℕ → ℕ → Float → Float) (old ys : List Float)
      → ys ≡ update (grid true c.ldb c.m lines g) old
      → ((l : List Float) → old ≡ drop (from * c.ldb) l → (i j : ℕ) → i < c.m → j < lines → (y : Float) → g i j y ≡ value f c a l i (from + j) y)
      → StripOf c a b from (from + lines) (from * c.ldb) old ys
  unfolding by_side grid
  left-strip es within g old ys ey values l xl eo =
      strip-of-box c a b from lines (cuts Left es) within (from * c.ldb) g l ys all-written (omega (arith, ld-is)) (omega (arith, ld-is)) (ap (λ (n : ℕ). from * n) (sym ld-is)) xl
      (ey ∙ ap₂ (λ (n : ℕ) (o : List Float). update (region n c.m lines g) o) (sym ld-is) eo)
      (λ i j hi hj y. values l eo i j hi hj y ∙ value-is l i (from + j) y)

  pub right-strip : c.side ≡ Right → from + lines ≤ c.m → (g : ℕ → ℕ → Float → Float) (old ys : List Float)
      → ys ≡ update (grid false c.ldb c.n lines g) old
      → ((l : List Float) → old ≡ drop from l → (i j : ℕ) → i < lines → j < c.n → (y : Float) → g j i y ≡ value f c a l (from + i) j y)
      → StripOf c a b from (from + lines) from old ys
  unfolding by_side grid
  right-strip es within g old ys ey values l xl eo =
      strip-of-rows c a b from lines (cuts Right es) all-written within (λ i j x. g j i x) l ys (omega (arith, ld-is)) (omega (arith, ld-is)) xl
      (ey ∙ ap₂ (λ (n : ℕ) (o : List Float). update (region n lines c.n (λ i j x. g j i x)) o) (sym ld-is) eo)
      (λ i j hi hj y. values l eo i j hi hj y ∙ value-is l (from + i) j y)
