-- The panel that all items read, and what the arrays of the items have room for.
use Rattle.std.specs.Prelude.{ℕ, ◌-◌, ◌*◌, ◌≤◌, ◌<◌, ◌≡◌, Bool, false, List, length, take, Float, if◌then◌else◌}
use Rattle.std.specs.Float.{nan}
use Rattle.definitions.specs.Number.{is_zero}
use Rattle.definitions.specs.Storage.{stored}
use Rattle.definitions.specs.Check.{untested, call_of}
use Rattle.definitions.specs.Many.{from_last}
use Rattle.definitions.specs.declared.Routine.TheVariants.{Gemm}
use Rattle.definitions.specs.declared.Transpose.TheVariants.{No}
use Rattle.definitions.specs.declared.Args.{Args}
use Rattle.definitions.specs.declared.Call.{Call}
use Rattle.definitions.specs.declared.Items.{Items}
use Rattle.strips.specs.Lengths.{FitsArrays}

-- How many elements of A, or of the pack area, the panel has: m·k, or none if A is not read.
unfoldable pub panel_size : Call → ℕ
panel_size c = if untested c then 0 else c.m * c.k

-- The panel: the first elements of A where its own part is it, else of the pack area.
abbrev pub panel_of : Call → Bool → List Float → List Float → List Float
panel_of c own a pack = take (panel_size c) (if own then a else pack)

-- The call with the panel for its A.
unfoldable pub over_panel : Call → Call
over_panel c = record {
  routine = c.routine;
  side = c.side;
  uplo = c.uplo;
  transa = c.transa;
  transb = c.transb;
  diag = c.diag;
  m = c.m;
  n = c.n;
  k = c.k;
  alpha = c.alpha;
  beta = c.beta;
  lda = c.m;
  ldb = c.ldb;
  ldc = c.ldc;
}

-- Each item's call fits what its arrays have from the item on.
abbrev pub EachFits : Call → ℕ → ℕ → ℕ → ℕ → ℕ → ℕ → Type 0
EachFits c lenp lenb lenc strideb stridec count =
    (i : ℕ) → i < count → (i * stridec ≤ lenc) × FitsArrays c lenp (lenb - i * strideb) (lenc - i * stridec)

-- The panel is there, without padding, and has room, and so have the arrays of the items.
pub record Prepared (c : Call) (own : Bool) (a pack : List Float) (lenb lenc strideb stridec count : ℕ) : Type 0 where
  pub is-gemm : c.routine ≡ Gemm
  pub plain : c.transa ≡ No
  pub room : panel_size c ≤ length (if own then a else pack)
  pub same : is_zero c.alpha ≡ false → (i l : ℕ) → i < c.m → l < c.k → stored nan (panel_of c own a pack) c.m i l ≡ stored nan a c.lda i l
  pub fits : EachFits (over_panel c) (panel_size c) lenb lenc strideb stridec count

-- The arguments are those of the last item's GEMM, with A as it is stored.
pub record OfLast (g : Args) (t : Items) (lena lenb lenc : ℕ) : Type 0 where
  pub is-gemm : g.routine ≡ Gemm
  pub plain : (call_of g).transa ≡ No
  pub has-a : g.lena ≡ lena
  pub has-b : g.lenb ≡ from_last lenb t.strideb t.count
  pub has-c : g.lenc ≡ from_last lenc t.stridec t.count
