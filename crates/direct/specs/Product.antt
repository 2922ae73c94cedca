-- The product that the general multiply adds.
--     product     entry (i, j) of alpha times L times R, added to e term by term: e + (alpha * v) * u, u from L and v from R
--     partly      the same, after n of the k terms
--     product_of  what a product adds whose left factor has its rows from i₀ on and whose right factor has its columns from j₀ on
--     Reads       such a product of `rows` rows and `cols` columns reads its arrays where they have elements
--     strided     a factor that is read by two strides: entry (i, j) is element i * r + j * c
--     row_stride, column_stride   the strides of a form
use Rattle.std.specs.Prelude.{Bool, List, ℕ, ◌+◌, ◌*◌, ◌<◌, length, Float}
use Rattle.arrays.specs.Update.{EntryMap}
use Rattle.floats.specs.Array.{at}
use Rattle.floats.specs.Operations.{◌⊗◌}
use Rattle.blocks.specs.Terms.{accumulate}
use Rattle.packing.specs.Factor.{Matrix, index_of, matrix_of, turn}
use Rattle.packing.specs.declared.Form.{Form}
use Rattle.direct.specs.declared.Product.{Product}
use Rattle.packing.specs.declared.Form.TheVariants.{Plain, Transposed, Lower, Upper}

unfoldable pub partly : Float → Matrix → Matrix → Bool → ℕ → ℕ → EntryMap Float
partly alpha L R down k n i j e = accumulate (λ q. alpha ⊗ R (turn down k q) j) (λ q. L i (turn down k q)) n e

unfoldable pub product : Float → Matrix → Matrix → Bool → ℕ → EntryMap Float
product alpha L R down k = partly alpha L R down k k

unfoldable pub strided : List Float → ℕ → ℕ → Matrix
strided a r c i j = at a (i * r + j * c)

-- (Of a form that is not mirrored.)
abbrev pub row_stride : Form → ℕ → ℕ
row_stride Plain ld = 1
row_stride Transposed ld = ld
row_stride Lower ld = 0
row_stride Upper ld = 0

abbrev pub column_stride : Form → ℕ → ℕ
column_stride Plain ld = ld
column_stride Transposed ld = 1
column_stride Lower ld = 0
column_stride Upper ld = 0

-- the rows of a factor from i₀ on, and its columns from j₀ on
abbrev pub from_row : ℕ → Matrix → Matrix
from_row i₀ M i l = M (i₀ + i) l

abbrev pub from_column : ℕ → Matrix → Matrix
from_column j₀ M l j = M l (j₀ + j)

abbrev pub product_of : Product → ℕ → ℕ → Bool → EntryMap Float
product_of p i₀ j₀ down = product p.alpha (from_row i₀ (matrix_of p.left)) (from_column j₀ (matrix_of p.right)) down p.terms

abbrev pub Reads : Product → ℕ → ℕ → ℕ → ℕ → Type 0
Reads p i₀ rows j₀ cols =
    ((i l : ℕ) → i < rows → l < p.terms → index_of p.left.form p.left.ld (i₀ + i) l < length p.left.cells.now)
    × ((l j : ℕ) → l < p.terms → j < cols → index_of p.right.form p.right.ld l (j₀ + j) < length p.right.cells.now)
