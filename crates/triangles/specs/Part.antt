-- Some columns of a triangle.
--     part_of     the update of these columns: an entry map in the triangle's part of them
--     product_of  what a product adds whose right factor has its columns from g on
--     PartRoom    an array of len elements has room for them, from the first one on
--     Reads       a product of n rows and n columns reads its arrays where they have elements
use Rattle.std.specs.Prelude.{false, ℕ, ◌+◌, ◌*◌, ◌<◌, ◌≤◌, length, Float}
use Rattle.arrays.specs.Update.{EntryMap, entries, only, trapezoid}
use Rattle.packing.specs.Factor.{index_of, matrix_of}
use Rattle.direct.specs.Product.{from_column, product}
use Rattle.direct.specs.declared.Product.{Product}
use Rattle.triangles.specs.declared.Part.{Part}

abbrev pub part_of : Part → EntryMap Float → ℕ → Float → Float
part_of s F = entries s.ld (only (trapezoid s.lower s.from s.n s.cols) F)

abbrev pub PartRoom : Part → ℕ → Type 0
PartRoom s len = (s.n ≤ s.ld) × (s.cols * s.ld + s.n ≤ len + s.ld) × (0 < s.cols) × (s.from + s.cols ≤ s.n)

abbrev pub product_of : ℕ → Product → EntryMap Float
product_of g p = product p.alpha (matrix_of p.left) (from_column g (matrix_of p.right)) false p.terms

abbrev pub Reads : Product → ℕ → Type 0
Reads p n =
    ((i l : ℕ) → i < n → l < p.terms → index_of p.left.form p.left.ld i l < length p.left.cells.now)
    × ((l j : ℕ) → l < p.terms → j < n → index_of p.right.form p.right.ld l j < length p.right.cells.now)
