-- An array that is updated in place: each element goes through a function of its place and its old value. Such a function is an index map,
-- or, where the array holds a matrix with a leading dimension, an entry map.
--     update     the array whose element p is `f p x`, x the old element
--     below      the index map that keeps the elements from n on
--     entries    an entry map as an index map: with leading dimension ld element p is in row p % ld and column p / ld
--     only       the entry map that keeps the entries outside a mask
--     box        the mask of the rows below `rows` and the columns below `cols`
--     region     an entry map on that box
--     trapezoid  the mask of a triangle, diagonal included, in the columns from `from` on: column j of the part is column from + j of the matrix, and
--                the part has the rows below `rows` and the columns below `cols`
--     corner     the same from the matrix's first column on
--     shifted    an entry map of the block that starts at row i₀ and column j₀
use Rattle.std.specs.Prelude.{Bool, ◌&&◌, List, [], ◌∷◌, ℕ, suc, ◌+◌, ◌-◌, ◌/◌, ◌%◌, leb, ltb, if◌then◌else◌}

unfoldable pub update_from : {A : Type 0} → ℕ → (ℕ → A → A) → List A → List A
update_from k f [] = []
update_from k f (x ∷ xs) = f k x ∷ update_from (suc k) f xs

abbrev pub update : {A : Type 0} → (ℕ → A → A) → List A → List A
update f l = update_from 0 f l

unfoldable pub below : {A : Type 0} → ℕ → (ℕ → A → A) → ℕ → A → A
below n f p x = if ltb p n then f p x else x

abbrev pub EntryMap : Type 0 → Type 0
EntryMap A = ℕ → ℕ → A → A

abbrev pub Mask : Type 0
Mask = ℕ → ℕ → Bool

unfoldable pub entries : {A : Type 0} → ℕ → EntryMap A → ℕ → A → A
entries ld f p x = f (p % ld) (p / ld) x

unfoldable pub only : {A : Type 0} → Mask → EntryMap A → EntryMap A
only inside f i j x = let y = f i j x in if inside i j then y else x

unfoldable pub box : ℕ → ℕ → Mask
box rows cols i j = ltb i rows && ltb j cols

unfoldable pub region : {A : Type 0} → ℕ → ℕ → ℕ → EntryMap A → ℕ → A → A
region ld rows cols f = entries ld (only (box rows cols) f)

unfoldable pub trapezoid : Bool → ℕ → ℕ → ℕ → Mask
trapezoid lower from rows cols i j = box rows cols i j && (if lower then leb (from + j) i else leb i (from + j))

abbrev pub corner : Bool → ℕ → ℕ → Mask
corner lower rows cols = trapezoid lower 0 rows cols

unfoldable pub shifted : {A : Type 0} → ℕ → ℕ → EntryMap A → EntryMap A
shifted i₀ j₀ f i j x = if leb i₀ i && leb j₀ j then f (i - i₀) (j - j₀) x else x
