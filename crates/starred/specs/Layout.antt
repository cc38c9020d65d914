-- The bytes of a hall file with all rows in one block. Assumes nothing: these are definitions.
use Rattle.std.specs.Prelude.{cond, List, [], ◌∷◌, ◌++◌, ℕ, zero, suc, ◌*◌, ◌/◌, ◌%◌, length}
use Rattle.hall.specs.Hall.{Row, Hall}

-- a number in `left` bytes, little-endian
unfoldable pub bytes_of : (left : ℕ) → ℕ → List ℕ
bytes_of zero v = []
bytes_of (suc k) v = v % 256 ∷ bytes_of k (v / 256)

-- the price field of a row: FFFFFFFF hexadecimal where it is fixed
unfoldable pub price_field : Row → ℕ
price_field r = cond r.fixed 4294967295 r.price

-- the eight bytes of each row
unfoldable pub rows_bytes : List Row → List ℕ
rows_bytes [] = []
rows_bytes (r ∷ rs) = bytes_of 2 r.from ++ bytes_of 2 r.to ++ bytes_of 4 (price_field r) ++ rows_bytes rs

-- what follows the junction count: no block where there are no rows, else one block right behind its pair
unfoldable pub blocks_bytes : List Row → List ℕ
blocks_bytes [] = bytes_of 2 0
blocks_bytes (r ∷ rs) = bytes_of 2 1 ++ bytes_of 4 12 ++ bytes_of 4 (8 * length (r ∷ rs)) ++ rows_bytes (r ∷ rs)

-- the file of a hall
unfoldable pub file_of : Hall → List ℕ
file_of h = bytes_of 2 h.n ++ blocks_bytes h.rows
