-- What conditions 2 to 8 of the drawing leave. Assumes nothing: these are definitions.
use Rattle.std.specs.Prelude.{◌≡◌, true, List, ℕ, ◌+◌, ◌*◌, ◌≤◌, length}
use Rattle.hall.specs.Hall.{Row, row, count}
use Rattle.hall.specs.File.{blocks, pairs_good, hall_in}

-- both ends of the row are junctions 1 to n
pub record RowEnds (n : ℕ) (r : Row) : Type 0 where
  pub from_low : 1 ≤ r.from
  pub from_high : r.from ≤ n
  pub to_low : 1 ≤ r.to
  pub to_high : r.to ≤ n

-- SOUND IN ALL ELSE: the file meets none of 2 to 8, condition by condition
pub record Sound (bs : List ℕ) : Type 0 where
  -- 2, its length
  pub long_enough : 4 ≤ length bs
  pub not_too_long : length bs ≤ 65536
  -- 3, its junctions
  pub junctions_some : 1 ≤ (hall_in bs).n
  pub junctions_few : (hall_in bs).n ≤ 64
  -- 4, its blocks
  pub blocks_few : blocks bs ≤ 16
  pub blocks_fit : 4 + 8 * blocks bs ≤ length bs
  pub blocks_good : pairs_good (blocks bs) 0 (4 + 8 * blocks bs) bs ≡ true
  -- 5, its rows
  pub rows_few : count (hall_in bs) ≤ 256
  -- 6 and 8, each row; no condition is 7
  pub ends : (i : ℕ) → 1 ≤ i → i ≤ count (hall_in bs) → RowEnds (hall_in bs).n (row (hall_in bs) i)
  pub price : (i : ℕ) → 1 ≤ i → i ≤ count (hall_in bs) → (row (hall_in bs) i).price ≤ 1000000
