-- Places between the rows of a file. Assumes nothing: these are definitions.
use Rattle.std.specs.Prelude.{◌≡◌, true, List, ◌++◌, ℕ, ◌+◌, ◌*◌, ◌-◌, ◌≤◌, ◌<◌, length}
use Rattle.hall.specs.Hall.{Row}
use Rattle.hall.specs.File.{pairs_good, rows_at, all_rows}
use Rattle.filerows.specs.declared.places.Place.{Place}

-- the table of blocks lies in the file and keeps the rules
pub record Table (bs : List ℕ) (blocks : ℕ) : Type 0 where
  pub few : blocks ≤ 16
  pub fits : 4 + 8 * blocks ≤ length bs
  pub good : pairs_good blocks 0 (4 + 8 * blocks) bs ≡ true

-- the rows that the place's block has left lie in the file
pub record Stands (bs : List ℕ) (blocks : ℕ) (p : Place) : Type 0 where
  pub block : p.block ≤ blocks
  pub fits : p.at + 8 * p.left ≤ length bs

-- the rows from a place on
unfoldable pub rest_at : List ℕ → (blocks : ℕ) → Place → List Row
rest_at bs m p = rows_at p.left p.at bs ++ all_rows (m - p.block) p.block bs

-- the same rows are left from q on, and q's own block has the first of them
pub record Ahead (bs : List ℕ) (blocks : ℕ) (p q : Place) : Type 0 where
  pub stands : Stands bs blocks q
  pub some : 0 < q.left
  pub same : rest_at bs blocks q ≡ rest_at bs blocks p
