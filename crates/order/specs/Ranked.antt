-- What a row costs the planner: its price, or more than any choice costs; and one cost that decides by total, then by row count. Assumes nothing: these are definitions.
use Rattle.std.specs.Prelude.{Bool, true, false, ℕ, ◌+◌, ◌*◌, ◌≤◌}
use Rattle.hall.specs.Hall.{Hall, row, count}
use Rattle.dicuts.specs.Shores.{once, unfixed_row, Joining}

-- the price; for a fixed row 256,000,001, more than 256 prices together
unfoldable pub charge_of : (fixed : Bool) → (price : ℕ) → ℕ
charge_of true price = 256000001
charge_of false price = price

-- the charge of a row
unfoldable pub charge : Hall → (i : ℕ) → ℕ
charge h i = charge_of (row h i).fixed (row h i).price

-- the ranked cost of a row: 257 times its charge, and 1
unfoldable pub ranked : Hall → (i : ℕ) → ℕ
ranked h i = 257 * charge h i + 1

-- A PLANNABLE HALL: at most 256 rows, prices of at most 1,000,000, and the rows that are not fixed join, so that some joining choice costs less than a fixed row is charged
pub record Plannable (h : Hall) : Type 0 where
  pub few : count h ≤ 256
  pub low : (i : ℕ) → 1 ≤ i → i ≤ count h → (row h i).price ≤ 1000000
  pub joining : Joining h (once (unfixed_row h))
