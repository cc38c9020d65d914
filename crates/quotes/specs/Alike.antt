-- Halls that differ in prices alone. Assumes nothing: these are definitions.
use Rattle.std.specs.Prelude.{◌≡◌, ℕ, ◌≤◌}
use Rattle.hall.specs.Hall.{Hall, row, count}

-- ALIKE: as many junctions and rows; each row has the same ends, and is fixed in both or in neither
pub record Alike (h g : Hall) : Type 0 where
  pub junctions : g.n ≡ h.n
  pub rows : count g ≡ count h
  pub from_same : (k : ℕ) → 1 ≤ k → k ≤ count h → (row g k).from ≡ (row h k).from
  pub to_same : (k : ℕ) → 1 ≤ k → k ≤ count h → (row g k).to ≡ (row h k).to
  pub fixed_same : (k : ℕ) → 1 ≤ k → k ≤ count h → (row g k).fixed ≡ (row h k).fixed
