-- Where a hall cannot be opened. Assumes nothing: these are definitions.
use Rattle.std.specs.Prelude.{◌≡◌, true, ℕ, ◌≤◌}
use Rattle.hall.specs.Hall.{Hall, row, count, enters, is_cut}

-- A FIXED CUT: a directed cut that has fixed rows only
pub record FixedCut (h : Hall) (s : ℕ) : Type 0 where
  pub cut : is_cut h s ≡ true
  pub fixed : (i : ℕ) → 1 ≤ i → i ≤ count h → enters s (row h i) ≡ true → (row h i).fixed ≡ true
