-- Where a hall falls apart. Assumes nothing: these are definitions.
use Rattle.std.specs.Prelude.{◌≡◌, ℕ, ◌≤◌, ◌<◌}
use Rattle.junctions.specs.Sets.{holds, full}
use Rattle.hall.specs.Hall.{Hall, row, count}

-- SPLIT: neither empty nor the whole hall, and no row enters or leaves it
pub record Split (h : Hall) (s : ℕ) : Type 0 where
  pub some : 0 < s
  pub proper : s < full h.n
  pub same : (i : ℕ) → 1 ≤ i → i ≤ count h → holds s (row h i).from ≡ holds s (row h i).to
