-- Sets that no row leaves, and parts of a set with no row between them and the rest. Assumes nothing: these are definitions.
use Rattle.std.specs.Prelude.{◌≡◌, true, ℕ, ◌≤◌, ◌<◌}
use Rattle.junctions.specs.Sets.{holds, Within}
use Rattle.hall.specs.Hall.{Hall, row, count}

-- no row leaves the set
abbrev pub Kept : Hall → (s : ℕ) → Type 0
Kept h s = (i : ℕ) → 1 ≤ i → i ≤ count h → holds s (row h i).from ≡ true → holds s (row h i).to ≡ true

-- A PART of a set: not empty, and no row runs between it and the rest of the set
pub record Part (h : Hall) (s a : ℕ) : Type 0 where
  pub some : 0 < a
  pub within : Within a s
  pub alone : (i : ℕ) → 1 ≤ i → i ≤ count h → holds s (row h i).from ≡ true → holds s (row h i).to ≡ true →
      holds a (row h i).from ≡ holds a (row h i).to
