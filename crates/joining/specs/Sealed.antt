-- Sets that a walk over rows forward and chosen rows backward never leaves. Assumes nothing: these are definitions.
use Rattle.std.specs.Prelude.{◌≡◌, Bool, true, ℕ, ◌≤◌}
use Rattle.junctions.specs.Sets.{holds}
use Rattle.hall.specs.Hall.{Hall, row, count}

-- SEALED: no row leaves the set, and no row of F enters it
pub record Sealed (h : Hall) (F : ℕ → Bool) (s : ℕ) : Type 0 where
  pub kept : (i : ℕ) → 1 ≤ i → i ≤ count h → holds s (row h i).from ≡ true → holds s (row h i).to ≡ true
  pub shut : (i : ℕ) → 1 ≤ i → i ≤ count h → F i ≡ true → holds s (row h i).to ≡ true → holds s (row h i).from ≡ true
