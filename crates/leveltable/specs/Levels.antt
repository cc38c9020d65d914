-- Junctions by their potentials in a table of 128 keys, a potential's key being what it leaves modulo 128. Assumes nothing: these are definitions.
use Rattle.std.specs.Prelude.{◌≡◌, ◌&&◌, List, ℕ, ◌%◌, ◌≤◌, ◌<◌, leb, eqb, get_or, length}
use Rattle.laws.specs.Lists.{at}
use Rattle.junctions.specs.Sets.{holds}

-- the first k junctions are in: a potential that is its key's value has its junctions there, and the key of each junction has some
pub record Levels (k : ℕ) (potential values sets : List ℕ) : Type 0 where
  pub values_size : length values ≡ 128
  pub sets_size : length sets ≡ 128
  pub level : (v y : ℕ) → get_or values (v % 128) 0 ≡ v → 1 ≤ y → holds (get_or sets (v % 128) 0) y ≡ (leb y k && eqb v (at potential y))
  pub taken : (y : ℕ) → 1 ≤ y → y ≤ k → 0 < get_or sets (at potential y % 128) 0
