-- What is reached over an adjacency: the least closed set. Assumes nothing: these are definitions.
use Rattle.std.specs.Prelude.{◌≡◌, true, ℕ, ◌≤◌}
use Rattle.junctions.specs.Sets.{holds, Within}

-- AN ADJACENCY gives for each junction the set of junctions that its arcs lead to. A set is closed if no arc leads out of it
unfoldable pub Closed : (n : ℕ) → (adjacency : ℕ → ℕ) → (s : ℕ) → Type 0
Closed n out s = (j : ℕ) → 1 ≤ j → j ≤ n → holds s j ≡ true → Within (out j) s

-- REACHED from a set: the least closed set that contains it
pub record Reach (n : ℕ) (out : ℕ → ℕ) (start r : ℕ) : Type 0 where
  pub contains : Within start r
  pub closed : Closed n out r
  pub least : (t : ℕ) → Within start t → Closed n out t → Within r t
