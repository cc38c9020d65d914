-- What arrays say while the rows of a hall are decided in turn. Assumes nothing: these are definitions.
use Rattle.std.specs.Prelude.{◌≡◌, Bool, List, ℕ, ◌≤◌}
use Rattle.laws.specs.Lists.{at}
use Rattle.hall.specs.Hall.{Hall}
use Rattle.deciding.specs.Decided.{rows_after}
use Rattle.deciding.specs.Deciding.{Deciding}
use Rattle.columns.specs.Columns.{flagged, Neighbourhoods}

-- of 256 rows those after row k are flagged
abbrev pub Movable : (k : ℕ) → (flags : List Bool) → Type 0
Movable k flags = (i : ℕ) → 1 ≤ i → i ≤ 256 → flagged flags i ≡ rows_after k i

-- k rows are decided, and the sets are the tight neighbourhoods of the choice
pub record Standing (h : Hall) (costs : List ℕ) (k : ℕ) (potential : List ℕ) (chosen : List Bool) (sets : List ℕ) : Type 0 where
  pub deciding : Deciding h (at costs) k (at potential) (flagged chosen)
  pub around : Neighbourhoods h (flagged chosen) sets
