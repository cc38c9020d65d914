-- Solid arcs: those that stay when any one row is no longer chosen. Assumes nothing: these are definitions.
use Rattle.std.specs.Prelude.{◌≡◌, Bool, ◌&&◌, ◌||◌, List, ℕ, suc, ◌≤◌, eqb, leb}
use Rattle.laws.specs.Lists.{at}
use Rattle.laws.specs.Finite.{any_below, count_below}
use Rattle.junctions.specs.Sets.{holds}
use Rattle.hall.specs.Hall.{Hall, row, count}

-- row k + 1 runs from x to y
abbrev pub forward : Hall → (x y k : ℕ) → Bool
forward h x y k = eqb (row h (suc k)).from x && eqb (row h (suc k)).to y

-- row k + 1 is one of F and runs from y to x
abbrev pub backward : Hall → (F : ℕ → Bool) → (x y k : ℕ) → Bool
backward h F x y k = F (suc k) && (eqb (row h (suc k)).to x && eqb (row h (suc k)).from y)

-- A SOLID ARC from x to y: some row runs from x to y, or at least two of F run from y to x. Any other arc of F is frail
unfoldable pub solid : Hall → (F : ℕ → Bool) → (x y : ℕ) → Bool
solid h F x y = any_below (count h) (forward h x y) || leb 2 (count_below (count h) (backward h F x y))

-- the sets hold the solid arcs of a set of rows
unfoldable pub SolidArcs : Hall → (F : ℕ → Bool) → (sets : List ℕ) → Type 0
SolidArcs h F sets = (x y : ℕ) → 1 ≤ x → x ≤ h.n → 1 ≤ y → y ≤ h.n → holds (at sets x) y ≡ solid h F x y
