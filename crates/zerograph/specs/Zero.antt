-- The zero graph as a list of sets, junction j at place j - 1. Assumes nothing: these are definitions.
use Rattle.std.specs.Prelude.{◌≡◌, Bool, ◌||◌, List, ℕ, suc, ◌≤◌, ◌<◌, length}
use Rattle.laws.specs.Lists.{at}
use Rattle.laws.specs.Finite.{any_below}
use Rattle.junctions.specs.Sets.{holds}
use Rattle.hall.specs.Hall.{Hall}
use Rattle.potentials.specs.ZeroGraph.{opens, closes, zero_arcs}

-- the sets hold the arcs that the first k rows make
pub record RowArcs (h : Hall) (movable : ℕ → Bool) (c p : ℕ → ℕ) (F : ℕ → Bool) (k : ℕ) (sets : List ℕ) : Type 0 where
  pub size : length sets ≡ 64
  pub arc : (x y : ℕ) → 1 ≤ x → x ≤ 64 → 1 ≤ y →
      holds (at sets x) y ≡ any_below k (λ i. opens h movable c p x y (suc i) || closes h movable F x y (suc i))

-- THE ZERO GRAPH as a list of sets; junctions beyond the hall have no arcs
pub record ZeroGraph (h : Hall) (movable : ℕ → Bool) (c p : ℕ → ℕ) (F : ℕ → Bool) (sets : List ℕ) : Type 0 where
  pub inside : (x : ℕ) → 1 ≤ x → x ≤ h.n → at sets x ≡ zero_arcs h movable c p F x
  pub outside : (x : ℕ) → h.n < x → x ≤ 64 → at sets x ≡ 0
