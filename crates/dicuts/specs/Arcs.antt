-- The arcs of a set of rows: every row forward, the chosen ones backward too. Assumes nothing: these are definitions.
use Rattle.std.specs.Prelude.{Bool, ◌&&◌, ◌||◌, ℕ, suc, eqb}
use Rattle.laws.specs.Finite.{any_below}
use Rattle.junctions.specs.Sets.{gather}
use Rattle.hall.specs.Hall.{Hall, row, count}

-- some arc leads from x to y
unfoldable pub arc : Hall → (F : ℕ → Bool) → (x y : ℕ) → Bool
arc h F x y =
    any_below (count h) λ k.
    (eqb (row h (suc k)).from x && eqb (row h (suc k)).to y)
    || (F (suc k) && (eqb (row h (suc k)).to x && eqb (row h (suc k)).from y))

-- the junctions that arcs lead to from x: the adjacency of a choice
unfoldable pub arcs : Hall → (F : ℕ → Bool) → (x : ℕ) → ℕ
arcs h F x = gather h.n (arc h F x)
