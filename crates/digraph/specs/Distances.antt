-- Fewest arcs as a function, and the junctions that arcs lead to. Assumes nothing: these are definitions.
use Rattle.std.specs.Prelude.{ℕ, ◌-◌, ◌^◌, ltb}
use Rattle.laws.specs.First.{first_below}
use Rattle.junctions.specs.Sets.{holds, gather}
use Rattle.digraph.specs.Closure.{ball}

-- the fewest arcs from the start to junction y, or n where none lead there
unfoldable pub distances : (n : ℕ) → (out : ℕ → ℕ) → (start y : ℕ) → ℕ
distances n out start y = first_below n (λ k. holds (ball n out (2 ^ (start - 1)) k) y)

-- the junctions of 1 to n at a distance less than n
unfoldable pub near : (n : ℕ) → (dist : ℕ → ℕ) → ℕ
near n dist = gather n (λ j. ltb (dist j) n)
