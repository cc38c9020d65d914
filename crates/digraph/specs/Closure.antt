-- What at most so many arcs lead to, and all that is reached, as functions. Assumes nothing: these are definitions.
use Rattle.std.specs.Prelude.{Bool, ◌&&◌, ◌||◌, ℕ, zero, suc}
use Rattle.laws.specs.Finite.{any_below}
use Rattle.junctions.specs.Sets.{holds, gather}

-- some junction of the set, of 1 to n, has an arc to y
unfoldable pub arc_from : (n : ℕ) → (out : ℕ → ℕ) → (s y : ℕ) → Bool
arc_from n out s y = any_below n (λ k. holds s (suc k) && holds (out (suc k)) y)

-- the set and the junctions of 1 to n that one arc from it leads to
unfoldable pub widen : (n : ℕ) → (out : ℕ → ℕ) → (s : ℕ) → ℕ
widen n out s = gather n (λ y. holds s y || arc_from n out s y)

-- the junctions that at most k arcs from the start lead to
unfoldable pub ball : (n : ℕ) → (out : ℕ → ℕ) → (start k : ℕ) → ℕ
ball n out start zero = start
ball n out start (suc k) = widen n out (ball n out start k)

-- all junctions that arcs from the start lead to
unfoldable pub closure : (n : ℕ) → (out : ℕ → ℕ) → (start : ℕ) → ℕ
closure n out start = ball n out start n
