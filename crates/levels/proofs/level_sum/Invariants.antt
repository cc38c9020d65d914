-- `level_sum` adds up what the shores weigh that hold the junction. The invariant: the sum is that of the cuts so far, and at most so many times the largest weight. Assumes nothing.
use Rattle.std.proofs.Common.{◌≡◌, ◌*◌, ◌≤◌, length, List, ℕ, cond}
use Rattle.laws.specs.Finite.{sum_below}
use Rattle.junctions.specs.Sets.{holds}
use Rattle.shorelist.specs.Listed.{place_of}
use Rattle.levels.proofs.level_sum.Given as goal

-- what place i adds: its weight, where its shore holds junction j
abbrev pub share_of : (shores weights : List ℕ) → (j : ℕ) → ℕ → ℕ
share_of shores weights j i = cond (holds (place_of shores i) j) (place_of weights i) 0

abbrev pub invariant-loop-shore : goal.invariant-loop-shore
invariant-loop-shore l = record {
  small : l.sum ≤ length l.yielded * 4294967295;
  sum_so_far : l.sum ≡ sum_below (length l.yielded) (share_of l.shores l.weights l.j);
}
