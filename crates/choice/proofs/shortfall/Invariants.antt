-- `choice::shortfall` gives what the lowest junction that does not reach all reaches. The invariant: the junctions after j decide what all decide, and those up to j reach all (Known). Assumes nothing.
use mathlib.Core.List.{List}
use mathlib.Core.Path.{◌≡◌}
use Prim.Native.Nat.{ℕ, suc, ◌-◌, ◌^◌}
use Rattle.laws.specs.Lists.{at}
use Rattle.junctions.specs.Sets.{full}
use Rattle.digraph.specs.Closure.{closure}
use Rattle.choice.specs.Short.{short_from}
use Rattle.choice.proofs.Short.{Known}
use Rattle.choice.proofs.shortfall.Given as goal

-- what each junction reaches
abbrev pub from_each : ℕ → List ℕ → ℕ → ℕ
from_each n adjacency j = closure n (at adjacency) (2 ^ (j - 1))

abbrev pub invariant-loop-j : goal.invariant-loop-j
invariant-loop-j l = record {
  left : short_from (l.n - l.j) (suc l.j) (full l.n) (from_each l.n l.adjacency) ≡ short_from l.n 1 (full l.n) (from_each l.n l.adjacency);
  known : Known l.n (at l.adjacency) l.j;
}
