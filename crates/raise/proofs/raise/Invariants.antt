-- Raise lifts one junction a turn. The invariant: the junctions that are left to lift make of the levels what the raise on the set makes of the potential. Assumes nothing.
use mathlib.Core.Path.{◌≡◌}
use Prim.Native.Nat.{ℕ, ◌≤◌}
use lib.ListN.{length}
use Rattle.laws.specs.Lists.{at}
use Rattle.potentials.specs.ZeroGraph.{raised}
use Rattle.raise.proofs.raise.Given as goal

abbrev pub invariant-loop-j : goal.invariant-loop-j
invariant-loop-j l = record {
  size : length l.next ≡ 64;
  same : (j : ℕ) → 1 ≤ j → raised l.j-iterator.left l.by (at l.next) j ≡ raised l.set l.by (at l.potential) j;
}
