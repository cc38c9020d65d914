-- Flip walks back from the target, an arc a turn. The invariant: the flags are those after the legs walked so far, from y on. The measure is the distance of y. Assumes nothing.
use mathlib.Core.Path.{◌≡◌}
use Prim.Native.Nat.{ℕ, ◌≤◌, ◌<◌}
use lib.ListN.{length}
use Rattle.laws.specs.Lists.{at}
use Rattle.hall.specs.Hall.{Hall}
use Rattle.columns.specs.Columns.{flagged}
use Rattle.columns.specs.Lanes.{RowsOf}
use Rattle.zerograph.specs.Zero.{ZeroGraph}
use Rattle.flip.proofs.Flips.{Walking}
use Rattle.flip.proofs.flip.Given as goal

abbrev pub invariant-loop-y : goal.invariant-loop-y
invariant-loop-y l = record {
  from_one : 1 ≤ l.y;
  to_last : l.y ≤ 64;
  reached : at l.distances l.y < 64;
  size : length l.flags ≡ 256;
  walked : (h : Hall) (n : ℕ) → RowsOf h n l.network.lanes.now →
      ZeroGraph h (flagged l.network.movable.now) (at l.network.costs.now.rows) (at l.network.potential.now) (flagged l.chosen) l.adjacency → l.target ≤ h.n →
      (l.y ≤ h.n) × Walking h (flagged l.network.movable.now) (at l.network.costs.now.rows) (at l.network.potential.now) (flagged l.chosen) (at l.distances) l.target l.y (flagged l.flags);
}

abbrev pub decreases-loop-y : goal.decreases-loop-y
decreases-loop-y l = at l.distances l.y
