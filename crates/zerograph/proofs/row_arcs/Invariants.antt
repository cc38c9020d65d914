-- Row_arcs adds the arcs of one row a turn. The invariant: the sets hold the arcs of the first k rows. Assumes nothing.
use Prim.Native.Nat.{ℕ}
use Rattle.laws.specs.Lists.{at}
use Rattle.hall.specs.Hall.{Hall}
use Rattle.columns.specs.Columns.{flagged}
use Rattle.columns.specs.Lanes.{RowsOf}
use Rattle.zerograph.specs.Zero.{RowArcs}
use Rattle.zerograph.proofs.row_arcs.Given as goal

abbrev pub invariant-loop-k : goal.invariant-loop-k
invariant-loop-k l = (h : Hall) (n : ℕ) → RowsOf h n l.network.lanes.now →
    RowArcs h (flagged l.network.movable.now) (at l.network.costs.now.rows) (at l.network.potential.now) (flagged l.chosen) l.k l.arcs
