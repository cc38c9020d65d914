-- Zero_graph adds the swaps of one junction a turn to the arcs of the rows. The invariant: the first x junctions have all their arcs, the others those of rows. Assumes nothing.
use Rattle.laws.specs.Lists.{at}
use Rattle.hall.specs.Hall.{Hall}
use Rattle.columns.specs.Columns.{flagged, Neighbourhoods}
use Rattle.columns.specs.Lanes.{LanesOf}
use Rattle.zerograph.proofs.Swaps.{Swapped}
use Rattle.zerograph.proofs.zero_graph.Given as goal

abbrev pub invariant-loop-x : goal.invariant-loop-x
invariant-loop-x l = (h : Hall) → LanesOf h l.network.lanes.now → Neighbourhoods h (flagged l.chosen) l.around →
    Swapped h (flagged l.network.movable.now) (at l.network.costs.now.rows) (at l.network.potential.now) (flagged l.chosen) l.x l.arcs
