-- `adjacency::of_rows` gives the arcs of the rows. The invariant: the sets hold what the first k rows lead to (Filling). Assumes nothing.
use Rattle.adjacency.proofs.Filling.{Filling}
use Rattle.adjacency.proofs.of_rows.Given as goal

abbrev pub invariant-loop-k : goal.invariant-loop-k
invariant-loop-k l = Filling l.lanes l.flags l.k l.sets
