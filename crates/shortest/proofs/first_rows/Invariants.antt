-- `first_rows` notes each row, from the last to the first. The invariant: for each junction the table has the lowest row over those left that leads to one nearer (RowsOver). Assumes nothing.
use Rattle.laws.specs.Lists.{at}
use Rattle.shortest.specs.Steps.{RowsOver}
use Rattle.shortest.proofs.first_rows.Given as goal

abbrev pub invariant-loop-k : goal.invariant-loop-k
invariant-loop-k l = RowsOver l.k l.lanes l.chosen (at l.distances) l.first
