-- `tight::solid_arcs` gives the solid arcs of the rows. The invariant: the sets are those of the first k rows (SolidRows). Assumes nothing.
use Rattle.tight.specs.SolidRows.{SolidRows}
use Rattle.tight.proofs.solid_arcs.Given as goal

abbrev pub invariant-loop-k : goal.invariant-loop-k
invariant-loop-k l = SolidRows l.lanes l.flags l.k l.once l.solid
