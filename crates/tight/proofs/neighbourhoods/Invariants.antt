-- `tight::neighbourhoods` gives the tight neighbourhood of each junction, the last first. The invariant: of the n places those from k on are found, and the others are empty (RobustFrom). Assumes nothing.
use Rattle.tight.proofs.Each.{RobustFrom}
use Rattle.tight.proofs.neighbourhoods.Given as goal

abbrev pub invariant-loop-k : goal.invariant-loop-k
invariant-loop-k l = RobustFrom l.arcs l.solid l.sets l.lanes.n l.k
