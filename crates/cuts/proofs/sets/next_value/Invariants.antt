-- `cuts::sets::next_value` finds the next value over `low`. The invariant: the best so far is the next value of the first k junctions. Assumes nothing.
use Rattle.laws.specs.Lists.{at}
use Rattle.cuts.specs.Thresholds.{NextFound}
use Rattle.cuts.proofs.sets.next_value.Given as goal

abbrev pub invariant-loop-k : goal.invariant-loop-k
invariant-loop-k l = NextFound l.k (at l.potential) l.low l.best
