-- `cuts::thresholds::add_thresholds` adds the shores of every upper set of the potential. The invariant: the places filled so far are those of all thresholds up to `low`. The measure is how far `low` is below 2^32: the next value is higher, and no value is over the top. Assumes nothing.
use Prim.Native.Nat.{◌-◌, ◌^◌}
use Rattle.laws.specs.Lists.{at}
use Rattle.shorelist.specs.Listed.{Added}
use Rattle.cuts.specs.Thresholds.{levels_weigh}
use Rattle.cuts.proofs.thresholds.add_thresholds.Given as goal

abbrev pub invariant-loop-next : goal.invariant-loop-next
invariant-loop-next l = Added 0 l.initial.shores l.initial.weights (levels_weigh l.n (at l.links) (at l.mates) (at l.potential) l.low) l.filled l.shores l.weights

abbrev pub decreases-loop-next : goal.decreases-loop-next
decreases-loop-next l = 2 ^ 32 - l.low
