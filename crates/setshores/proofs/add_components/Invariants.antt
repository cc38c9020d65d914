-- `add_components` adds the weight to what lies outside each component. The invariant: the junctions that are left make a set of whole components, and the shores of those components are what is left to add. The measure is the set of junctions that are left, as a number. Assumes nothing.
use Rattle.laws.specs.Lists.{at}
use Rattle.setshores.specs.Shores.{Components}
use Rattle.setshores.proofs.add_components.Given as goal

abbrev pub invariant-loop-left : goal.invariant-loop-left
invariant-loop-left l = Components l.n (at l.links) l.class l.weight l.count l.initial.shores l.initial.weights l.left l.filled l.shores l.weights

abbrev pub decreases-loop-left : goal.decreases-loop-left
decreases-loop-left l = l.left
