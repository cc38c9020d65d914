-- `add_classes` adds the shores of each class of the set. The invariant: the junctions that are left make a set of whole classes, and the shores of those classes are what is left to add. The measure is the set of junctions that are left, as a number. Assumes nothing.
use Rattle.laws.specs.Lists.{at}
use Rattle.setshores.specs.Shores.{Classes}
use Rattle.setshores.proofs.add_classes.Given as goal

abbrev pub invariant-loop-left : goal.invariant-loop-left
invariant-loop-left l = Classes l.n (at l.links) (at l.mates) l.set l.weight l.count l.initial.shores l.initial.weights l.left l.filled l.shores l.weights

abbrev pub decreases-loop-left : goal.decreases-loop-left
decreases-loop-left l = l.left
