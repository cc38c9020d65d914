-- `digraph::reach_until` holds what is nearer than the goal, and of the goal what is nearest, with the fewest arcs to each. The invariant: d layers are done and marked, and the layer at hand is the next (Turn).
-- The measure is 64 - d: a layer with a junction in it is below the 64th. Assumes nothing.
use Prim.Native.Nat.{◌-◌}
use lib.ListN.{replicate}
use Rattle.laws.specs.Lists.{at}
use Rattle.digraph.specs.Turns.{Turn}
use Rattle.digraph.proofs.reach_until.Given as goal

abbrev pub invariant-loop-layer : goal.invariant-loop-layer
invariant-loop-layer l = Turn (at l.adjacency) l.start l.set l.goal (replicate 64 64) l.distances l.layer l.done l.d

abbrev pub decreases-loop-layer : goal.decreases-loop-layer
decreases-loop-layer l = 64 - l.d
