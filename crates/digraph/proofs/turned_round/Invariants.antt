-- `digraph::turned_round` turns each arc round. The invariant: there are 64 sets, and each arc from a junction before x is turned round (Rounding). Assumes nothing.
use Rattle.std.proofs.Common.{◌≡◌, length}
use Rattle.laws.specs.Lists.{at}
use Rattle.digraph.specs.Turns.{Rounding}
use Rattle.digraph.proofs.turned_round.Given as goal

abbrev pub invariant-loop-x : goal.invariant-loop-x
invariant-loop-x l = (length l.back ≡ 64) × Rounding (at l.adjacency) l.back l.x
