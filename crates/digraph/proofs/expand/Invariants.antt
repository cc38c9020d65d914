-- `digraph::expand` writes d at the layer's junctions and finds what arcs from these lead to. The invariant: there are 64 places, once those left are marked too all of the layer is (Marking), and what is found, with what arcs from those left lead to, is what arcs from the layer lead to (Spreading). Assumes nothing.
use Rattle.std.proofs.Common.{◌≡◌, length}
use Rattle.laws.specs.Lists.{at}
use Rattle.digraph.specs.Turns.{Spreading, Marking}
use Rattle.digraph.proofs.expand.Given as goal

abbrev pub invariant-loop-place : goal.invariant-loop-place
invariant-loop-place l = let left = l.place-iterator.left in
    (length l.distances ≡ 64) × Marking l.initial.distances l.distances l.layer left (λ _. l.d) × Spreading (at l.adjacency) l.layer l.found left
