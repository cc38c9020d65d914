-- `digraph::mark` writes d at the set's junctions and nowhere else. The invariant: there are 64 places, and once those left are marked too all of the set is (Marking). Assumes nothing.
use Rattle.std.proofs.Common.{◌≡◌, length}
use Rattle.digraph.specs.Turns.{Marking}
use Rattle.digraph.proofs.mark.Given as goal

abbrev pub invariant-loop-place : goal.invariant-loop-place
invariant-loop-place l = (length l.distances ≡ 64) × Marking l.initial.distances l.distances l.set l.place-iterator.left (λ _. l.d)
