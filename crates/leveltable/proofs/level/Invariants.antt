-- Level takes one junction of the set a turn. The invariant: those found and, of those left, the ones at the value make up the whole. Assumes nothing.
use lib.Dec.{eqb}
use Rattle.laws.specs.Lists.{at}
use Rattle.junctions.proofs.Taking.{Found}
use Rattle.leveltable.proofs.level.Given as goal

abbrev pub invariant-loop-place : goal.invariant-loop-place
invariant-loop-place l = Found (λ y. eqb l.value (at l.potential y)) l.set l.found l.place-iterator.left
