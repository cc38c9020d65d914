-- `within` keeps of each junction's arcs those that end in the set. The invariant: the first k places have their arcs inside the set. Assumes nothing.
use lib.Bits.{bit_and}
use Rattle.shorelist.specs.Listed.{place_of}
use Rattle.setshores.specs.Columns.{FilledTo}
use Rattle.setshores.proofs.within.Given as goal

abbrev pub invariant-loop-k : goal.invariant-loop-k
invariant-loop-k l = FilledTo 64 (λ i. bit_and l.set (place_of l.adjacency i)) l.k l.arcs
