-- `fill` puts each junction's level in its place. The invariant: the first k places have the levels of their junctions, the others are as before. Assumes nothing.
use Rattle.std.proofs.Common.{length}
use Rattle.shorelist.specs.Listed.{place_of}
use Rattle.levels.specs.Levels.{cuts_in, Levelled}
use Rattle.levels.proofs.fill.Given as goal

abbrev pub invariant-loop-k : goal.invariant-loop-k
invariant-loop-k l = Levelled (cuts_in (length l.shores) 0 (place_of l.shores) (place_of l.weights)) l.k l.initial.levels l.levels
