-- `growth::Grown::grow` gives the set with more junctions, and with all that solid arcs, second arcs and known sets then add: it expands one junction a turn.
-- The invariant: the junctions to do are in the set, which holds what it started with, and if that is a set that grows then so is this (Growing). The measure is the number of junctions not yet expanded. Assumes nothing.
use Prim.Native.Nat.{ℕ}
use lib.Bits.{bit_or}
use Rattle.laws.specs.Lists.{at}
use Rattle.junctions.specs.Sets.{Within}
use Rattle.growth.specs.Growth.{Known, unexpanded, Growing}
use Rattle.growth.proofs.Grown.grow.Given as goal

abbrev pub invariant-loop-x : goal.invariant-loop-x
invariant-loop-x l = Within l.todo.left l.set × Within (bit_or l.fn.self.set l.more) l.set ×
    ((v : ℕ) → Known (at l.arcs) (at l.solid) (at l.known) → Growing (at l.arcs) (at l.solid) v (bit_or l.fn.self.set l.more) l.more l.fn.self.once →
    Growing (at l.arcs) (at l.solid) v l.set l.todo.left l.once)

abbrev pub decreases-loop-x : goal.decreases-loop-x
decreases-loop-x l = unexpanded 64 l.set l.todo.left
