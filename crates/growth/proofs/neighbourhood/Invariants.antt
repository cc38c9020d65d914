-- `growth::neighbourhood` gives the junctions that v reaches even without any one arc that is not solid: the set grows by what the searches from it meet in, until they keep apart.
-- The invariant: the set is a word, what was met lies outside it, the set with what was met is one that grows from v (Growing), and where nothing was met the searches keep apart (KeptApart).
-- The measure is 2 ^ 64 less the set as a number: a turn adds what was met. Assumes nothing.
use mathlib.Core.Path.{◌≡◌}
use mathlib.Core.Bool.{true, false}
use Prim.Native.Nat.{ℕ, ◌-◌, ◌^◌, ◌≤◌, ◌<◌}
use lib.Bits.{bit_or}
use Rattle.laws.specs.Lists.{at}
use Rattle.junctions.specs.Sets.{holds}
use Rattle.growth.specs.Growth.{Known, Growing, KeptApart}
use Rattle.growth.proofs.Meetings.{less}
use Rattle.growth.proofs.neighbourhood.Given as goal

abbrev pub invariant-loop-met : goal.invariant-loop-met
invariant-loop-met l = (l.grown.set < 2 ^ 64) × ((y : ℕ) → 1 ≤ y → holds l.met y ≡ true → holds l.grown.set y ≡ false)
    × (Known (at l.arcs) (at l.solid) (at l.known) → Growing (at l.arcs) (at l.solid) l.v (bit_or l.grown.set l.met) l.met l.grown.once)
    × (l.met ≡ 0 → (all : ℕ) × KeptApart (at l.arcs) l.grown.set (less l.grown.once l.grown.set) all)

abbrev pub decreases-loop-met : goal.decreases-loop-met
decreases-loop-met l = 2 ^ 64 - l.grown.set
