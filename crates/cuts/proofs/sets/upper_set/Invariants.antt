-- `cuts::sets::upper_set` gathers the junctions whose potential is at least the threshold. The invariant: the set is gathered from the first k junctions. Assumes nothing.
use mathlib.Core.Path.{◌≡◌}
use mathlib.Core.Bool.{Bool}
use mathlib.Core.List.{List}
use Prim.Native.Nat.{ℕ}
use lib.Dec.{leb}
use Rattle.laws.specs.Lists.{at}
use Rattle.junctions.specs.Sets.{gather}
use Rattle.cuts.proofs.sets.upper_set.Given as goal

-- junction j's potential is at least the threshold
abbrev pub high : (potential : List ℕ) → (threshold j : ℕ) → Bool
high potential threshold j = leb threshold (at potential j)

abbrev pub invariant-loop-k : goal.invariant-loop-k
invariant-loop-k l = l.set ≡ gather l.k (high l.potential l.threshold)
