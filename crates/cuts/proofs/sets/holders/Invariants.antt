-- `cuts::sets::holders` gathers the junctions whose set holds junction a. The invariant: the set is gathered from the first k junctions. Assumes nothing.
use mathlib.Core.Path.{◌≡◌}
use mathlib.Core.Bool.{Bool}
use mathlib.Core.List.{List}
use Prim.Native.Nat.{ℕ}
use Rattle.laws.specs.Lists.{at}
use Rattle.junctions.specs.Sets.{holds, gather}
use Rattle.cuts.proofs.sets.holders.Given as goal

-- junction b's set holds junction a
abbrev pub holder : (around : List ℕ) → (a b : ℕ) → Bool
holder around a b = holds (at around b) a

abbrev pub invariant-loop-k : goal.invariant-loop-k
invariant-loop-k l = l.set ≡ gather l.k (holder l.around l.a)
