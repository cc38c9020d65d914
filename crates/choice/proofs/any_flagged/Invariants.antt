-- `choice::any_flagged` tells whether some row is flagged. The invariant: `any` tells it of the places gone over. Assumes nothing.
use mathlib.Core.Bool.{false}
use mathlib.Core.Path.{◌≡◌}
use lib.ListN.{get_or}
use Rattle.laws.specs.Finite.{any_below}
use Rattle.choice.proofs.any_flagged.Given as goal

abbrev pub invariant-loop-k : goal.invariant-loop-k
invariant-loop-k l = l.any ≡ any_below l.k (λ j. get_or l.flags j false)
