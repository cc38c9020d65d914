-- `choice::none_flagged` tells whether no listed row is flagged. The invariant: what is left of the list decides what the whole list decides. Assumes nothing.
use mathlib.Core.Bool.{Bool, not}
use mathlib.Core.List.{List}
use mathlib.Core.Path.{◌≡◌}
use Prim.Native.Nat.{ℕ}
use lib.ListN.{drop}
use Rattle.laws.specs.Lists.{all_in}
use Rattle.columns.specs.Columns.{flagged}
use Rattle.choice.proofs.none_flagged.Given as goal

-- the row is not flagged
abbrev pub free : List Bool → ℕ → Bool
free flags i = not (flagged flags i)

abbrev pub invariant-loop-number : goal.invariant-loop-number
invariant-loop-number l = all_in (free l.flags) (drop l.number-index l.numbers) ≡ all_in (free l.flags) l.numbers
