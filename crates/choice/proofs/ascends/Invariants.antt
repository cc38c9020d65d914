-- `choice::ascends` tells whether the list is strictly ascending from 1 up to the limit. The invariant: the least number allowed is at most one over the limit, and what is left of the list decides what the whole list decides. Assumes nothing.
use mathlib.Core.Path.{◌≡◌}
use Prim.Native.Nat.{◌≤◌, ◌+◌}
use lib.ListN.{drop}
use Rattle.hall.specs.Hall.{ascends_from}
use Rattle.choice.proofs.ascends.Given as goal

abbrev pub invariant-loop-number : goal.invariant-loop-number
invariant-loop-number l = record {
  low : l.least ≤ l.limit + 1;
  left : ascends_from l.least l.limit (drop l.number-index l.numbers) ≡ ascends_from 1 l.limit l.numbers;
}
