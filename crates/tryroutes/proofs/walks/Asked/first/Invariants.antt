-- `tryroutes::walks::Asked::first`: there are at most 32 times as many sequences for each step. Assumes nothing.
use Rattle.std.proofs.Common.{◌*◌, ◌^◌, ◌≤◌}
use Rattle.tryroutes.proofs.walks.Asked.first.Given as goal

abbrev pub invariant-loop-length : goal.invariant-loop-length
invariant-loop-length l = l.sequences ≤ 2 ^ (5 * l.length-counter)
