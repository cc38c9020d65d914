-- `judge::listed::Cuts::weight`: the sum is at most the largest weight for each cut gone over. Assumes nothing.
use Rattle.std.proofs.Common.{◌*◌, ◌≤◌, length}
use Rattle.judge.proofs.listed.Cuts.weight.Given as goal

abbrev pub invariant-loop-shore : goal.invariant-loop-shore
invariant-loop-shore g l = l.sum ≤ length l.yielded * 4294967295
