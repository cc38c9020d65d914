-- `exhaustive::total_of`: the sum is at most 255 for each row gone over. Assumes nothing.
use Rattle.std.proofs.Common.{◌*◌, ◌≤◌}
use Rattle.exhaustive.proofs.total_of.Given as goal

abbrev pub invariant-loop-i : goal.invariant-loop-i
invariant-loop-i l = l.total ≤ l.i * 255
