-- `exhaustive::cuts_of`: there are no more cuts than the set is as a number. Assumes nothing.
use Rattle.std.proofs.Common.{◌≤◌}
use Rattle.arrayvec.specs.ArrayVec.{array_vec_len}
use Rattle.exhaustive.proofs.cuts_of.Given as goal

abbrev pub invariant-loop-set : goal.invariant-loop-set
invariant-loop-set l = array_vec_len l.cuts ≤ l.set
