-- `tryroutes::rows_of`: no more rows are listed than were gone over. Assumes nothing.
use Rattle.std.proofs.Common.{◌≤◌}
use Rattle.arrayvec.specs.ArrayVec.{array_vec_len}
use Rattle.tryroutes.proofs.rows_of.Given as goal

abbrev pub invariant-loop-i : goal.invariant-loop-i
invariant-loop-i l = array_vec_len l.rows ≤ l.i
