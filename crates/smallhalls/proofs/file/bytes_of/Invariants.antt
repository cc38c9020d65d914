-- `smallhalls::file::bytes_of`: the file has its 12 bytes of head and 8 for each row gone over. Assumes nothing.
use Rattle.std.proofs.Common.{◌≡◌, ◌+◌, ◌*◌}
use Rattle.arrayvec.specs.ArrayVec.{array_vec_len}
use Rattle.smallhalls.proofs.file.bytes_of.Given as goal

abbrev pub invariant-loop-row : goal.invariant-loop-row
invariant-loop-row l = array_vec_len l.file ≡ 12 + 8 * l.row-index
