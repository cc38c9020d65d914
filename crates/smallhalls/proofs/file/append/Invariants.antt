-- `smallhalls::file::append`: the file has grown by the bytes gone over. Assumes nothing.
use Rattle.std.proofs.Common.{◌≡◌, ◌+◌}
use Rattle.arrayvec.specs.ArrayVec.{array_vec_len}
use Rattle.smallhalls.proofs.file.append.Given as goal

abbrev pub invariant-loop-byte : goal.invariant-loop-byte
invariant-loop-byte l = array_vec_len l.file ≡ array_vec_len l.initial.file + l.byte-index
