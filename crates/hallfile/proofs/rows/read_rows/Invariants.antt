-- `hallfile::rows::read_rows` gives the record of all rows, or the refusal of the first that is turned back. The invariant: the rows before the iterator's place are stored and fine, and those from there on are the others (Progress). Assumes nothing.
use Rattle.hall.specs.File.{all_rows}
use Rattle.filerows.specs.Places.{rest_at}
use Rattle.hallfile.proofs.Progress.{Progress}
use Rattle.hallfile.proofs.rows.read_rows.Given as goal

abbrev pub invariant-loop-k : goal.invariant-loop-k
invariant-loop-k l = Progress (all_rows l.blocks 0 l.file) (rest_at l.k-iterator.iter.file.now l.k-iterator.iter.block_count l.k-iterator.iter.place) l.n l.tails l.heads l.prices l.fixed l.k-iterator.count
