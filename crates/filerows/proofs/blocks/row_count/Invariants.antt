-- `filerows::blocks::row_count` counts the rows of all blocks. The invariant: the rows counted, at most 2 ^ 32 a block, with those of the blocks from k on are all rows. Assumes nothing.
use Rattle.std.proofs.Common.{◌≡◌, ◌+◌, ◌-◌, ◌*◌, ◌^◌, ◌≤◌, length}
use Rattle.hall.specs.File.{all_rows}
use Rattle.filerows.proofs.blocks.row_count.Given as goal

abbrev pub invariant-loop-k : goal.invariant-loop-k
invariant-loop-k l = (l.rows ≤ l.k * 2 ^ 32) × (l.rows + length (all_rows (l.blocks - l.k) l.k l.file) ≡ length (all_rows l.blocks 0 l.file))
