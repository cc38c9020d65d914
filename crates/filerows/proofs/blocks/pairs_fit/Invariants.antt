-- `filerows::blocks::pairs_fit` tells whether every pair keeps the rules. The invariant: the pairs from k on keep the rules exactly where all do. Assumes nothing.
use Rattle.std.proofs.Common.{◌≡◌, ◌+◌, ◌-◌, ◌*◌}
use Rattle.hall.specs.File.{pairs_good}
use Rattle.filerows.proofs.blocks.pairs_fit.Given as goal

abbrev pub invariant-loop-k : goal.invariant-loop-k
invariant-loop-k l = pairs_good (l.blocks - l.k) l.k l.least l.file ≡ pairs_good l.blocks 0 (4 + 8 * l.blocks) l.file
