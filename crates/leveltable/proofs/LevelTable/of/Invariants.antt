-- Each turn of `LevelTable::of` puts in one junction. The invariant: the first k junctions are in the table. Assumes nothing.
use Rattle.leveltable.specs.Levels.{Levels}
use Rattle.leveltable.proofs.LevelTable.of.Given as goal

abbrev pub invariant-loop-k : goal.invariant-loop-k
invariant-loop-k l = Levels l.k l.potential l.table.values l.table.sets
