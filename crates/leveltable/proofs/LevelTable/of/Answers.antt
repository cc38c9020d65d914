-- Each turn puts one junction more into the table. Assumes nothing.
use Rattle.leveltable.proofs.Levels.{levels_none, levels_more}
use Rattle.leveltable.proofs.LevelTable.of.Goals as goal

pub loop-k-init : goal.loop-k-init
loop-k-init c = levels_none c.args.potential.now

pub loop-k-preserved : goal.loop-k-preserved
loop-k-preserved c = let l = c.loop-k in
    levels_more l.k c.key_of-key.result c.settled-kept.result c.lone.result c.args.potential.now l.table.values l.table.sets l.invariant c.key_of-key.ensures.0 c.settled-kept.ensures c.lone.ensures
