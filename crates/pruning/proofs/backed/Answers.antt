-- The goals that `pruning::backed` leaves open, by the lemmas and the invariant of its loop. Assumes nothing.
use mathlib.Core.Logic.{⊎_elim}
use Rattle.laws.proofs.Booleans.{or_cases}
use Rattle.pruning.proofs.Dropping.{backed_by}
use Rattle.pruning.proofs.backed.Goals as goal

pub loop-i-preserved : goal.loop-i-preserved
loop-i-preserved c = let l = c.loop-i in λ h lanes e.
    ⊎_elim (l.invariant h lanes) (backed_by c.args.rows.now c.args.k h c.args.lanes.now lanes c.requires l.i c.loop-i-test.true) (or_cases l.found _ e)
