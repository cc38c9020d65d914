-- Next_unpaid finds a row with a gap where there is one: what lies before the last row is looked at too. Assumes nothing.
use Rattle.laws.specs.Lists.{at}
use Rattle.columns.specs.Columns.{flagged}
use Rattle.repair.proofs.Repairing.{first_some}
use Rattle.repair.proofs.next_unpaid.Goals as goal

pub returns-in-None : goal.returns-in-None
returns-in-None c = let net = c.args.network.now in λ h n cols.
    first_some h (at net.costs.now.rows) (at net.potential.now) (flagged c.args.chosen.now) net.lanes.now.count c.unpaid-in-None.result (c.unpaid-in-None.ensures h n cols)
