-- `LeastPlan::repriced` reprices a row. Assumes nothing.
use Rattle.columns.specs.Columns.{flagged}
use Rattle.laws.specs.Lists.{at}
use Rattle.withwithout.proofs.Least.{repriceable, repriced_charges}
use Rattle.withwithout.proofs.LeastPlan.repriced.Goals as goal

pub reprice-requires : goal.reprice-requires
reprice-requires c = let w = c.requires.2 in (c.requires.0, (w.0, repriceable w.0 c.args.self.now w.1 c.args.k c.requires.0 c.args.cost c.requires.1))

pub returns : goal.returns
returns c = λ h of. let r = c.reprice.result in (
  at r.potential,
  repriced_charges h c.args.self.now of c.args.k c.requires.0 c.args.cost (at r.potential) (flagged r.chosen)
      (c.reprice.ensures.repaired h (repriceable h c.args.self.now of c.args.k c.requires.0 c.args.cost c.requires.1)),
)
