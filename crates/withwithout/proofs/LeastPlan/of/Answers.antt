-- `LeastPlan::of`: charges, a choice of least total, and that total. Assumes nothing.
use mathlib.Core.Path.{◌∙◌}
use Rattle.plan.proofs.Prices.{charge-at}
use Rattle.ledger.proofs.Choices.{flagged-total}
use Rattle.withwithout.proofs.LeastPlan.of.Goals as goal

pub returns : goal.returns
returns c = λ h rd. let x = c.args.hall.now in
    record {
      accepted = rd;
      charges = charge-at h x rd c.charges-charges.result.rows c.charges-charges.ensures;
      least = c.least-state.ensures h rd;
      total = c.total_of-total.ensures ∙ flagged-total h x.lanes.count x.prices c.least-state.result.chosen rd.columns.rows rd.price;
    }
