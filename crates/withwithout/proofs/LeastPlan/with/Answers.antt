-- `LeastPlan::with`: the row put in where it costs nothing. Assumes nothing.
use mathlib.Core.Path.{◌∙◌}
use mathlib.Core.Bool.{true}
use lib.ListN.{set}
use Rattle.std.proofs.Common.{rules}
use Rattle.ledger.proofs.Choices.{flagged-total}
use Rattle.withwithout.proofs.Least.{total_in}
use Rattle.withwithout.proofs.LeastPlan.with.Goals as goal

pub returns : goal.returns
returns c = λ h of free. let p = c.args.self.now in let x = p.hall.now in let found = c.repriced-chosen in let w = found.ensures h of in
    let sum = c.total_of.ensures ∙ flagged-total h x.lanes.count x.prices (set found.result c.args.k true) of.accepted.columns.rows of.accepted.price in
    rw sum (total_in h p of c.args.k c.requires.0 w.0 found.result w.1 (search rules) free)
