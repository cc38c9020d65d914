-- `LeastPlan::without`: whether what is left has the row or a fixed one. Assumes nothing.
use mathlib.Core.Path.{sym, ◌∙◌}
use Rattle.ledger.proofs.Choices.{flagged-total}
use Rattle.withwithout.proofs.Least.{total_none, total_out}
use Rattle.withwithout.proofs.LeastPlan.without.Goals as goal

pub returns-then-has_barred : goal.returns-then-has_barred
returns-then-has_barred c = λ h of. let p = c.args.self.now in let found = c.repriced-chosen in let w = found.ensures h of in
    total_none h p of c.args.k c.requires.0 w.0 found.result w.1 (sym c.has_barred.ensures ∙ c.if-has_barred.true)

pub returns : goal.returns
returns c = λ h of. let p = c.args.self.now in let x = p.hall.now in let found = c.repriced-chosen in let w = found.ensures h of in
    let sum = c.total_of.ensures ∙ flagged-total h x.lanes.count x.prices found.result of.accepted.columns.rows of.accepted.price in
    rw sum (total_out h p of c.args.k c.requires.0 w.0 found.result w.1 (sym c.has_barred.ensures ∙ c.if-has_barred.false))
