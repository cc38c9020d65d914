-- `admitting::start` meets its contract: a site of the stock asked for, or of stock 0. Assumes nothing.
use Rattle.refusals.specs.Kinds.{refusal_of, answered}
use Rattle.admitting.proofs.Replies.{start_refused, start_fine}
use Rattle.admitting.proofs.start.Goals as goal

pub returns-then-stock-gt-MOST_KITS : goal.returns-then-stock-gt-MOST_KITS
unfolding refusal_of answered
returns-then-stock-gt-MOST_KITS c = start_refused c.args.stock c.of_stock.result c.if-stock-gt-MOST_KITS.true c.of_stock.ensures

pub returns : goal.returns
unfolding answered
returns c = start_fine c.args.stock c.of_stock-2.result c.if-stock-gt-MOST_KITS.false c.of_stock-2.ensures
