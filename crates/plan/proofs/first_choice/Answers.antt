-- `plan::first_choice` finds a choice of least ranked cost and decides row by row. Assumes nothing.
use Rattle.std.proofs.Common.{rules}
use Rattle.plan.proofs.Stages.{cheapest_low, ranked_repaired}
use Rattle.plan.proofs.first_choice.Goals as goal

pub decide_all-requires : goal.decide_all-requires
decide_all-requires c = let h = c.requires.ready.0 in let rd = c.requires.ready.1 in let found = c.cheapest-state in
    cheapest_low h c.args.lanes.now c.args.costs.now.rows c.args.rows rd c.requires.modest found.result (search rules) (found.ensures h rd)

pub returns : goal.returns
returns c = λ h rd able costs.
    let least = c.cheapest-state.ensures h rd in
    c.decide_all.ensures h rd.columns rd.ranged able costs
    (ranked_repaired h c.args.lanes.now rd.columns rd.ranged c.args.costs.now.rows costs c.cheapest-state.result least.repaired) least.around
