-- `plan::cheapest` repairs at the potential 0 what the start leaves of the rows. Assumes nothing.
use Rattle.plan.proofs.Stages.{flat_start, flat_end}
use Rattle.plan.proofs.cheapest.Goals as goal

pub repair-requires : goal.repair-requires
repair-requires c = let h = c.requires.ready.0 in let rd = c.requires.ready.1 in let pruned = c.start-chosen in let flat = c.of-state in
    let joins = pruned.ensures.joining h rd.columns rd.ranged rd.joining in
    flat_start h c.args.lanes.now c.args.costs.now.rows c.args.rows rd pruned.result pruned.ensures.among joins flat.result flat.ensures.chosen
    flat.ensures.potential (flat.ensures.around h rd.columns rd.ranged joins) c.requires.modest

pub returns : goal.returns
returns c = λ h rd.
    let pruned = c.start-chosen in let flat = c.of-state in let joins = pruned.ensures.joining h rd.columns rd.ranged rd.joining in
    flat_end h c.args.lanes.now c.args.costs.now.rows c.args.rows rd pruned.result pruned.ensures.among joins flat.result flat.ensures.chosen
    flat.ensures.potential (flat.ensures.around h rd.columns rd.ranged joins) c.repair.result (c.repair.ensures h rd.columns rd.ranged)
