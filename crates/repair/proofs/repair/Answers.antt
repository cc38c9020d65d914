-- A step keeps what the start promised and takes from the slack, and no level gets too high for the next; where no row is left with a gap the choice is repaired. Assumes nothing.
use Rattle.std.proofs.Common.{true, false, ◌-◌, replicate, rules, arith}
use Rattle.std.proofs.Math.ListN.{get_or-replicate}
use Rattle.laws.specs.Lists.{at}
use Rattle.hall.specs.Hall.{Hall}
use Rattle.dicuts.specs.Shores.{Ranged}
use Rattle.columns.specs.Columns.{flagged}
use Rattle.columns.specs.Lanes.{LanesOf}
use Rattle.repair.specs.Repairs.{Free, Stepped}
use Rattle.repair.proofs.Repairing.{Kept, slack_lanes, kept_start, kept_more, kept_end, kept_low}
use Rattle.repair.proofs.repair.Goals as goal
use Rattle.repair.proofs.repair.Goals.{At-loop-state, After-repair_step-next}

pub loop-state-init : goal.loop-state-init
loop-state-init c = (search rules, λ h lanes rg start around. kept_start h (at c.args.costs.now.rows) c.args.state start around)

-- what is kept at a turn, for the hall of the start
kept : (c : At-loop-state) → let from = c.requires in Kept from.hall (at c.args.costs.now.rows) c.args.state c.loop-state.state
kept c = let from = c.requires in c.loop-state.invariant.1 from.hall from.columns from.ranged from.repairable from.around

pub invariant_of-network : goal.invariant_of-network
invariant_of-network c = let from = c.requires in record {
  low = kept_low c.args.lanes.now c.args.costs.now.rows c.args.state from c.loop-state.state
      (c.loop-state.invariant.1 from.hall from.columns from.ranged from.repairable from.around) c.loop-state.invariant.0;
}

-- a step from what is kept, in any hall
stepped : (c : After-repair_step-next) (h : Hall) → LanesOf h c.args.lanes.now → Ranged h → Kept h (at c.args.costs.now.rows) c.args.state c.loop-state.state →
    Stepped h (at c.args.costs.now.rows) (at c.loop-state.state.potential) (flagged c.loop-state.state.chosen) c.repair_step-next.result
stepped c h lanes rg k =
    let free : Free h (flagged (replicate 256 true)) = λ i l u. get_or-replicate 256 (i - 1) true false (omega (arith, lanes.rows)) in
    c.repair_step-next.ensures h lanes rg free k.repairable k.around (c.in-Some.ensures h c.args.lanes.now.n lanes).1

pub loop-state-smaller : goal.loop-state-smaller
loop-state-smaller c = let from = c.requires in let cost = at c.args.costs.now.rows in let s = c.loop-state.state in let r = c.repair_step-next.result in
    omega (
      arith,
      (stepped (goal.at.loop-state-smaller c).After-repair_step-next from.hall from.columns from.ranged (kept (goal.at.loop-state-smaller c).At-loop-state)).less,
      slack_lanes from.hall c.args.lanes.now from.columns cost (at r.potential) (flagged r.chosen),
      slack_lanes from.hall c.args.lanes.now from.columns cost (at s.potential) (flagged s.chosen),
    )

pub loop-state-preserved : goal.loop-state-preserved
loop-state-preserved c = let cost = at c.args.costs.now.rows in (
  search rules,
  λ h lanes rg start around. let k = c.loop-state.invariant.1 h lanes rg start around in
      kept_more h cost c.args.state c.loop-state.state k c.repair_step-next.result (stepped (goal.at.loop-state-preserved c).After-repair_step-next h lanes rg k),
)

pub returns-in-None : goal.returns-in-None
returns-in-None c = λ h lanes rg start around.
    kept_end h (at c.args.costs.now.rows) c.args.state c.loop-state.state (c.loop-state.invariant.1 h lanes rg start around) c.args.lanes.now.count lanes.rows (c.in-None.ensures h c.args.lanes.now.n lanes)
