-- An arc that runs from a row's tail to its head stays. Assumes nothing.
use Rattle.std.proofs.Common.{◌≡◌, sym, ◌∙◌, true, suc, arith}
use Rattle.laws.specs.Lists.{at}
use Rattle.laws.proofs.Lists.{at-suc}
use Rattle.junctions.specs.Sets.{holds}
use Rattle.hall.specs.Hall.{row}
use Rattle.columns.specs.Columns.{flagged}
use Rattle.columns.proofs.Places.{lane_tail, lane_head}
use Rattle.pruning.specs.Backed.{Backed}
use Rattle.pruning.proofs.Known.stays.Goals as goal

pub returns-then-has : goal.returns-then-has
unfolding Backed
returns-then-has c = λ h lanes e.
    let known = c.args.self.now in let lane = c.lane-tail.result in
    let from : suc lane.tail ≡ (row h (suc c.args.k)).from = omega (arith, c.lane-tail.ensures.tail, lane_tail h known.lanes.now lanes c.args.k c.requires) in
    let to : suc lane.head ≡ (row h (suc c.args.k)).to = omega (arith, c.lane-tail.ensures.head, lane_head h known.lanes.now lanes c.args.k c.requires) in
    let there : holds (at known.forward (suc lane.head)) (suc lane.tail) ≡ true = rw (at-suc known.forward lane.head) (sym c.has.ensures ∙ e) in
    rw (sym from, sym to) (known.forward_are h (flagged c.args.rows.now) lanes (suc lane.head) (suc lane.tail) (omega arith) (omega (arith, lanes.junctions)) (omega arith) there)
