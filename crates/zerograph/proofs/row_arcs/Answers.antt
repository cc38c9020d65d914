-- Each turn adds the arcs of one row more. Assumes nothing.
use native.Mathlib.Omega.{arith}
use Rattle.zerograph.proofs.Rows.{row-arcs_none, row-arcs_more, row-arcs_all}
use Rattle.zerograph.proofs.row_arcs.Goals as goal

pub loop-k-init : goal.loop-k-init
loop-k-init c = λ h n cols. row-arcs_none h _ _ _ _

pub loop-k-preserved : goal.loop-k-preserved
loop-k-preserved c = let lane = c.lane-lane in let small = c.args.network.now.lanes.now.ends.size in
    λ h n cols.
    row-arcs_more h _ _ _ _ _ _ _ _ cols c.loop-k.k lane.result.tail lane.result.head c.loop-k-test.true lane.ensures.tail lane.ensures.head c.loop-k.arcs
    c.lone.result c.lone-in-loop-k.result (omega (arith, lane.ensures.tail_inside)) (omega (arith, lane.ensures.head_inside))
    (rw c.no_gap.ensures at c.lone.ensures) c.lone-in-loop-k.ensures (c.loop-k.invariant h n cols)

pub returns : goal.returns
returns c = λ h n cols. row-arcs_all h _ _ _ _ c.loop-k.k _ c.loop-k.arcs c.loop-k.auto.k-end c.loop-k-test.false (c.loop-k.invariant h n cols)
