-- The rows' arcs are a start; each turn adds the swaps of one junction more. Assumes nothing.
use native.Mathlib.Omega.{arith}
use Rattle.zerograph.proofs.Swaps.{swapped_none, swapped_more, swapped_all, near_lt}
use Rattle.zerograph.proofs.zero_graph.Goals as goal

pub loop-x-init : goal.loop-x-init
loop-x-init c = λ h cols near. swapped_none h _ _ _ _ _ c.row_arcs-arcs.result cols.rows (c.row_arcs-arcs.ensures h c.args.network.now.lanes.now.n cols)

pub loop-x-preserved : goal.loop-x-preserved
loop-x-preserved c = let l = c.loop-x in let less = c.loop-x-test.true in let small = c.args.network.now.lanes.now.ends.size in
    λ h cols near.
    swapped_more h _ _ _ _ l.x l.arcs c.args.around.now c.same_level.result (omega (arith, cols.junctions)) (omega arith) near
    (c.same_level.ensures _ c.of-table.ensures (near_lt h _ _ _ l.x near cols.junctions less)) (l.invariant h cols near)

pub returns : goal.returns
returns c = let l = c.loop-x in
    λ h cols near.
    swapped_all h _ _ _ _ c.args.network.now.lanes.now cols l.x l.arcs c.loop-x.auto.x-end c.loop-x-test.false (l.invariant h cols near)
