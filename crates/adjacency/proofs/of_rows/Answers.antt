-- The goals that `adjacency::of_rows` leaves open, by the lemmas of Filling. Assumes nothing.
use mathlib.Core.Path.{◌≡◌}
use native.Mathlib.Omega.{arith}
use Rattle.adjacency.proofs.Filling.{fill_none, fill_ahead, fill_both, fill_arcs}
use Rattle.adjacency.proofs.of_rows.Goals as goal
use Rattle.adjacency.proofs.of_rows.Goals.{then-flags-k, else-flags-k}

pub loop-k-init : goal.loop-k-init
loop-k-init c = fill_none c.args.lanes.now c.args.flags.now

pub loop-k-preserved : goal.loop-k-preserved
loop-k-preserved c = let lane = c.lane-lane in let e = lane.ensures in
    let l = c.args.lanes.now in let flags = c.args.flags.now in let tail = lane.result.tail in let head = lane.result.head in
    elim c.if-flags-k.branch [
      | then-flags-k w ↦ rw w.sets-is (fill_both l flags c.loop-k.k c.loop-k.sets c.loop-k.invariant tail head e.tail e.head e.tail_inside e.head_inside w.if-flags-k.true)
      | else-flags-k w ↦ rw w.sets-is (fill_ahead l flags c.loop-k.k c.loop-k.sets c.loop-k.invariant tail head e.tail e.head e.tail_inside e.head_inside w.if-flags-k.false)
    ]

pub returns : goal.returns
returns c = let l = c.args.lanes.now in let all : c.loop-k.k ≡ l.count = omega arith in
    fill_arcs l c.args.flags.now c.loop-k.sets (rw all at c.loop-k.invariant)
