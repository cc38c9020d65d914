-- The goals that `tight::solid_arcs` leaves open, by the lemmas of SolidRows. Assumes nothing.
use mathlib.Core.Path.{◌≡◌}
use native.Mathlib.Omega.{arith}
use Rattle.tight.proofs.SolidRows.{solid_none, solid-ahead, solid-both, rows_solid}
use Rattle.tight.proofs.solid_arcs.Goals as goal
use Rattle.tight.proofs.solid_arcs.Goals.{then-flags-k, else-flags-k}

pub loop-k-init : goal.loop-k-init
loop-k-init c = solid_none c.args.lanes.now c.args.flags.now

pub loop-k-preserved : goal.loop-k-preserved
loop-k-preserved c = let lane = c.lane-lane in let e = lane.ensures in let k = c.loop-k in
    let l = c.args.lanes.now in let flags = c.args.flags.now in let tail = lane.result.tail in let head = lane.result.head in
    elim c.if-flags-k.branch [
      | then-flags-k w ↦ rw (w.once-is, w.solid-is) (solid-both l flags k.k k.once k.solid k.invariant tail head e.tail e.head e.tail_inside e.head_inside w.if-flags-k.true)
      | else-flags-k w ↦ rw (w.once-is, w.solid-is) (solid-ahead l flags k.k k.once k.solid k.invariant tail head e.tail e.head e.tail_inside e.head_inside w.if-flags-k.false)
    ]

pub returns : goal.returns
returns c = let l = c.args.lanes.now in let all : c.loop-k.k ≡ l.count = omega arith in
    rows_solid l c.args.flags.now c.loop-k.once c.loop-k.solid (rw all at c.loop-k.invariant)
