-- Each turn narrows the room by one row more; after all of them it is the most that the rows allow. Assumes nothing.
use Rattle.std.proofs.Common.{◌≡◌, suc, ◌+◌, ◌-◌, false, ◌&&◌, not, cond, min, get_or, sym, ap, ◌∙◌, arith}
use Rattle.junctions.specs.Sets.{holds}
use Rattle.raise.proofs.Rooms.{rows_room_none, rows_room_more}
use Rattle.raise.proofs.row_room.Goals as goal
use Rattle.raise.proofs.row_room.Goals.{then-network-k, else-network-k}

pub loop-k-init : goal.loop-k-init
loop-k-init c = record { low = omega arith; most = λ h n cols. rows_room_none h _ _ _ _ _ _ _ cols _ _ }

pub loop-k-preserved : goal.loop-k-preserved
loop-k-preserved c = let l = c.loop-k in let lane = c.lane-lane in let net = c.args.network.now in let room = c.if-network-k.room in
    let narrowed :
    room ≡ cond ((get_or net.movable.now l.k false && not (holds c.args.set (suc lane.result.tail))) && holds c.args.set (suc lane.result.head))
    (min l.room (get_or net.potential.now lane.result.tail 0 + get_or net.costs.now.rows l.k 0 - get_or net.potential.now lane.result.head 0)) l.room =
    rw (sym c.has.ensures, sym c.has-in-loop-k.ensures)
    (elim c.if-network-k.branch [
      | then-network-k w ↦ rw w.if-network-k.true (w.room-is ∙ w.min-room.ensures ∙ ap (min l.room) w.gap.ensures)
      | else-network-k w ↦ rw w.if-network-k.false w.room-is
    ]) in
    record {
      low = elim c.if-network-k.branch [
        | then-network-k w ↦ omega (arith, w.room-is, w.min-room.ensures, l.invariant.low)
        | else-network-k w ↦ omega (arith, w.room-is, l.invariant.low)
      ];
      most = λ h n cols.
          rows_room_more h _ _ _ _ _ _ _ cols _ _ l.k lane.result.tail lane.result.head l.room room c.loop-k-test.true lane.ensures.tail lane.ensures.head narrowed
          (l.invariant.most h n cols);
    }

pub returns-clause-most : goal.returns-clause-most
returns-clause-most c = λ h n cols. let e : c.loop-k.k ≡ c.args.network.now.lanes.now.count = omega arith in rw e at (c.loop-k.invariant.most h n cols)
