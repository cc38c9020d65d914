-- The goals that `shortest::first_rows` leaves open, by the lemmas of Noting. Assumes nothing.
use mathlib.Core.Path.{◌≡◌, refl}
use native.Mathlib.Omega.{arith}
use Rattle.laws.specs.Lists.{at}
use Rattle.shortest.specs.Steps.{Noted}
use Rattle.shortest.proofs.Noting.{noted_as, rows_none, rows_ahead, rows_both}
use Rattle.shortest.proofs.first_rows.Goals as goal
use Rattle.shortest.proofs.first_rows.Goals.{After-note}

pub loop-k-init : goal.loop-k-init
loop-k-init c = rows_none c.args.lanes.now c.args.chosen.now (at c.args.distances.now) _ refl

-- the row forward, by its ends in the lanes
ahead : (c : After-note) → let l = c.args.lanes.now in let k = c.loop-k.k in Noted (at c.args.distances.now) k (at l.tails k) (at l.heads k) c.loop-k.first c.note.new.first
ahead c = let e = c.lane-lane.ensures in
    noted_as (at c.args.distances.now) _ _ _ _ _ _ c.loop-k.first c.note.new.first (omega arith) (omega (arith, e.tail)) (omega (arith, e.head)) c.note.ensures

pub loop-k-preserved-then-chosen-k : goal.loop-k-preserved-then-chosen-k
loop-k-preserved-then-chosen-k c = let k = c.loop-k in let a = c.args in let e = c.lane-lane.ensures in let both = c.note-then-chosen-k in
    rows_both k.k (omega arith) a.lanes.now a.chosen.now (at a.distances.now) k.first k.invariant c.note.new.first (ahead (goal.at.loop-k-preserved-then-chosen-k c).After-note) c.if-chosen-k.true
    both.new.first (noted_as (at a.distances.now) _ _ _ _ _ _ c.note.new.first both.new.first (omega arith) (omega (arith, e.head)) (omega (arith, e.tail)) both.ensures)

pub loop-k-preserved : goal.loop-k-preserved
loop-k-preserved c = let k = c.loop-k in let a = c.args in
    rows_ahead k.k (omega arith) a.lanes.now a.chosen.now (at a.distances.now) k.first k.invariant c.note.new.first (ahead (goal.at.loop-k-preserved c).After-note) c.if-chosen-k.false

pub returns : goal.returns
returns c = let all : c.loop-k.k ≡ 0 = omega arith in rw all at c.loop-k.invariant
