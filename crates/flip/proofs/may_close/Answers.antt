-- What the code asks of a row is whether it may be closed on the way. Assumes nothing.
use mathlib.Core.List.{[]}
use native.Mathlib.Numerals.{add-one}
use native.Mathlib.Omega.{arith}
use Prim.Native.Nat.{suc}
use borrow.Author.Tests.{eq-eqb, ne_eqb}
use Rattle.zerograph.proofs.Rows.{closes_here}
use Rattle.flip.proofs.may_close.Goals as goal

pub returns-then-x-lane : goal.returns-then-x-lane
returns-then-x-lane c = let lane = c.lane-lane in λ h n cols.
    rw (add-one lane.result.head)
    (rw (eq-eqb c.args.x (suc lane.result.tail) (omega arith)) at
    (closes_here h _ _ _ _ [] c.args.movable.now c.args.chosen.now [] cols c.args.k lane.result.tail lane.result.head c.requires lane.ensures.tail lane.ensures.head c.args.x c.args.y))

pub returns-else-x-lane : goal.returns-else-x-lane
returns-else-x-lane c = let lane = c.lane-lane in
    let other = ne_eqb c.args.x (suc lane.result.tail) (λ e. c.if-x-lane.false (omega arith)) in
    λ h n cols.
    rw (add-one lane.result.tail, other)
    (rw other at
    (closes_here h _ _ _ _ [] c.args.movable.now c.args.chosen.now [] cols c.args.k lane.result.tail lane.result.head c.requires lane.ensures.tail lane.ensures.head c.args.x c.args.y))
