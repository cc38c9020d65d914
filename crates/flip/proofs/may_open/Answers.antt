-- What the code asks of a row is whether it may be opened on the way. Assumes nothing.
use mathlib.Core.List.{[]}
use native.Mathlib.Numerals.{add-one}
use native.Mathlib.Omega.{arith}
use Prim.Native.Nat.{suc}
use borrow.Author.Tests.{eq-eqb, ne_eqb}
use Rattle.zerograph.proofs.Rows.{opens_here}
use Rattle.flip.proofs.may_open.Goals as goal

pub returns-then-x-lane : goal.returns-then-x-lane
returns-then-x-lane c = let lane = c.lane-lane in let net = c.args.network.now in
    λ h n cols.
    rw (c.no_gap.ensures, add-one lane.result.tail)
    (rw (eq-eqb c.args.x (suc lane.result.head) (omega arith)) at
    (opens_here h _ _ _ _ net.costs.now.rows net.movable.now [] net.potential.now cols c.args.k lane.result.tail lane.result.head c.requires lane.ensures.tail lane.ensures.head c.args.x c.args.y))

pub returns-else-x-lane : goal.returns-else-x-lane
returns-else-x-lane c = let lane = c.lane-lane in let net = c.args.network.now in
    let other = ne_eqb c.args.x (suc lane.result.head) (λ e. c.if-x-lane.false (omega arith)) in
    λ h n cols.
    rw (add-one lane.result.head, other)
    (rw other at
    (opens_here h _ _ _ _ net.costs.now.rows net.movable.now [] net.potential.now cols c.args.k lane.result.tail lane.result.head c.requires lane.ensures.tail lane.ensures.head c.args.x c.args.y))
