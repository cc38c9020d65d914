-- The goals that `digraph::turned_round` leaves open, by the law of one more junction turned round and the invariant of its loop. Assumes nothing.
use mathlib.Core.Path.{refl}
use native.Mathlib.Omega.{arith}
use Rattle.laws.specs.Lists.{at}
use Rattle.digraph.proofs.Rounding.{round_start, round_step, round_end}
use Rattle.digraph.proofs.turned_round.Goals as goal

pub loop-x-init : goal.loop-x-init
loop-x-init c = (refl, round_start (at c.args.adjacency.now))

pub loop-x-preserved : goal.loop-x-preserved
loop-x-preserved c = let l = c.loop-x in let a = c.args in let put = c.put_into.ensures in (
  put.size,
  round_step (at a.adjacency.now) l.back _ l.x (omega arith) (rw c.arcs-into.ensures at put) l.invariant.1,
)

pub returns : goal.returns
returns c = let l = c.loop-x in let a = c.args in
    round_end (at a.adjacency.now) l.back l.x (omega arith) l.invariant.1
