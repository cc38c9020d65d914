-- The goals that `digraph::put_into` leaves open, by the place taken and the invariant of its loop. Assumes nothing.
use mathlib.Core.Path.{◌∙◌}
use Prim.Native.Nat.{◌-◌, ◌^◌}
use native.Mathlib.Omega.{arith}
use lib.Bits.{bit_or}
use lib.ListN.{length-set}
use Rattle.junctions.proofs.Bits.{one_shl}
use Rattle.digraph.proofs.Rest.{mark_step, mark_end}
use Rattle.digraph.proofs.put_into.Goals as goal

pub loop-place-preserved : goal.loop-place-preserved
loop-place-preserved c = let l = c.loop-place in let a = c.args in (
  length-set l.sets _ _ ∙ l.invariant.0,
  rw (one_shl (a.x - 1) (omega arith))
      (mark_step a.sets.now l.sets a.into l.place-iterator.left _ _ (λ s. bit_or s (2 ^ (a.x - 1))) l.invariant.0 c.in-Some.ensures.steps l.invariant.1),
)

pub returns : goal.returns
returns c = let l = c.loop-place in let a = c.args in
    mark_end a.sets.now l.sets a.into _ (λ s. bit_or s (2 ^ (a.x - 1))) l.invariant.0 c.in-None.ensures.steps.0 l.invariant.1
