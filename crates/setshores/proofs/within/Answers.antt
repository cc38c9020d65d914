-- Each turn puts in the arcs of one junction more, and after 64 of them every junction has its arcs inside the set. Assumes nothing.
use mathlib.Core.Path.{refl}
use Prim.Native.Nat.{◌-◌}
use native.Mathlib.Omega.{arith}
use Rattle.certificates.specs.Pieces.{inside}
use Rattle.setshores.proofs.Columns.{filled_none, filled_more}
use Rattle.setshores.proofs.within.Goals as goal

pub loop-k-init : goal.loop-k-init
loop-k-init c = filled_none _ _ _ refl

pub loop-k-preserved : goal.loop-k-preserved
loop-k-preserved c = filled_more 64 _ c.loop-k.k c.loop-k.arcs _ (omega arith) refl c.loop-k.invariant

pub returns : goal.returns
unfolding inside
returns c = (c.loop-k.invariant.long, λ j p q. c.loop-k.invariant.at (j - 1) (omega arith))
