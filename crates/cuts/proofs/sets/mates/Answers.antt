-- Each turn puts in the mates of one junction more, and after n of them every junction has its mates. Assumes nothing.
use mathlib.Core.Path.{◌≡◌, refl, ap, ◌∙◌}
use Prim.Native.Nat.{◌-◌, ◌+◌}
use native.Mathlib.Omega.{arith}
use Rattle.laws.specs.Lists.{at}
use Rattle.setshores.proofs.Columns.{filled_none, filled_more}
use Rattle.cuts.specs.Thresholds.{mates_by}
use Rattle.cuts.proofs.sets.mates.Goals as goal

pub loop-k-init : goal.loop-k-init
loop-k-init c = filled_none _ _ _ refl

pub loop-k-preserved : goal.loop-k-preserved
loop-k-preserved c = filled_more 64 _ c.loop-k.k c.loop-k.sets _ (omega arith) c.mates_of.ensures c.loop-k.invariant

pub returns : goal.returns
returns c = let l = c.loop-k in let s = c.args in (
  l.invariant.long,
  λ a p q. let e : a - 1 + 1 ≡ a = omega arith in l.invariant.at (a - 1) (omega arith) ∙ ap (mates_by s.n (at s.around.now)) e,
)
