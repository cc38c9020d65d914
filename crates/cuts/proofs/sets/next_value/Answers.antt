-- Before the first turn no value is known, and each turn takes in that of one junction more. Assumes nothing.
use mathlib.Core.Path.{◌≡◌}
use native.Mathlib.Omega.{arith}
use Rattle.laws.specs.Lists.{at}
use Rattle.setshores.proofs.Columns.{place_next}
use Rattle.cuts.specs.Thresholds.{NextFound}
use Rattle.cuts.proofs.Nearer.{next_none}
use Rattle.cuts.proofs.sets.next_value.Goals as goal

pub loop-k-init : goal.loop-k-init
unfolding NextFound
loop-k-init c = next_none (at c.args.potential.now) c.args.low

pub loop-k-preserved : goal.loop-k-preserved
loop-k-preserved c = c.nearer-best.ensures (at c.args.potential.now) c.loop-k.k (place_next c.args.potential.now c.loop-k.k) c.loop-k.invariant

pub returns : goal.returns
returns c = let e : c.loop-k.k ≡ c.args.n = omega arith in rw e at c.loop-k.invariant
