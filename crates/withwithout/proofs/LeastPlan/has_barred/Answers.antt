-- `LeastPlan::has_barred`: the first row that is chosen and barred is one. Assumes nothing.
use mathlib.Core.Path.{refl, sym}
use native.Mathlib.Numerals.{add-one}
use Rattle.laws.specs.Finite.{any_below}
use Rattle.laws.proofs.Finite.{any_intro}
use Rattle.withwithout.specs.Least.{barred}
use Rattle.withwithout.proofs.LeastPlan.has_barred.Goals as goal

pub loop-i-init : goal.loop-i-init
unfolding any_below
loop-i-init c = refl

pub returns-then-chosen-i : goal.returns-then-chosen-i
returns-then-chosen-i c = let x = c.args.self.now.hall.now in
    sym (any_intro x.lanes.count (barred c.args.chosen.now x.fixed c.args.k) c.loop-i.i c.loop-i-test.true c.if-chosen-i.true)

pub loop-i-preserved : goal.loop-i-preserved
unfolding any_below
loop-i-preserved c = rw (add-one c.loop-i.i, c.loop-i.invariant, c.if-chosen-i.false) refl
