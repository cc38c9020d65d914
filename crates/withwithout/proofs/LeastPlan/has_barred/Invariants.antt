-- `LeastPlan::has_barred` asks row after row. The invariant: none so far is chosen and barred. Assumes nothing.
use Rattle.std.proofs.Common.{◌≡◌, false}
use Rattle.laws.specs.Finite.{any_below}
use Rattle.withwithout.specs.Least.{barred}
use Rattle.withwithout.proofs.LeastPlan.has_barred.Given as goal

abbrev pub invariant-loop-i : goal.invariant-loop-i
invariant-loop-i l = any_below l.i (barred l.chosen l.self.hall.now.fixed l.k) ≡ false
