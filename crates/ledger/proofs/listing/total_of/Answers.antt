-- `ledger::listing::total_of`: the goals that its invariant leaves. Assumes nothing.
use mathlib.Core.Path.{refl, ◌∙◌}
use native.Mathlib.Omega.{arith}
use Rattle.laws.specs.Finite.{sum_below}
use Rattle.ledger.proofs.Choices.{total_next, total_same}
use Rattle.ledger.proofs.listing.total_of.Goals as goal
use Rattle.ledger.proofs.listing.total_of.Goals.{then-flags-k, else-flags-k}

pub loop-k-init : goal.loop-k-init
unfolding sum_below
loop-k-init c = (refl, omega arith)

pub loop-k-preserved : goal.loop-k-preserved
loop-k-preserved c = let prices = c.args.prices.now in let flags = c.args.flags.now in let l = c.loop-k in
    elim c.if-flags-k.branch [
      | then-flags-k w ↦ (w.total-is ∙ total_next prices flags l.k l.total l.invariant.0 w.if-flags-k.true, omega (arith, w.total-is, c.requires.1 l.k c.loop-k-test.true))
      | else-flags-k w ↦ (w.total-is ∙ total_same prices flags l.k l.total l.invariant.0 w.if-flags-k.false, omega (arith, w.total-is))
    ]
