-- What a turn asks is whether its row is chosen and has a gap: the first that is and has is the answer. Assumes nothing.
use Rattle.std.proofs.Common.{◌≡◌, ◌∙◌, false, ◌&&◌, suc, ℕ, ◌≤◌, get_or, nat_lt, arith}
use borrow.Author.Count.{below_more}
use Rattle.laws.specs.Lists.{at}
use Rattle.hall.specs.Hall.{Hall}
use Rattle.columns.specs.Columns.{flagged}
use Rattle.columns.specs.Lanes.{RowsOf}
use Rattle.repair.specs.Repairs.{unpaid}
use Rattle.repair.proofs.Repairing.{unpaid_here}
use Rattle.repair.proofs.unpaid.Goals as goal
use Rattle.repair.proofs.unpaid.Goals.{After-gap}

-- what a turn asks
asked : (c : After-gap) (h : Hall) (n : ℕ) → RowsOf h n c.args.network.now.lanes.now →
    unpaid h (at c.args.network.now.costs.now.rows) (at c.args.network.now.potential.now) (flagged c.args.chosen.now) (suc c.loop-k.k)
    ≡ (get_or c.args.chosen.now c.loop-k.k false && nat_lt 0 c.gap.result)
asked c h n cols = let net = c.args.network.now in let l = net.lanes.now in let lane = c.lane-lane in
    unpaid_here h n l.count l.tails l.heads net.costs.now.rows net.potential.now c.args.chosen.now cols c.loop-k.k lane.result.tail lane.result.head
    c.loop-k-test.true lane.ensures.tail lane.ensures.head c.gap.result c.gap.ensures

pub returns-then-chosen-k : goal.returns-then-chosen-k
returns-then-chosen-k c = λ h n cols. (
  c.loop-k-test.true,
  asked (goal.at.returns-then-chosen-k c).After-gap h n cols ∙ c.if-chosen-k.true,
  λ i low less. c.loop-k.invariant h n cols i less low,
)

pub loop-k-preserved : goal.loop-k-preserved
loop-k-preserved c = λ h n cols. let net = c.args.network.now in
    below_more (λ (i : ℕ). c.args.from ≤ i → unpaid h (at net.costs.now.rows) (at net.potential.now) (flagged c.args.chosen.now) (suc i) ≡ false) c.loop-k.k
    (c.loop-k.invariant h n cols) (λ low. asked (goal.at.loop-k-preserved c).After-gap h n cols ∙ c.if-chosen-k.false)

pub returns : goal.returns
returns c = λ h n cols i low less. c.loop-k.invariant h n cols i (omega arith) low
