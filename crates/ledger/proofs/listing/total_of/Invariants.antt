-- `ledger::listing::total_of` adds up the prices of the flagged rows. The invariant: the total is that of the first k rows, at most 1,000,000 each. Assumes nothing.
use Rattle.std.proofs.Common.{◌≡◌, ℕ, ◌*◌, ◌≤◌, false, cond, get_or}
use Rattle.laws.specs.Finite.{sum_below}
use Rattle.ledger.proofs.listing.total_of.Given as goal

abbrev pub invariant-loop-k : goal.invariant-loop-k
invariant-loop-k l = (l.total ≡ sum_below l.k (λ (i : ℕ). cond (get_or l.flags i false) (get_or l.prices i 0) 0)) × (l.total ≤ l.k * 1000000)
