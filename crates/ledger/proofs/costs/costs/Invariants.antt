-- `ledger::costs::costs` gives each row's cost. The invariant: the first k are those of the rows, the others 0 (Padded). Assumes nothing.
use Rattle.std.proofs.Common.{ℕ, ◌+◌, ◌*◌}
use Rattle.ledger.specs.Padded.{Padded, charged}
use Rattle.ledger.proofs.costs.costs.Given as goal

abbrev pub invariant-loop-k : goal.invariant-loop-k
invariant-loop-k l = Padded 256 (λ (i : ℕ). l.by * charged l.prices l.fixed i + l.extra) l.k l.rows
