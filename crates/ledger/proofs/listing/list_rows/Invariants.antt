-- `ledger::listing::list_rows` lists the flagged rows. The invariant: those of the first k rows stand in the first places, as many as `filled` says (Noted). Assumes nothing.
use Rattle.columns.specs.Columns.{flagged}
use Rattle.ledger.proofs.Choices.{Noted}
use Rattle.ledger.proofs.listing.list_rows.Given as goal

abbrev pub invariant-loop-k : goal.invariant-loop-k
invariant-loop-k l = Noted (flagged l.flags) l.initial.rows l.k l.filled l.rows
