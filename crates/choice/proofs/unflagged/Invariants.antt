-- `choice::unflagged` flags the other rows. The invariant: the places gone over have the opposite flags. Assumes nothing.
use Rattle.choice.proofs.Marked.{Opposite}
use Rattle.choice.proofs.unflagged.Given as goal

abbrev pub invariant-loop-k : goal.invariant-loop-k
invariant-loop-k l = Opposite l.flags l.k l.others
