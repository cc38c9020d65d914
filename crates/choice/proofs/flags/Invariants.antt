-- `choice::flags` gives the flag of each row. The invariant: the flags are those of the numbers so far (Flagged). Assumes nothing.
use Rattle.choice.proofs.Ascent.{Flagged}
use Rattle.choice.proofs.flags.Given as goal

abbrev pub invariant-loop-number : goal.invariant-loop-number
invariant-loop-number l = Flagged l.numbers l.number-index l.chosen
