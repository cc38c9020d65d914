-- `cuts::sets::nearer` gives the next value once one more value is known: the best so far, unless the value is over `low` and is the first or less than it. Assumes nothing.
use Rattle.cuts.proofs.Nearer.{found_under, found_over, found_first, found_less}
use Rattle.cuts.proofs.sets.nearer.Goals as goal

pub returns-then-value-low : goal.returns-then-value-low
returns-then-value-low c = λ p k e g. found_under p c.args.low k c.args.value e c.args.best c.if-value-low.true g

pub returns-in-Some : goal.returns-in-Some
returns-in-Some c = λ p k e g. found_over p c.args.low k c.args.value e c.in-Some.near c.if-near-value.true (rw c.in-Some.is at g)

pub returns-in_default : goal.returns-in_default
returns-in_default c = λ p k e g. found_less p c.args.low k c.args.value e c.in-Some.near c.if-value-low.false c.if-near-value.false (rw c.in-Some.is at g)

pub returns-in_default-2 : goal.returns-in_default-2
returns-in_default-2 c = λ p k e g. found_first p c.args.low k c.args.value e c.if-value-low.false (rw c.in_default.is at g)
