-- Settled gives a free key the new value. Assumes nothing.
use mathlib.Core.Path.{sym}
use lib.Dec.{eqb}
use borrow.Author.Tests.{eq-eqb, ne_eqb}
use Rattle.laws.proofs.Booleans.{cond_true, cond_false}
use Rattle.leveltable.proofs.settled.Goals as goal

pub returns-then-set-eq0 : goal.returns-then-set-eq0
returns-then-set-eq0 c = sym (cond_true (eqb c.args.set 0) c.args.new c.args.old (eq-eqb c.args.set 0 c.if-set-eq0.true))

pub returns-else-set-eq0 : goal.returns-else-set-eq0
returns-else-set-eq0 c = sym (cond_false (eqb c.args.set 0) c.args.new c.args.old (ne_eqb c.args.set 0 c.if-set-eq0.false))
