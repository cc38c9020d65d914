-- `less` gives the difference of two numbers that lie less than 2^31 apart: the larger less the smaller fits, and so does its negative. Assumes nothing.
use Rattle.levels.proofs.Levelling.{less_pos, less_neg}
use Rattle.levels.proofs.less.Goals as goal

pub returns-then-b-a : goal.returns-then-b-a
returns-then-b-a c = less_pos c.args.a c.args.b c.if-b-a.true c.requires.0

pub returns-else-b-a : goal.returns-else-b-a
returns-else-b-a c = less_neg c.args.a c.args.b c.if-b-a.false c.requires.1
