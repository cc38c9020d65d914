-- `choice::unflagged` gives each place its opposite flag. Assumes nothing.
use native.Mathlib.Omega.{arith}
use Rattle.choice.proofs.Marked.{opposite_none, opposite_more}
use Rattle.choice.proofs.unflagged.Goals as goal

pub loop-k-init : goal.loop-k-init
loop-k-init c = opposite_none c.args.flags.now

pub loop-k-preserved : goal.loop-k-preserved
loop-k-preserved c = opposite_more c.args.flags.now c.loop-k.k c.loop-k.others (omega arith) c.loop-k.invariant

pub returns : goal.returns
returns c = let l = c.loop-k in (l.invariant.len, λ j h. l.invariant.at j (omega arith))
