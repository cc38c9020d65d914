-- Make_arc makes the arc that it finds. Assumes nothing.
use Rattle.std.proofs.Common.{◌≡◌, length, arith, rules}
use Rattle.flip.proofs.Flips.{made_open, made_close, made_swap}
use Rattle.flip.proofs.make_arc.Goals as goal

pub returns-in-Some : goal.returns-in-Some
returns-in-Some c = let size : length c.args.flags ≡ 256 = search rules in let few = c.args.network.now.lanes.now.ends.few in
    λ h n cols. made_open h _ _ _ _ c.args.x c.args.y _ cols.rows c.args.flags c.in-Some.open (rw c.in-Some.is at (c.opening.ensures.first h n cols)) (omega (arith, rw c.in-Some.is at c.opening.ensures.inside))

pub returns-in-Some-closing : goal.returns-in-Some-closing
returns-in-Some-closing c = let size : length c.args.flags ≡ 256 = search rules in let few = c.args.network.now.lanes.now.ends.few in
    λ h n cols. made_close h _ _ _ _ c.args.x c.args.y _ cols.rows c.args.flags c.in-Some-closing.close (rw c.in-Some-closing.is at (c.closing.ensures.first h n cols)) (omega (arith, rw c.in-Some-closing.is at c.closing.ensures.inside))

pub returns-in_default-closing : goal.returns-in_default-closing
returns-in_default-closing c = λ h n cols.
    made_swap h _ _ _ _ c.args.x c.args.y _ cols.rows c.args.flags (rw c.in_default.is at (c.opening.ensures.first h n cols)) (rw c.in_default-closing.is at (c.closing.ensures.first h n cols))
