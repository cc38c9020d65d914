-- `with_sign` gives a row's number, and its negative where the row is run backward: both fit. Assumes nothing.
use mathlib.Core.Path.{sym, ◌∙◌}
use Prim.Native.Nat.{◌-◌}
use native.Mathlib.Omega.{arith}
use lib.IntN.{pos, negsuc}
use mir.Syntax.{w32}
use mir.ValLaws.{to_z_pos}
use Rattle.laws.proofs.Booleans.{cond_true, cond_false}
use Rattle.laws.proofs.Signs.{below_zero_is}
use Rattle.routes.specs.Route.{signed}
use Rattle.shortest.proofs.with_sign.Goals as goal

pub returns-then-back : goal.returns-then-back
unfolding signed
returns-then-back c = let a = c.args in
    below_zero_is a.k c.requires.0 (omega arith) ∙ sym (cond_true a.back (negsuc (a.k - 1)) (pos a.k) c.if-back.true)

pub returns-else-back : goal.returns-else-back
unfolding signed
returns-else-back c = let a = c.args in
    to_z_pos w32 a.k (omega arith) ∙ sym (cond_false a.back (negsuc (a.k - 1)) (pos a.k) c.if-back.false)
