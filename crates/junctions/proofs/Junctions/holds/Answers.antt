-- Holds tests one junction's bit. Assumes nothing.
use mathlib.Core.Path.{◌≡◌, ap, ◌∙◌}
use Prim.Native.Nat.{suc, ◌-◌}
use native.Mathlib.Omega.{arith}
use Rattle.junctions.specs.Sets.{holds}
use Rattle.junctions.proofs.Junctions.holds.Goals as goal

pub returns : goal.returns
returns c = let e : suc (c.args.j - 1) ≡ c.args.j = omega (arith, c.requires) in c.has.ensures ∙ ap (holds c.args.self.0) e
