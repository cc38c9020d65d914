-- Has tests the bit at a place. Assumes nothing.
use mathlib.Core.Path.{◌≡◌, refl}
use Prim.Native.Nat.{suc, ◌-◌}
use native.Mathlib.Omega.{arith}
use Rattle.junctions.specs.Sets.{holds}
use Rattle.junctions.proofs.has.Goals as goal

pub returns : goal.returns
unfolding holds
returns c = let e : suc c.args.place - 1 ≡ c.args.place = omega arith in rw e refl
