-- Lowest is the place of the lowest bit. Assumes nothing.
use mathlib.Core.Path.{refl}
use native.Mathlib.Omega.{arith}
use lib.Count.{trailing_le}
use Rattle.junctions.proofs.Bits.{trailing_lt}
use Rattle.junctions.proofs.lowest.Goals as goal

pub overflow_cast-result : goal.overflow_cast-result
overflow_cast-result c = record { fits = omega (arith, trailing_le 64 c.args.set) }

pub returns : goal.returns
returns c = (refl, trailing_lt 64 c.args.set c.requires (omega arith))
