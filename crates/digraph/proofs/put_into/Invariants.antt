-- `digraph::put_into` puts a junction into the sets of others and nowhere else. The invariant: there are 64 sets, and once it is in those left too it is in all (Marking). Assumes nothing.
use Rattle.std.proofs.Common.{◌≡◌, ◌-◌, ◌^◌, length}
use Rattle.std.specs.Int.Bits.{bit_or}
use Rattle.digraph.specs.Turns.{Marking}
use Rattle.digraph.proofs.put_into.Given as goal

abbrev pub invariant-loop-place : goal.invariant-loop-place
invariant-loop-place l = (length l.sets ≡ 64) × Marking l.initial.sets l.sets l.into l.place-iterator.left (λ s. bit_or s (2 ^ (l.x - 1)))
