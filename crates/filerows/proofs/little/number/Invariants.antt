-- `filerows::little::number` gives the number in the bytes, least first. The invariant: the value is the number in the bytes from byte i on, and fits them. Assumes nothing.
use Rattle.std.proofs.Common.{◌≡◌, ◌+◌, ◌*◌, ◌-◌, ◌^◌, ◌<◌}
use Rattle.hall.specs.File.{field}
use Rattle.filerows.proofs.little.number.Given as goal

abbrev pub invariant-loop-i : goal.invariant-loop-i
invariant-loop-i l = (l.value ≡ field (l.at + l.i) (l.width - l.i) l.bytes) × (l.value < 2 ^ (8 * (l.width - l.i)))
