-- `Text::push_bytes` appends a text byte by byte. The invariant: the bytes of the turns so far are appended. Assumes nothing.
use Rattle.std.proofs.Common.{◌≡◌, ◌++◌, take}
use Rattle.lines.proofs.Text.push_bytes.Given as goal

abbrev pub invariant-loop-byte : goal.invariant-loop-byte
invariant-loop-byte g l = l.self ≡ l.fn.self ++ take l.byte-index l.bytes
