-- `filerows::little::number`: the goals that its invariant leaves. Assumes nothing.
use mathlib.Core.Path.{sym}
use Prim.Native.Nat.{◌+◌, ◌-◌, ◌*◌, ◌^◌, ◌<◌}
use native.Mathlib.Omega.{arith}
use lib.Pow.{pow_pos}
use Rattle.filerows.proofs.Fields.{field_none, field_back, byte_more, eight_bytes}
use Rattle.filerows.proofs.little.number.Goals as goal
use Rattle.filerows.proofs.little.number.Goals.{After-from}

-- the value with one more byte is small
more : (c : After-from) → c.from.result + 256 * c.loop-i.value < 2 ^ (8 * (c.args.width - (c.loop-i.i - 1)))
more c = byte_more c.loop-i.i c.args.width c.loop-i.value c.from.result (omega arith) (omega arith) c.loop-i.invariant.1 (omega arith)

pub loop-i-init : goal.loop-i-init
loop-i-init c = let w = c.args.width in (sym (field_none c.args.bytes.now (c.args.at + w) (w - w) (omega arith)), pow_pos (8 * (w - w)))

pub overflow_mul-value : goal.overflow_mul-value
overflow_mul-value c = omega (arith, more c, eight_bytes (c.loop-i.i - 1) c.args.width (omega arith))

pub overflow_add-value : goal.overflow_add-value
overflow_add-value c = omega (arith, more c, eight_bytes (c.loop-i.i - 1) c.args.width (omega arith))

pub loop-i-preserved : goal.loop-i-preserved
loop-i-preserved c = (
  omega (arith, field_back c.args.bytes.now c.args.at c.loop-i.i c.args.width (omega arith) (omega arith) (omega arith)),
  more c,
)
