-- `Text::push_number` appends the digits that `itoa` writes, which are those of `decimal`. Assumes nothing.
use Rattle.std.proofs.Common.{arith}
use Rattle.std.proofs.lemmas.Grind.{common_steps}
use Rattle.lines.proofs.Decimal.{decimal_is}
use Rattle.lines.proofs.Text.push_number.Goals as goal

pub push_bytes-requires : goal.push_bytes-requires
push_bytes-requires g c = let e = decimal_is c.args.number (omega arith) in let f = c.format.ensures.text in grind (arith, common_steps)

pub returns : goal.returns
returns g c = let e = decimal_is c.args.number (omega arith) in let f = c.format.ensures.text in cc
