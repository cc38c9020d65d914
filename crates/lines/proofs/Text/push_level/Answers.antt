-- `Text::push_level` appends a space and the digits that `itoa` writes, at most 12 bytes. Assumes nothing.
use Rattle.std.proofs.Common.{arith}
use Rattle.std.proofs.lemmas.Grind.{common_steps}
use Rattle.lines.specs.Lines.{level_item}
use Rattle.lines.proofs.Decimal.{level_digits, level_short}
use Rattle.lines.proofs.Text.push_level.Goals as goal

pub push_bytes-requires : goal.push_bytes-requires
unfolding level_item
push_bytes-requires g c = let e = level_digits _ c.ranges.level _ c.format.ensures.text in let s = level_short _ c.ranges.level in grind (arith, common_steps)

pub returns-clause-appended : goal.returns-clause-appended
unfolding level_item
returns-clause-appended g c = let e = level_digits _ c.ranges.level _ c.format.ensures.text in grind (arith, common_steps)

pub returns-clause-short : goal.returns-clause-short
returns-clause-short g c = level_short _ c.ranges.level
