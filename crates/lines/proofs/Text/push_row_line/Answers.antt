-- `Text::push_row_line` appends at most 30 bytes. Assumes nothing.
use Rattle.lines.proofs.Lines.{four_line_short}
use Rattle.lines.proofs.Text.push_row_line.Goals as goal

pub returns-clause-short : goal.returns-clause-short
returns-clause-short g c = four_line_short _ _ _ _ c.ranges.row.fits c.ranges.from.fits c.ranges.to.fits c.ranges.price.fits
