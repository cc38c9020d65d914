-- `Text::push_cut_line` appends at most 203 bytes. Assumes nothing.
use Rattle.std.proofs.Common.{rules, arith}
use Rattle.std.proofs.lemmas.Grind.{common_steps}
use Rattle.lines.proofs.Decimal.{word_length}
use Rattle.lines.proofs.Lines.{cut_line_short, set_short}
use Rattle.lines.proofs.Text.push_cut_line.Goals as goal

pub push_number-requires : goal.push_number-requires
push_number-requires g c = omega (arith, word_length c.from.result (omega (arith, c.from.ensures)))

pub push_set-requires : goal.push_set-requires
push_set-requires g c =
    let w = word_length c.from.result (omega (arith, c.from.ensures)) in
    let s = set_short c.args.n 1 c.args.shore (omega arith) in
    (search rules, (c.requires.n_bound, grind (arith, common_steps)))

pub push-requires : goal.push-requires
push-requires g c = let w = word_length c.from.result (omega (arith, c.from.ensures)) in let s = set_short c.args.n 1 c.args.shore (omega arith) in grind (arith, common_steps)

pub returns-clause-short : goal.returns-clause-short
returns-clause-short g c = cut_line_short _ _ _ c.requires.n_bound c.ranges.weight.fits
