-- `print_refusal` appends the refusal's one line to the empty text. Assumes nothing.
use Rattle.std.proofs.Common.{ap, length, ◌∷◌, [], arith}
use Rattle.lines.proofs.Lines.{pair_line_short}
use Rattle.printing.proofs.print_refusal.Goals as goal

pub push_pair_line-requires : goal.push_pair_line-requires
push_pair_line-requires c = omega (arith, ap length c.clear.ensures, pair_line_short (82 ∷ 69 ∷ 70 ∷ 85 ∷ 83 ∷ 69 ∷ 68 ∷ 32 ∷ []) c.args.number c.args.row c.ranges.number.fits c.ranges.row.fits)
