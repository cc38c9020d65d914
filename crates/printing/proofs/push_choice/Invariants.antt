-- `push_choice` appends the chosen rows' lines one by one. The invariant: the lines of the rows so far are appended, each of at most 30 bytes. Assumes nothing.
use Rattle.printing.specs.Printed.{row_line}
use Rattle.printing.specs.Recorded.{hall_drawn}
use Rattle.printing.proofs.Each.{EachAppended}
use Rattle.printing.proofs.push_choice.Given as goal

abbrev pub invariant-loop-row : goal.invariant-loop-row
invariant-loop-row l = EachAppended (row_line (hall_drawn l.hall)) l.rows 30 l.row-index l.initial.text l.text
