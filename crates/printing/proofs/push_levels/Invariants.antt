-- `push_levels` appends the levels one by one. The invariant: the levels so far are appended, each of at most 12 bytes. Assumes nothing.
use Rattle.lines.specs.Lines.{level_item}
use Rattle.printing.proofs.Each.{EachAppended}
use Rattle.printing.proofs.push_levels.Given as goal

abbrev pub invariant-loop-level : goal.invariant-loop-level
invariant-loop-level l = EachAppended level_item l.levels 12 l.level-index l.initial.text l.text
