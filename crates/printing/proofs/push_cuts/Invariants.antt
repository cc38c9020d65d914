-- `push_cuts` appends the cuts' lines one by one. The invariant: the lines of the cuts so far are appended, each of at most 203 bytes. Assumes nothing.
use Rattle.cutlist.specs.Cuts.{cuts_of}
use Rattle.lines.specs.Lines.{cut_line}
use Rattle.printing.proofs.Each.{EachAppended}
use Rattle.printing.proofs.push_cuts.Given as goal

abbrev pub invariant-loop-cut : goal.invariant-loop-cut
invariant-loop-cut l = EachAppended (cut_line l.n) (cuts_of l.cuts) 203 l.cut-index l.initial.text l.text
