-- `growth::meeting` gives junctions in which the searches from two heads meet, or none where they keep apart: one search after another, until one meets the others.
-- The invariant: the searches from the heads before those left kept apart (Keeping). Assumes nothing.
use Rattle.laws.specs.Lists.{at}
use Rattle.growth.proofs.Meetings.{Keeping}
use Rattle.growth.proofs.meeting.Given as goal

abbrev pub invariant-loop-place : goal.invariant-loop-place
invariant-loop-place l = Keeping (at l.arcs) l.set l.heads l.other l.place-iterator.left
