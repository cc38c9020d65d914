-- `pruning::start` drops rows one by one. The invariant: the rows that are left are among those given, join where these do, and make every arc of the 64 sets. Assumes nothing.
use Rattle.std.proofs.Common.{◌≡◌, length}
use Rattle.hall.specs.Hall.{Hall}
use Rattle.dicuts.specs.Shores.{Ranged, once, Joining}
use Rattle.columns.specs.Columns.{flagged}
use Rattle.columns.specs.Lanes.{LanesOf}
use Rattle.pruning.specs.Start.{Among}
use Rattle.pruning.proofs.Dropping.{Thinned}
use Rattle.pruning.proofs.start.Given as goal

abbrev pub invariant-loop-place : goal.invariant-loop-place
invariant-loop-place l = (length l.arcs ≡ 64) × Among l.left l.initial.left
    × ((h : Hall) → LanesOf h l.lanes → Ranged h → Joining h (once (flagged l.initial.left)) → Thinned h l.left l.arcs)
