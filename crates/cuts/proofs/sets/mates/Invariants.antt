-- `cuts::sets::mates` puts each junction's mates in its place. The invariant: the first k places have the mates of their junctions. Assumes nothing.
use Prim.Native.Nat.{ℕ, ◌+◌}
use Rattle.laws.specs.Lists.{at}
use Rattle.setshores.specs.Columns.{FilledTo}
use Rattle.cuts.specs.Thresholds.{mates_by}
use Rattle.cuts.proofs.sets.mates.Given as goal

abbrev pub invariant-loop-k : goal.invariant-loop-k
invariant-loop-k l = FilledTo 64 (λ (i : ℕ). mates_by l.n (at l.around) (i + 1)) l.k l.sets
