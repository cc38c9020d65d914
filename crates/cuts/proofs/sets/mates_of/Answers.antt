-- `cuts::sets::mates_of` gives the mates of junction a: the junctions of its set and those whose set holds it. Assumes nothing.
use mathlib.Core.Path.{ap, ap₂, ◌∙◌}
use Prim.Native.Nat.{ℕ}
use lib.Bits.{bit_and, bit_or}
use Rattle.laws.specs.Lists.{at}
use Rattle.junctions.specs.Sets.{holds}
use Rattle.cuts.specs.Thresholds.{mates_by}
use Rattle.cuts.proofs.Gathering.{gather_or}
use Rattle.cuts.proofs.sets.mates_of.Goals as goal

pub returns : goal.returns
unfolding mates_by
returns c = let s = c.args in let own = at s.around.now s.a in
    ap₂ bit_or (ap (λ (f : ℕ). bit_and f own) c.full.ensures) c.holders.ensures
    ∙ gather_or s.n own (λ (b : ℕ). holds (at s.around.now b) s.a)
