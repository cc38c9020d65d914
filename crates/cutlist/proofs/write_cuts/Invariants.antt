-- `write_cuts` writes the cuts into the lent list, one a turn. The invariant, place by place: the first places hold the cuts written so far, the others are as before. Assumes nothing.
use Rattle.std.proofs.Common.{◌≡◌, ℕ, ◌<◌, ◌≤◌, get_or}
use Rattle.cutlist.specs.Cuts.{lent_cut}
use Rattle.cutlist.proofs.write_cuts.Given as goal

abbrev pub invariant-loop-k : goal.invariant-loop-k
invariant-loop-k l = record {
  written : (i : ℕ) → i < l.k → get_or l.cuts i (lent_cut 0 0) ≡ lent_cut (get_or l.shores i 0) (get_or l.weights i 0);
  rest : (i : ℕ) → l.k ≤ i → get_or l.cuts i (lent_cut 0 0) ≡ get_or l.initial.cuts i (lent_cut 0 0);
}
