-- `reprice::shut` goes over the levels. The invariant: the first k are shut. Assumes nothing.
use Rattle.std.proofs.Common.{◌≡◌, ℕ, ◌<◌, get_or, length}
use Rattle.forcing.specs.Shut.{shut}
use Rattle.reprice.proofs.shut.Given as goal

abbrev pub invariant-loop-k : goal.invariant-loop-k
invariant-loop-k l = (length l.next ≡ 64) × ((j : ℕ) → j < l.k → get_or l.next j 0 ≡ shut l.low l.high (λ (i : ℕ). get_or l.potential i 0) j)
