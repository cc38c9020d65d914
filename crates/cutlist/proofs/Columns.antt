-- The lent cuts of two lists of numbers: how many there are, and which cut stands at a place. Assumes nothing.
use mathlib.Core.Path.{◌≡◌, refl, ap}
use mathlib.Core.List.{List, [], ◌∷◌}
use Prim.Native.Nat.{ℕ, zero, suc, ◌<◌}
use native.Mathlib.Omega.{arith}
use lib.ListN.{length, get_or}
use Rattle.cutlist.specs.declared.Cut.{Cut}
use Rattle.cutlist.specs.Cuts.{lent_cut, lent_cuts}

pub lent_cuts-length : (ss ws : List ℕ) → length ss ≡ length ws → length (lent_cuts ss ws) ≡ length ss
unfolding lent_cuts
lent_cuts-length [] ws e = refl
lent_cuts-length (s ∷ ss) [] e = absurd (omega arith)
lent_cuts-length (s ∷ ss) (w ∷ ws) e = ap suc (lent_cuts-length ss ws (omega arith))

pub lent_cuts-at : (ss ws : List ℕ) (d : Cut) (i : ℕ) → length ss ≡ length ws → i < length ss → get_or (lent_cuts ss ws) i d ≡ lent_cut (get_or ss i 0) (get_or ws i 0)
unfolding lent_cuts
lent_cuts-at [] ws d i e l = absurd (omega arith)
lent_cuts-at (s ∷ ss) [] d i e l = absurd (omega arith)
lent_cuts-at (s ∷ ss) (w ∷ ws) d zero e l = refl
lent_cuts-at (s ∷ ss) (w ∷ ws) d (suc i) e l = lent_cuts-at ss ws d i (omega arith) (omega arith)
