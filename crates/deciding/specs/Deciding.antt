-- What is kept while the rows are decided one by one. Assumes nothing: these are definitions.
use Rattle.std.specs.Prelude.{Bool, true, List, ℕ, ◌≤◌}
use Rattle.hall.specs.Hall.{Hall}
use Rattle.dicuts.specs.Shores.{once, Joining}
use Rattle.potentials.specs.Potential.{Parted, cost}
use Rattle.potentials.specs.Flip.{Leg, put, flipped}
use Rattle.potentials.specs.Compare.{Priced}
use Rattle.deciding.specs.Decided.{Decided, rows_after}

-- the set of rows after the legs of a route, and with row i
unfoldable pub opened : (i : ℕ) → List Leg → (F : ℕ → Bool) → ℕ → Bool
opened i ls F = put i true (flipped ls F)

-- AFTER k ROWS: F joins, costs least and has its first k rows for good; the potential meets P3, and P1 and P2 on the other rows
pub record Deciding (h : Hall) (c : ℕ → ℕ) (k : ℕ) (p : ℕ → ℕ) (F : ℕ → Bool) : Type 0 where
  pub joining : Joining h (once F)
  pub least : (G : ℕ → Bool) → Joining h (once G) → cost h c F ≤ cost h c G
  pub decided : Decided h c F k
  pub parted : Parted h (once F) p
  pub priced : Priced h c p (rows_after k) F
