-- Routes over rows forward and chosen rows backward. Assumes nothing: these are definitions.
use Rattle.std.specs.Prelude.{◌≡◌, Bool, true, ◌&&◌, ◌||◌, not, cond, List, [], ◌∷◌, ℕ, ◌-◌, ◌≤◌, leb, eqb, length, ℤ, pos, negsuc}
use Rattle.hall.specs.Hall.{Hall, row, count, member}
use Rattle.hall.specs.Plan.{earlier}

-- A STEP of a route: a row, run forward or backward
pub record Step : Type 0 where
  pub number : ℕ
  pub back : Bool

-- the junction that it starts from
unfoldable pub starts : Hall → Step → ℕ
starts h s = cond s.back (row h s.number).to (row h s.number).from

-- the junction that it ends at
unfoldable pub ends : Hall → Step → ℕ
ends h s = cond s.back (row h s.number).from (row h s.number).to

-- the hall has the row, and it is chosen where it is run backward
unfoldable pub may_run : Hall → (chosen : List ℕ) → Step → Bool
may_run h c s = (leb 1 s.number && leb s.number (count h)) && (not s.back || member s.number c)

-- the steps lead from a to b
unfoldable pub runs_to : Hall → (chosen : List ℕ) → (a : ℕ) → List Step → (b : ℕ) → Bool
runs_to h c a [] b = eqb a b
runs_to h c a (s ∷ ss) b = (may_run h c s && eqb (starts h s) a) && runs_to h c (ends h s) ss b

-- the rows of the steps
unfoldable pub numbers : List Step → List ℕ
numbers [] = []
numbers (s ∷ ss) = s.number ∷ numbers ss

-- THE ROUTE: fewest rows, and the row numbers in travelling order come first in dictionary order
pub record ShortestRoute (h : Hall) (c : List ℕ) (a b : ℕ) (ss : List Step) : Type 0 where
  pub there : runs_to h c a ss b ≡ true
  pub fewest : (ts : List Step) → runs_to h c a ts b ≡ true → length ss ≤ length ts
  pub before : (ts : List Step) → runs_to h c a ts b ≡ true → length ts ≡ length ss → (ss ≡ ts → ⊥) → earlier (numbers ss) (numbers ts) ≡ true

-- a step as one number: below 0 where the row is run backward
unfoldable pub signed : Step → ℤ
signed s = cond s.back (negsuc (s.number - 1)) (pos s.number)

-- each step so
unfoldable pub all_signed : List Step → List ℤ
all_signed [] = []
all_signed (s ∷ ss) = signed s ∷ all_signed ss
