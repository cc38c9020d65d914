-- The next value of a potential, which junctions are mates by their sets, and what its upper sets weigh. Assumes nothing: these are definitions.
use Rattle.std.specs.Prelude.{◌≡◌, ◌||◌, ℕ, suc, ◌≤◌, ◌<◌, Option, Some, None}
use Rattle.laws.specs.Finite.{sum_below}
use Rattle.junctions.specs.Sets.{holds, gather}
use Rattle.certificates.specs.Cuts.{upper}
use Rattle.setshores.specs.Shores.{classes_weigh}

-- the junctions b of 1 to n such that one of a and b is in the other's set
unfoldable pub mates_by : (n : ℕ) → (sets : ℕ → ℕ) → (a : ℕ) → ℕ
mates_by n sets a = gather n (λ b. holds (sets a) b || holds (sets b) a)

-- THE NEXT VALUE over `low` that p takes at junctions 1 to n, or `low` where it takes none
pub record NextValue (n : ℕ) (p : ℕ → ℕ) (low next : ℕ) : Type 0 where
  pub from_low : low ≤ next
  pub none : next ≡ low → (j : ℕ) → 1 ≤ j → j ≤ n → p j ≤ low
  pub least : (j : ℕ) → 1 ≤ j → j ≤ n → low < p j → next ≤ p j
  pub taken : low < next → (j : ℕ) × (1 ≤ j) × (j ≤ n) × (p j ≡ next)

-- the next value over `low`, where p takes one
unfoldable pub NextFound : (n : ℕ) → (p : ℕ → ℕ) → (low : ℕ) → Option ℕ → Type 0
NextFound n p low None = NextValue n p low low
NextFound n p low (Some next) = (low < next) × NextValue n p low next

-- no junction of 1 to n has a potential over the top
unfoldable pub UnderTop : (n : ℕ) → (p : ℕ → ℕ) → (top : ℕ) → Type 0
UnderTop n p top = (j : ℕ) → 1 ≤ j → j ≤ n → p j ≤ top

-- what shore s weighs over the upper sets of all thresholds from 1 to top, each weighing 1
unfoldable pub levels_weigh : (n : ℕ) → (links mates p : ℕ → ℕ) → (top : ℕ) → (s : ℕ) → ℕ
levels_weigh n links mates p top s = sum_below top (λ q. classes_weigh n links mates (upper n p (suc q)) 1 s)
