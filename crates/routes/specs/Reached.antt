-- What `reached` means: exactly the junctions that some steps over rows forward and chosen rows backward lead to; and what the reach step gives, in
-- rows. Each statement is a type; proofs/Reached.antt and proofs/ReachStep.antt prove them. Assumes nothing.
use Rattle.std.specs.Prelude.{◌≡◌, true, List, ℕ, ◌≤◌, length}
use Rattle.std.proofs.Math.Option.{Option, none, some}
use Rattle.laws.specs.Lists.{at}
use Rattle.junctions.specs.Sets.{holds}
use Rattle.digraph.specs.Search.{if_held, Reached, Searched}
use Rattle.hall.specs.Hall.{Hall, member, reached, joins}
use Rattle.hall.specs.File.{hall_in}
use Rattle.dicuts.specs.Shores.{Ranged}
use Rattle.dicuts.specs.Arcs.{arcs}
use Rattle.joining.specs.Promise.{accepted}
use Rattle.routes.specs.Route.{Step, runs_to}

-- a junction is reached exactly if some steps lead to it
unfoldable pub ReachedExactly : Type 0
ReachedExactly =
    (bs c : List ℕ) (a b : ℕ) → accepted bs ≡ true → 1 ≤ a → a ≤ (hall_in bs).n → 1 ≤ b → b ≤ (hall_in bs).n →
    (holds (reached (hall_in bs) c a) b ≡ true → (ss : List Step) × (runs_to (hall_in bs) c a ss b ≡ true))
    × ((ss : List Step) → runs_to (hall_in bs) c a ss b ≡ true → holds (reached (hall_in bs) c a) b ≡ true)

-- a choice joins exactly if steps lead from each junction to each other one
unfoldable pub JoinsBySteps : Type 0
JoinsBySteps =
    (bs c : List ℕ) → accepted bs ≡ true →
    (joins (hall_in bs) c ≡ true →
    (a b : ℕ) → 1 ≤ a → a ≤ (hall_in bs).n → 1 ≤ b → b ≤ (hall_in bs).n → (ss : List Step) × (runs_to (hall_in bs) c a ss b ≡ true))
    × (((a b : ℕ) → 1 ≤ a → a ≤ (hall_in bs).n → 1 ≤ b → b ≤ (hall_in bs).n → (ss : List Step) × (runs_to (hall_in bs) c a ss b ≡ true)) →
    joins (hall_in bs) c ≡ true)

-- THE REACH STEP: the fewest rows from a to b, or that none lead there
unfoldable pub FewestTo : Hall → (chosen : List ℕ) → (a b : ℕ) → Option ℕ → Type 0
FewestTo h c a b none = (ss : List Step) → runs_to h c a ss b ≡ true → ⊥
FewestTo h c a b (some k) =
    ((ss : List Step) × (runs_to h c a ss b ≡ true) × (length ss ≡ k)) × ((ts : List Step) → runs_to h c a ts b ≡ true → k ≤ length ts)

-- the arcs of 64 junctions, of which those of the hall are its rows forward and its chosen rows backward
unfoldable pub ArcsOf : Hall → (chosen : List ℕ) → (out : ℕ → ℕ) → Type 0
ArcsOf h c out = Ranged h × (h.n ≤ 64) × ((j : ℕ) → 1 ≤ j → j ≤ h.n → out j ≡ arcs h (λ i. member i c) j)

-- what `digraph::reach` gives over these arcs: for each junction the fewest rows to it, or that none lead there
unfoldable pub ReachGives : Type 0
ReachGives =
    (h : Hall) (c : List ℕ) (out : ℕ → ℕ) (a b r : ℕ) (before after : List ℕ) → ArcsOf h c out → 1 ≤ a → a ≤ h.n → 1 ≤ b → b ≤ h.n →
    Reached 64 out a r before after → FewestTo h c a b (if_held (holds r b) (at after b))

-- what `digraph::reach_until` gives where it avoids no junction: the same for each junction that it holds
unfoldable pub SearchGives : Type 0
SearchGives =
    (h : Hall) (c : List ℕ) (out : ℕ → ℕ) (a b goal r : ℕ) (before after : List ℕ) → ArcsOf h c out → 1 ≤ a → a ≤ h.n → 1 ≤ b → b ≤ h.n →
    Searched 64 out a 0 goal r before after → holds r b ≡ true → FewestTo h c a b (some (at after b))
