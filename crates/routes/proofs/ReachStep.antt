-- The reach step over a hall's arcs gives the fewest rows to each junction, or that none lead there; a search that stops early the same for each junction that it holds. Assumes nothing.
use mathlib.Core.Path.{◌≡◌, ap}
use mathlib.Core.Bool.{Bool}
use mathlib.Core.List.{List}
use mathlib.Core.Option.{Option, some}
use Prim.Native.Nat.{ℕ, ◌^◌, ◌≤◌, ◌<◌}
use native.Mathlib.Omega.{arith}
use Rattle.laws.specs.Lists.{at}
use Rattle.junctions.specs.Sets.{holds}
use Rattle.digraph.specs.Paths.{Fewest}
use Rattle.digraph.specs.Search.{if_held, avoiding}
use Rattle.digraph.proofs.Walks.{fewest_alike, fewest_narrow}
use Rattle.digraph.proofs.Reaching.{avoiding_none}
use Rattle.hall.specs.Hall.{Hall, member}
use Rattle.dicuts.specs.Arcs.{arcs}
use Rattle.joining.proofs.Sealed.{arcs_lt}
use Rattle.routes.specs.Reached.{FewestTo, ArcsOf, ReachGives, SearchGives}
use Rattle.routes.proofs.Steps.{fewest_steps}

-- among 64 junctions, of which the hall's have its arcs
arcs_fewest :
    (h : Hall) (F : ℕ → Bool) (out : ℕ → ℕ) → h.n ≤ 64 → ((j : ℕ) → 1 ≤ j → j ≤ h.n → out j ≡ arcs h F j) →
    (a : ℕ) → 1 ≤ a → a ≤ h.n → (b : ℕ) (k : Option ℕ) → Fewest 64 out a b k → Fewest h.n (arcs h F) a b k
arcs_fewest h F out small same a low high b k f =
    let inside : (j : ℕ) → 1 ≤ j → j ≤ h.n → out j < 2 ^ h.n = (λ j p q. rw (same j p q) (arcs_lt h F j)) in
    fewest_alike h.n out (arcs h F) (λ x y p q _ _. ap (λ (s : ℕ). holds s y) (same x p q)) a low high b k
    (fewest_narrow h.n out small inside a low high b k f)

-- so the fewest arcs are the fewest rows
pub rows_fewest : (h : Hall) (c : List ℕ) (out : ℕ → ℕ) (a b : ℕ) → ArcsOf h c out → 1 ≤ a → a ≤ h.n → (k : Option ℕ) → Fewest 64 out a b k → FewestTo h c a b k
unfolding ArcsOf
rows_fewest h c out a b is low high k f = fewest_steps h is.0 c a b k (arcs_fewest h (λ i. member i c) out is.1 is.2 a low high b k f)

pub reach_gives : ReachGives
unfolding ReachGives ArcsOf
reach_gives h c out a b r before after is low high l m found =
    rows_fewest h c out a b is low high (if_held (holds r b) (at after b)) (found.fewest b l (omega (arith, is.1)))

pub search_gives : SearchGives
unfolding SearchGives ArcsOf
search_gives h c out a b goal r before after is low high l m found held =
    rows_fewest h c out a b is low high (some (at after b))
    (fewest_alike 64 (avoiding 0 out) out (λ x y _ _ _ _. avoiding_none out x y) a low (omega (arith, is.1)) b (some (at after b)) (found.fewest b l (omega (arith, is.1)) held))
