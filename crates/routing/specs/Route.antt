-- What the route answers and leaves behind. Assumes nothing: these are definitions.
use Rattle.std.specs.Prelude.{◌≡◌, ◌&&◌, cond, List, ℕ, leb, ℤ, length, Result, MatchResult}
use Rattle.std.proofs.Math.Option.{Option, none, some}
use Rattle.laws.specs.Lists.{in_front}
use Rattle.hall.specs.Hall.{Hall, missed}
use Rattle.hall.specs.File.{hall_in, Refusal, refusal, or_else}
use Rattle.routes.specs.Route.{Step, ShortestRoute, all_signed}
use Rattle.refusals.specs.declared.Kind.{Kind}
use Rattle.refusals.specs.Kinds.{answered}
use Rattle.opening.specs.Choice.{choice_refusal, room_for}
use Rattle.routing.specs.declared.Way.{Way}
use Rattle.routing.specs.declared.Way.TheVariants.{Misses, Route}

-- 2 misses with a shore, 4 a route
unfoldable pub way_outcome : Way → ℕ
way_outcome (Misses s) = 2
way_outcome (Route k) = 4

-- the shore
unfoldable pub way_set : Way → ℕ
way_set (Misses s) = s.0
way_set (Route k) = 0

-- how many places the route fills
unfoldable pub way_filled : Way → ℕ
way_filled (Misses s) = 0
way_filled (Route k) = k

-- 11 for a junction outside 1 to n
abbrev pub end_refusal : (n a b : ℕ) → Refusal
end_refusal n a b = cond ((leb 1 a && leb a n) && (leb 1 b && leb b n)) (refusal 0 0) (refusal 11 0)

-- 1, the hall's and 10, then 11
unfoldable pub route_refusal : (bs c : List ℕ) → (a b places : ℕ) → Refusal
route_refusal bs c a b k = room_for 63 k (or_else (choice_refusal bs c) (end_refusal (hall_in bs).n a b))

-- what was found of the way, and the lent list before and after: the shore that the choice misses, or a shortest route in the first places
unfoldable pub WayFor : Option ℕ → Hall → List ℕ → (a b : ℕ) → Way → (before after : List ℤ) → Type 0
WayFor (some s) h c a b w old new = (w ≡ Misses (record { 0 = s })) × (new ≡ old)
WayFor none h c a b w old new =
    (ss : List Step) × ShortestRoute h c a b ss × (w ≡ Route (length ss)) × (new ≡ in_front (all_signed ss) old)

-- THE ROUTE: the refusal, with the lent list as it was, or the way
unfoldable pub RouteSays : (bs c : List ℕ) → (a b : ℕ) → Result Way Kind → (before after : List ℤ) → Type 0
RouteSays bs c a b r old new =
    (answered r ≡ route_refusal bs c a b (length old))
    × MatchResult r (λ w. WayFor (missed (hall_in bs) c) (hall_in bs) c a b w old new) (λ _. new ≡ old)
