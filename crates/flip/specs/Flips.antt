-- The flags of rows as arcs of the zero graph are made. Assumes nothing: these are definitions.
use Rattle.std.specs.Prelude.{◌≡◌, Bool, true, false, List, ℕ, ◌≤◌, ◌<◌, Option, None, Some}
use Rattle.laws.specs.First.{first_below}
use Rattle.junctions.specs.Sets.{holds}
use Rattle.hall.specs.Hall.{Hall}
use Rattle.potentials.specs.ZeroGraph.{zero_arcs}
use Rattle.potentials.specs.Flip.{Leg, by_open, by_close, end_of, Takes, Route, put, after, flipped}

-- the place of the first of m rows that passes the test, or nothing where none does
unfoldable pub FirstPlace : (m : ℕ) → (test : ℕ → Bool) → Option ℕ → Type 0
FirstPlace m test None = first_below m test ≡ m
FirstPlace m test (Some k) = (k ≡ first_below m test) × (k < m)

-- the rows are the same
abbrev pub SameRows : (F G : ℕ → Bool) → Type 0
SameRows F G = (k : ℕ) → 1 ≤ k → F k ≡ G k

-- from G to G' one leg is made that takes the arc from x to y
abbrev pub Made : Hall → (movable : ℕ → Bool) → (c p : ℕ → ℕ) → (F : ℕ → Bool) → (x y : ℕ) → (G G' : ℕ → Bool) → Type 0
Made h m c p F x y G G' =
    1 ≤ y → y ≤ h.n → holds (zero_arcs h m c p F x) y ≡ true → (l : Leg) × (end_of l ≡ y) × Takes h m c p F x l × SameRows G' (after l G)

-- G is F after the legs of a route from x to y, and with row i in it or not
abbrev pub Walked :
    Hall → (movable : ℕ → Bool) → (c p : ℕ → ℕ) → (F : ℕ → Bool) → (dist : ℕ → ℕ) → (x y i : ℕ) → Bool → (G : ℕ → Bool) → Type 0
Walked h m c p F dist x y i b G = (ls : List Leg) × Route h m c p F dist x ls y × SameRows G (put i b (flipped ls F))

-- the leg that opens or closes row i on the way to w
unfoldable pub turning : Bool → (i w : ℕ) → Leg
turning true i w = by_open i w
turning false i w = by_close i w
