-- What holds at the head of each turn of the loops over sets and layers. Assumes nothing: these are definitions.
use Rattle.std.specs.Prelude.{◌≡◌, true, ◌&&◌, ◌||◌, cond, List, ℕ, ◌^◌, ◌≤◌, ◌<◌, ltb, length}
use Rattle.laws.specs.Lists.{at}
use Rattle.junctions.specs.Sets.{holds}
use Rattle.digraph.specs.Closure.{arc_from}
use Rattle.digraph.specs.Distances.{distances}
use Rattle.digraph.specs.Search.{avoiding}
use Rattle.digraph.specs.Layers.{Layered}

-- what is found, with what arcs from the rest lead to, is what arcs from the whole set lead to
abbrev pub Spreading : (out : ℕ → ℕ) → (from found rest : ℕ) → Type 0
Spreading out from found rest = (y : ℕ) → (holds found y || arc_from 64 out rest y) ≡ arc_from 64 out from y

-- once the rest is marked too, all of the set is
abbrev pub Marking : (before now : List ℕ) → (all rest : ℕ) → (f : ℕ → ℕ) → Type 0
Marking before now all rest f =
    (j : ℕ) → 1 ≤ j → j ≤ 64 → cond (holds rest j) (f (at now j)) (at now j) ≡ cond (holds all j) (f (at before j)) (at before j)

-- d layers from the start are done and marked in the list, over arcs that avoid the set; arcs of what is done end in junctions 1 to 64
abbrev pub Turn : (out : ℕ → ℕ) → (start set goal : ℕ) → (before dist : List ℕ) → (layer done d : ℕ) → Type 0
Turn out start set goal before dist layer done d =
    (layer < 2 ^ 64) × (length dist ≡ 64) × Layered 64 (distances 64 (avoiding set out) start) (at before) (at dist) goal layer done d
    × ((x y : ℕ) → 1 ≤ x → x ≤ 64 → holds done x ≡ true → 1 ≤ y → holds (out x) y ≡ true → y ≤ 64)

-- of the arcs from junctions before x each is turned round
abbrev pub Rounding : (out : ℕ → ℕ) → (back : List ℕ) → (x : ℕ) → Type 0
Rounding out back x = (y z : ℕ) → 1 ≤ y → y ≤ 64 → 1 ≤ z → z ≤ 64 → holds (at back y) z ≡ (ltb z x && holds (out z) y)
