-- `route` follows the table of first rows over the fewest rows to the target: as many steps as the start is far. Assumes nothing.
use mathlib.Core.Path.{◌≡◌, sym, ap, ◌∙◌}
use mathlib.Core.Bool.{true}
use mathlib.Core.List.{List, ◌++◌}
use Prim.Native.Nat.{ℕ, ◌≤◌}
use native.Mathlib.Omega.{arith}
use lib.IntN.{ℤ}
use lib.ListN.{length, take, drop}
use Rattle.std.proofs.lemmas.List.{length-take-le}
use Rattle.laws.specs.Lists.{at, in_front}
use Rattle.hall.specs.Hall.{Hall, joins}
use Rattle.routes.specs.Reached.{ArcsOf}
use Rattle.shortest.specs.Steps.{OpenedHall, Guided}
use Rattle.routes.specs.Route.{all_signed}
use Rattle.shortest.proofs.Following.{signed-length}
use Rattle.shortest.proofs.Guiding.{guided}
use Rattle.shortest.proofs.route.Goals as goal
use Rattle.shortest.proofs.route.Goals.{After-from-distance}

pub distances_to-distances-requires : goal.distances_to-distances-requires
unfolding ArcsOf
distances_to-distances-requires c = let w = c.requires.3 in (c.requires.1, omega (arith, w.2.arcs.1, w.4))

pub distance-requires : goal.distance-requires
unfolding ArcsOf
distance-requires c = let w = c.requires.3 in (c.requires.0, omega (arith, w.2.arcs.1, w.3))

-- the table guides to the target
guiding : (c : After-from-distance) → let a = c.args in let D = at c.distances_to-distances.result in
    (h : Hall) (e : List ℕ) → OpenedHall h e a.lanes.now a.chosen.now a.arcs.now → a.to ≤ h.n → joins h e ≡ true →
    Guided h e a.to D a.lanes.now c.first_rows-first.result
unfolding ArcsOf
guiding c h e hall inside joined = let a = c.args in
    guided h a.lanes.now a.chosen.now e hall.columns hall.flags (at c.distances_to-distances.result) hall.arcs.1 hall.arcs.0 a.to
    (λ x l u. (c.distances_to-distances.ensures h e hall.arcs inside joined x l u).0) _ c.first_rows-first.ensures

-- the list has room for the route
room : (c : After-from-distance) → c.from-distance.result ≤ length c.args.rows.now
room c = let a = c.args in let w = c.requires.3 in
    omega (arith, (c.distances_to-distances.ensures w.0 w.1 w.2.arcs w.4 w.5 a.from c.requires.0 w.3).1, c.distance.ensures, c.from-distance.ensures, c.requires.2)

-- its first places are as many as the start is far
front : (c : After-from-distance) → let d = c.from-distance.result in (at c.distances_to-distances.result c.args.from ≡ d) × (length (take d c.args.rows.now) ≡ d)
front c = (sym c.distance.ensures ∙ sym c.from-distance.ensures, length-take-le c.from-distance.result c.args.rows.now (room c))

pub slice_bounds-follow-end : goal.slice_bounds-follow-end
slice_bounds-follow-end c = room (goal.at.slice_bounds-follow-end c).After-from-distance

pub slice_bounds-follow-end-2 : goal.slice_bounds-follow-end-2
slice_bounds-follow-end-2 c = sym (front (goal.at.slice_bounds-follow-end-2 c).After-from-distance).1

pub follow-requires : goal.follow-requires
follow-requires c = let a = c.args in let w = c.requires.3 in let p = (goal.at.follow-requires c).After-from-distance in let f = front p in
    (w.0, w.1, a.to, at c.distances_to-distances.result, guiding p w.0 w.1 w.2 w.4 w.5, c.requires.0, w.3, f.0 ∙ sym f.1)

pub returns : goal.returns
unfolding in_front
returns c = let a = c.args in let p = (goal.at.returns c).After-from-distance in let f = front p in
    λ h e hall from_inside to_inside joined.
    let got = c.follow.ensures h e a.to (at c.distances_to-distances.result) (guiding p h e hall to_inside joined) c.requires.0 from_inside (f.0 ∙ sym f.1) in
    let long : length (all_signed got.0) ≡ c.from-distance.result = sym (ap length got.2) ∙ c.follow.auto.rows ∙ f.1 in (
      got.0,
      got.1,
      sym long ∙ signed-length got.0,
      ap (λ (l : List ℤ). l ++ drop c.from-distance.result a.rows.now) got.2 ∙ ap (λ (d : ℕ). all_signed got.0 ++ drop d a.rows.now) (sym long),
    )
