-- A step of repair: what is reached is raised, or the route is flipped; either way what repair keeps is kept, and the slack falls. Assumes nothing.
use mathlib.Core.Path.{◌≡◌, refl, sym, subst}
use mathlib.Core.Bool.{Bool, true, false}
use mathlib.Core.List.{List}
use Prim.Native.Nat.{ℕ, ◌+◌, ◌-◌, ◌^◌, ◌≤◌, ◌<◌}
use native.Mathlib.Omega.{arith}
use lib.Dec.{ltb}
use lib.ListN.{replicate, get_or-replicate}
use lib.Pow.{pow-lt}
use borrow.Author.Tests.{ltb-true}
use Rattle.laws.specs.Lists.{at}
use Rattle.laws.proofs.Booleans.{and_l, and_r}
use Rattle.junctions.specs.Sets.{holds}
use Rattle.digraph.specs.Reach.{Closed, Reach}
use Rattle.digraph.specs.Paths.{Distances}
use Rattle.digraph.specs.Search.{Reached}
use Rattle.digraph.specs.declared.Search.{Search}
use Rattle.digraph.proofs.Reaching.{reached_reach, reached-distances}
use Rattle.digraph.proofs.Closure.{reach_narrow, reach_narrow_lt}
use Rattle.digraph.proofs.Same.{closed_same}
use Rattle.hall.specs.Hall.{Hall, row, count}
use Rattle.dicuts.specs.Shores.{Ranged}
use Rattle.columns.specs.Columns.{flagged, Neighbourhoods}
use Rattle.potentials.specs.Potential.{Under, gap, slack}
use Rattle.potentials.specs.ZeroGraph.{zero_arcs, UnderOn, raised, Raisable}
use Rattle.potentials.specs.Flip.{Turns, Flip}
use Rattle.potentials.specs.Repair.{Repairable}
use Rattle.potentials.proofs.Arcs.{zero_arcs_lt}
use Rattle.potentials.proofs.Raise.{raised_under, raised_parted}
use Rattle.potentials.proofs.Same.{slack_same, repairable_same}
use Rattle.potentials.proofs.Slack.{slack-raised, raised_bound, slack-flipped}
use Rattle.zerograph.specs.Zero.{ZeroGraph}
use Rattle.raise.specs.Rooms.{Room, RaisedFor}
use Rattle.flip.specs.Flips.{turning}
use Rattle.repair.specs.declared.State.{State}
use Rattle.repair.specs.Repairs.{unpaid, Free, Stepped}

module _ (h : Hall) (m : ℕ → Bool) (c : ℕ → ℕ) (potential : List ℕ) (chosen : List Bool) where
  abbrev p : ℕ → ℕ
  p = at potential

  abbrev F : ℕ → Bool
  F = flagged chosen

  -- what is reached in the zero graph from the junction after place b
  module _ (graph : List ℕ) (b reached : ℕ) (small : h.n ≤ 64) (less : b < h.n) (is : ZeroGraph h m c p F graph)
      (reach : Reach 64 (at graph) (2 ^ b) reached) where
    few : 2 ^ b < 2 ^ h.n
    few = pow-lt {i = b} {j = h.n} less

    ranged : (j : ℕ) → 1 ≤ j → j ≤ h.n → at graph j < 2 ^ h.n
    ranged j l u = subst (λ (s : ℕ). s < 2 ^ h.n) (sym (is.inside j l u)) (zero_arcs_lt h m c p F j)

    pub reached_lt : reached < 2 ^ h.n
    reached_lt = reach_narrow_lt h.n (at graph) (2 ^ b) reached small few ranged reach

    pub reached_closed : Closed h.n (zero_arcs h m c p F) reached
    reached_closed =
        closed_same h.n (at graph) (zero_arcs h m c p F) is.inside reached (reach_narrow h.n (at graph) (2 ^ b) reached small few ranged reach).closed

  module _ (rg : Ranged h) (free : Free h m) (start : Repairable h c p F) (i : ℕ) (l : 1 ≤ i) (u : i ≤ count h) (at_row : unpaid h c p F i ≡ true) where
    row_chosen : F i ≡ true
    unfolding unpaid
    row_chosen = and_l (F i) (ltb (p (row h i).to) (p (row h i).from + c i)) at_row

    row-gap : p (row h i).to < p (row h i).from + c i
    unfolding unpaid
    row-gap = ltb-true (p (row h i).to) (p (row h i).from + c i) (and_r (F i) (ltb (p (row h i).to) (p (row h i).from + c i)) at_row)

    under_movable : UnderOn h m c p
    unfolding Under UnderOn
    under_movable k lk uk t = start.under k lk uk

    pub stepped_raise :
        (z : ℕ) (next nears : List ℕ) → h.n ≤ 64 → z < 2 ^ h.n → Closed h.n (zero_arcs h m c p F) z → holds z (row h i).from ≡ false →
        holds z (row h i).to ≡ true → Neighbourhoods h F nears → RaisedFor h m c p F z i (at next) →
        Stepped h c p F (record { chosen = chosen; potential = next; around = nears })
    unfolding Under UnderOn gap
    stepped_raise z next nears small inside closed out into around to =
        let e : ℕ = to.0 in
        let room : Room h m c p F z (gap h c p i) e = to.1 in
        let able : Raisable h m c p F z e = room.able under_movable start.parted in
        let some : 1 ≤ e = room.some rg under_movable start.parted inside closed (omega (arith, row-gap)) in
        let less : slack h c (raised z e p) F + e ≤ slack h c p F = slack-raised h rg m c p F z e closed able (λ k lk uk t. free k lk uk) i l u row_chosen out into in
        let same : (j : ℕ) → 1 ≤ j → j ≤ h.n → raised z e p j ≡ at next j = λ j lj uj. sym (to.2 j lj (omega arith)) in
        let under : UnderOn h m c (raised z e p) = raised_under h rg m c p F z e able under_movable in
        let lower : slack h c (raised z e p) F ≡ slack h c (at next) F = slack_same h rg c c (λ k lk uk. refl) (raised z e p) (at next) same F F (λ k lk uk. refl) in
        record {
          repairable = repairable_same h rg c c (λ k lk uk. refl) (raised z e p) (at next) same F F (λ k lk uk. refl) (record {
            joining = start.joining;
            under = λ k lk uk. under k lk uk (free k lk uk);
            parted = raised_parted h rg m c p F z e able start.parted;
          });
          around = around;
          less = omega (arith, less, some, lower);
          bound = λ j lj uj. omega (arith, to.2 j lj uj, lower, raised_bound h rg m c p F z e j less);
        }

    pub stepped_flip :
        (to : State) → to.potential ≡ potential → flagged to.chosen i ≡ false → Flip h m c p F (flagged to.chosen) →
        Neighbourhoods h (flagged to.chosen) to.around → Stepped h c p F to
    unfolding gap
    stepped_flip to same dropped flip around =
        let less : slack h c p (flagged to.chosen) + gap h c p i ≤ slack h c p F =
        slack-flipped h c p F (flagged to.chosen) (λ k lk uk g e. omega (arith, flip.new k g e)) i l u row_chosen dropped in
        record {
          repairable = rw same (record { joining = flip.joining; under = start.under; parted = flip.parted });
          around = around;
          less = rw same (omega (arith, less, row-gap));
          bound = λ j lj uj. rw same (omega (arith, less));
        }

    -- the row leads back from its tail to its head, and is closed
    pub short_turns : Turns h m c p F (row h i).from (turning false i (row h i).to) (row h i).to
    unfolding Turns turning
    short_turns = (refl, record { low = l; high = u; free = free i l u; chosen = row_chosen; from_is = refl; to_is = refl }, row-gap)

-- a search from the junction after a place holds what is reached, and has the distances
module _ (graph : List ℕ) (a : ℕ) (s : Search) (less : a < 64) (searched : Reached 64 (at graph) (a + 1) s.set (replicate 64 64) s.distances) where
  pub search-reach : s.set < 2 ^ 64 → Reach 64 (at graph) (2 ^ a) s.set
  search-reach few =
      let place : a + 1 - 1 ≡ a = omega arith in
      rw place at (reached_reach 64 (at graph) (a + 1) s.set (replicate 64 64) s.distances (omega arith) (omega arith) searched few)

  pub search-distances : Distances 64 (at graph) (a + 1) (at s.distances)
  search-distances =
      reached-distances 64 (at graph) (a + 1) s.set (replicate 64 64) s.distances (omega arith) (omega arith) searched
      (λ y l u. get_or-replicate 64 (y - 1) 64 0 (omega arith))
