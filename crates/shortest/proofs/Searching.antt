-- The reach step from the target over the arcs turned round gives the fewest rows to the target. Assumes nothing.
use mathlib.Core.Path.{◌≡◌, refl, ◌∙◌}
use mathlib.Core.Bool.{Bool, true}
use mathlib.Core.List.{List}
use mathlib.Core.Option.{none, some}
use Prim.Native.Nat.{ℕ, ◌≤◌, ◌<◌}
use native.Mathlib.Omega.{arith}
use Rattle.laws.specs.Lists.{at}
use Rattle.laws.proofs.Booleans.{not_false_true}
use Rattle.junctions.specs.Sets.{holds}
use Rattle.digraph.specs.Paths.{TurnedRound}
use Rattle.digraph.specs.Search.{if_held, Reached}
use Rattle.digraph.proofs.Walks.{fewest_back}
use Rattle.hall.specs.Hall.{Hall, member, joins}
use Rattle.dicuts.specs.Shores.{Ranged}
use Rattle.routes.specs.Reached.{FewestTo, ArcsOf}
use Rattle.routes.proofs.ReachStep.{rows_fewest}
use Rattle.routes.proofs.Reached.{joins_steps}
use Rattle.columns.specs.Columns.{flagged, Arcs}
use Rattle.columns.specs.Lanes.{LanesOf}
use Rattle.columns.specs.declared.Lanes.{Lanes}
use Rattle.adjacency.proofs.Arcs.{arcs_ext}
use Rattle.shortest.specs.Steps.{OpenedHall}

-- what the lanes, the flags and their arcs say of a hall and a choice
pub opened-hall : (h : Hall) (c : List ℕ) (l : Lanes) (fs : List Bool) (sets : List ℕ) → LanesOf h l → Ranged h
    → ((i : ℕ) → 1 ≤ i → i ≤ l.count → flagged fs i ≡ member i c) → Arcs h (flagged fs) sets → OpenedHall h c l fs sets
unfolding Arcs ArcsOf
opened-hall h c l fs sets lanes_of rg same are = record {
  columns = record { junctions = refl; rows = lanes_of.rows; tail = lanes_of.tail; head = lanes_of.head };
  flags = same;
  arcs = (
    rg,
    omega (arith, lanes_of.junctions, l.ends.size),
    λ x low u. are x low u ∙ arcs_ext h (flagged fs) (λ i. member i c) (λ i p q. same i p (omega (arith, q, lanes_of.rows))) x,
  );
}

module _ (h : Hall) (c : List ℕ) (out back : ℕ → ℕ) (is : ArcsOf h c out) (turned : TurnedRound 64 out back) (b : ℕ) (low : 1 ≤ b) (high : b ≤ h.n)
    (r : ℕ) (before dist : List ℕ) (found : Reached 64 back b r before dist) where
  held_or_none : (x : ℕ) → 1 ≤ x → x ≤ h.n → FewestTo h c x b (if_held (holds r x) (at dist x))
  unfolding ArcsOf
  held_or_none x l u =
      let k = if_held (holds r x) (at dist x) in
      let small = is.1 in
      rows_fewest h c out x b is l u k (fewest_back 64 out back turned x b l (omega (arith, small)) low (omega (arith, small)) k (found.fewest x l (omega (arith, small))))

  -- in a hall that the choice joins the search holds every junction
  pub fewest_there : joins h c ≡ true → (x : ℕ) → 1 ≤ x → x ≤ h.n → FewestTo h c x b (some (at dist x)) × (at dist x < 64)
  unfolding if_held FewestTo ArcsOf
  fewest_there e x l u =
      let steps = joins_steps h is.0 c e x b l u low high in
      let held : holds r x ≡ true =
      not_false_true (holds r x) (λ f. let no : FewestTo h c x b none = rw f at (held_or_none x l u) in no steps.0 steps.1) in
      (rw held at (held_or_none x l u), found.few x l (omega (arith, is.1)) held)
