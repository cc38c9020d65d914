-- Each turn finds the component of the lowest junction that is left, adds its shore, and leaves fewer junctions. Assumes nothing.
use mathlib.Core.Path.{◌≡◌}
use mathlib.Core.List.{List}
use Prim.Native.Nat.{ℕ, ◌^◌, ◌-◌, ◌<◌, ◌≤◌}
use native.Mathlib.Omega.{arith}
use lib.Bits.{bit_and, bit_xor}
use lib.Count.{count_trailing_zeros, trailing_le}
use Rattle.laws.specs.Lists.{at}
use Rattle.certificates.specs.Pieces.{inside}
use Rattle.junctions.proofs.Bits.{trailing_lt}
use Rattle.junctions.proofs.Without.{without_is}
use Rattle.digraph.specs.Reach.{Reach}
use Rattle.shorelist.specs.Listed.{Fits, Added, alone}
use Rattle.setshores.specs.Shores.{Components}
use Rattle.setshores.proofs.Rest.{lowest_reach}
use Rattle.setshores.proofs.Components.{components_start, components_end, components_fits, components_more, components_less}
use Rattle.setshores.proofs.add_components.Goals as goal
use Rattle.setshores.proofs.add_components.Goals.{After-reach-component}

-- within the loop, once a component is found
module _ (c : After-reach-component) where
  some : 0 < c.loop-left.left
  some = omega arith

  -- what lies outside the component, and what is left without it
  outside_it : bit_and c.full-all.result.0 (18446744073709551615 - c.reach-component.result.set) ≡ bit_xor c.full-all.result.0 (bit_and c.full-all.result.0 c.reach-component.result.set)
  outside_it = without_is c.full-all.result.0 c.reach-component.result.set (omega (arith, c.full-all.type_inv)) (omega (arith, c.reach-component.type_inv))

  rest_is : bit_and c.loop-left.left (18446744073709551615 - c.reach-component.result.set) ≡ bit_xor c.loop-left.left (bit_and c.loop-left.left c.reach-component.result.set)
  rest_is = without_is c.loop-left.left c.reach-component.result.set c.loop-left.invariant.fits (omega (arith, c.reach-component.type_inv))

  arcs_inside : (j : ℕ) → 1 ≤ j → j ≤ 64 → at c.within-inside.result j ≡ inside (bit_xor c.full-all.result.0 (bit_and c.full-all.result.0 c.args.class)) (at c.args.links.now) j
  arcs_inside = rw (without_is c.full-all.result.0 c.args.class (omega (arith, c.full-all.type_inv)) (omega arith)) at c.within-inside.ensures.1

  reached : Reach 64 (at c.within-inside.result) (2 ^ count_trailing_zeros 64 c.loop-left.left) c.reach-component.result.set
  reached = lowest_reach (at c.within-inside.result) c.loop-left.left c.reach-component.result.set _ _ some c.loop-left.invariant.fits (omega (arith, c.reach-component.type_inv)) c.reach-component.ensures

  fits : Fits c.loop-left.filled c.loop-left.shores c.loop-left.weights (alone (bit_and c.full-all.result.0 (18446744073709551615 - c.reach-component.result.set)) c.args.weight)
  fits = rw outside_it (components_fits c.args.class c.args.weight c.full-all.ensures c.requires.0 c.loop-left.invariant c.requires.2 some arcs_inside reached c.requires.3)

  less : bit_and c.loop-left.left (18446744073709551615 - c.reach-component.result.set) < c.loop-left.left
  less = rw rest_is (components_less c.args.class c.args.weight c.full-all.ensures c.requires.0 c.loop-left.invariant c.requires.2 some arcs_inside reached)

  more : {count : ℕ} {shores weights : List ℕ} → Added c.loop-left.filled c.loop-left.shores c.loop-left.weights (alone (bit_and c.full-all.result.0 (18446744073709551615 - c.reach-component.result.set)) c.args.weight) count shores weights
      → Components c.args.n (at c.args.links.now) c.args.class c.args.weight c.args.count c.args.shores.now c.args.weights.now (bit_and c.loop-left.left (18446744073709551615 - c.reach-component.result.set)) count shores weights
  more added = rw rest_is (components_more c.args.class c.args.weight c.full-all.ensures c.requires.0 c.loop-left.invariant c.requires.2 some arcs_inside reached (rw outside_it at added))

pub loop-left-init : goal.loop-left-init
loop-left-init c =
    rw (without_is c.full-all.result.0 c.args.class (omega (arith, c.full-all.type_inv)) (omega arith)) (components_start c.args.class c.args.weight c.full-all.ensures c.requires.0 c.requires.3.listed)

pub overflow_cast-left : goal.overflow_cast-left
overflow_cast-left c = record { fits = omega (arith, trailing_le 64 c.loop-left.left) }

pub overflow_add-left : goal.overflow_add-left
overflow_add-left c = record { fits = omega (arith, trailing_le 64 c.loop-left.left) }

pub reach-component-requires : goal.reach-component-requires
reach-component-requires c = (omega arith, omega (arith, trailing_lt 64 c.loop-left.left (omega arith) c.loop-left.invariant.fits))

pub add-filled-requires : goal.add-filled-requires
add-filled-requires c =
    let found = (goal.at.add-filled-requires c).After-reach-component in
    (c.requires.1, fits found)

pub loop-left-smaller : goal.loop-left-smaller
loop-left-smaller c =
    let found = (goal.at.loop-left-smaller c).After-reach-component in
    less found

pub loop-left-preserved : goal.loop-left-preserved
loop-left-preserved c =
    let found = (goal.at.loop-left-preserved c).After-reach-component in
    more found c.add-filled.ensures

pub shape_of-shores : goal.shape_of-shores
shape_of-shores c = c.loop-left.invariant.adding.shores_size

pub shape_of-weights : goal.shape_of-weights
shape_of-weights c = c.loop-left.invariant.adding.weights_size

pub returns : goal.returns
returns c = components_end c.args.class c.args.weight c.full-all.ensures c.requires.0 c.loop-left.invariant c.loop-left-test.false
