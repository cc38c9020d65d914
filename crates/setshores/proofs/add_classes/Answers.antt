-- Each turn finds the class of the lowest junction that is left, adds the shores of the class, and leaves fewer junctions. Assumes nothing.
use mathlib.Core.Path.{◌≡◌}
use mathlib.Core.List.{List}
use Prim.Native.Nat.{ℕ, ◌^◌, ◌-◌, ◌<◌}
use native.Mathlib.Omega.{arith}
use lib.Bits.{bit_and, bit_xor}
use lib.Count.{count_trailing_zeros, trailing_le}
use Rattle.laws.specs.Lists.{at}
use Rattle.junctions.proofs.Bits.{trailing_lt}
use Rattle.junctions.proofs.Without.{without_is}
use Rattle.digraph.specs.Reach.{Reach}
use Rattle.shorelist.specs.Listed.{Fits, Added}
use Rattle.setshores.specs.Shores.{components_weigh, Classes}
use Rattle.setshores.proofs.Rest.{lowest_reach}
use Rattle.setshores.proofs.Components.{classes_start, classes_end, classes_fits, classes_more, classes_less}
use Rattle.setshores.proofs.add_classes.Goals as goal
use Rattle.setshores.proofs.add_classes.Goals.{After-reach-class}

-- within the loop, once a class is found
module _ (c : After-reach-class) where
  abbrev links : ℕ → ℕ
  links = at c.args.links.now

  some : 0 < c.loop-left.left
  some = omega arith

  -- what is left without the class
  rest_is : bit_and c.loop-left.left (18446744073709551615 - c.reach-class.result.set) ≡ bit_xor c.loop-left.left (bit_and c.loop-left.left c.reach-class.result.set)
  rest_is = without_is c.loop-left.left c.reach-class.result.set c.loop-left.invariant.fits (omega (arith, c.reach-class.type_inv))

  reached : Reach 64 (at c.within-inside.result) (2 ^ count_trailing_zeros 64 c.loop-left.left) c.reach-class.result.set
  reached = lowest_reach (at c.within-inside.result) c.loop-left.left c.reach-class.result.set _ _ some c.loop-left.invariant.fits (omega (arith, c.reach-class.type_inv)) c.reach-class.ensures

  fits : Fits c.loop-left.filled c.loop-left.shores c.loop-left.weights (components_weigh c.args.n links c.reach-class.result.set c.args.weight)
  fits = classes_fits links c.args.weight c.requires.0 c.requires.2 c.loop-left.invariant c.requires.4 some c.within-inside.ensures.1 reached c.requires.5

  less : bit_xor c.loop-left.left (bit_and c.loop-left.left c.reach-class.result.set) < c.loop-left.left
  less = classes_less links c.args.weight c.requires.0 c.requires.2 c.loop-left.invariant c.requires.4 some c.within-inside.ensures.1 reached

  more : {count : ℕ} {shores weights : List ℕ} → Added c.loop-left.filled c.loop-left.shores c.loop-left.weights (components_weigh c.args.n links c.reach-class.result.set c.args.weight) count shores weights
      → Classes c.args.n links (at c.args.mates.now) c.args.set c.args.weight c.args.count c.args.shores.now c.args.weights.now (bit_xor c.loop-left.left (bit_and c.loop-left.left c.reach-class.result.set)) count shores weights
  more = classes_more links c.args.weight c.requires.0 c.requires.2 c.loop-left.invariant c.requires.4 some c.within-inside.ensures.1 reached

pub loop-left-init : goal.loop-left-init
loop-left-init c = classes_start (at c.args.links.now) c.args.weight c.requires.0 c.requires.2 c.requires.5.listed

pub overflow_cast-left : goal.overflow_cast-left
overflow_cast-left c = record { fits = omega (arith, trailing_le 64 c.loop-left.left) }

pub overflow_add-left : goal.overflow_add-left
overflow_add-left c = record { fits = omega (arith, trailing_le 64 c.loop-left.left) }

pub reach-class-requires : goal.reach-class-requires
reach-class-requires c = (omega arith, omega (arith, trailing_lt 64 c.loop-left.left (omega arith) c.loop-left.invariant.fits))

pub add_components-filled-requires : goal.add_components-filled-requires
add_components-filled-requires c = (c.requires.0, c.requires.1, c.requires.3, fits (goal.at.add_components-filled-requires c).After-reach-class)

pub loop-left-smaller : goal.loop-left-smaller
loop-left-smaller c =
    let found = (goal.at.loop-left-smaller c).After-reach-class in
    rw (rest_is found) (less found)

pub loop-left-preserved : goal.loop-left-preserved
loop-left-preserved c =
    let found = (goal.at.loop-left-preserved c).After-reach-class in
    rw (rest_is found) (more found c.add_components-filled.ensures)

pub shape_of-shores : goal.shape_of-shores
shape_of-shores c = c.loop-left.invariant.adding.shores_size

pub shape_of-weights : goal.shape_of-weights
shape_of-weights c = c.loop-left.invariant.adding.weights_size

pub returns : goal.returns
returns c = classes_end (at c.args.links.now) c.args.weight c.requires.0 c.requires.2 c.loop-left.invariant c.loop-left-test.false
