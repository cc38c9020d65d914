-- Each turn adds the shores of one threshold more, for which there is room; where no value is higher, all thresholds are added. Assumes nothing.
use Prim.Native.Nat.{◌≤◌, ◌<◌}
use mathlib.Core.Path.{refl}
use native.Mathlib.Omega.{arith}
use Rattle.laws.specs.Lists.{at}
use Rattle.cuts.specs.Thresholds.{NextValue}
use Rattle.cuts.proofs.Nearer.{found_some, found_none}
use Rattle.cuts.proofs.UpperSets.{next_high, upper_fits, added_none, fits_next, added_next, added_all}
use Rattle.cuts.proofs.thresholds.add_thresholds.Goals as goal
use Rattle.cuts.proofs.thresholds.add_thresholds.Goals.{In-Some}

-- where there is a next value
module _ (c : In-Some) where
  found : (c.loop-next.low < c.in-Some.next) × NextValue c.args.n (at c.args.potential.now) c.loop-next.low c.in-Some.next
  found = found_some c.in-Some.next c.in-Some.ensures

  not-over : c.in-Some.next ≤ c.requires.3.0
  not-over = next_high c.requires.3.0 found.1 found.0 c.requires.3.2

pub loop-next-init : goal.loop-next-init
loop-next-init c = added_none c.args.n (at c.args.links.now) (at c.args.mates.now) (at c.args.potential.now) c.requires.3.3.listed

pub overflow_sub-next : goal.overflow_sub-next
overflow_sub-next c = (found (goal.at.overflow_sub-next c).In-Some).1.from_low

pub overflow_cast-next : goal.overflow_cast-next
overflow_cast-next c = record { fits = omega (arith, not-over (goal.at.overflow_cast-next c).In-Some, c.requires.3.1) }

pub add_classes-filled-requires : goal.add_classes-filled-requires
add_classes-filled-requires c =
    let some = (goal.at.add_classes-filled-requires c).In-Some in (
      c.requires.0,
      omega (arith, found some),
      upper_fits c.args.n (at c.args.potential.now) c.in-Some.next c.upper_set-set.result c.upper_set-set.ensures,
      c.requires.1,
      c.requires.2,
      fits_next c.args.n (at c.args.links.now) (at c.args.mates.now) (at c.args.potential.now) (found some).1 c.upper_set-set.ensures c.loop-next.invariant c.requires.3.0 (not-over some) c.requires.3.3,
    )

pub loop-next-smaller : goal.loop-next-smaller
loop-next-smaller c = omega (arith, found (goal.at.loop-next-smaller c).In-Some, not-over (goal.at.loop-next-smaller c).In-Some, c.requires.3.1)

pub loop-next-preserved : goal.loop-next-preserved
loop-next-preserved c =
    added_next c.args.n (at c.args.links.now) (at c.args.mates.now) (at c.args.potential.now) (found (goal.at.loop-next-preserved c).In-Some).1 c.upper_set-set.ensures c.loop-next.invariant c.add_classes-filled.ensures

pub shape_of-shores : goal.shape_of-shores
shape_of-shores c = c.loop-next.invariant.shores_size

pub shape_of-weights : goal.shape_of-weights
shape_of-weights c = c.loop-next.invariant.weights_size

pub returns : goal.returns
returns c = added_all c.args.n (at c.args.links.now) (at c.args.mates.now) (at c.args.potential.now) (found_none (rw c.in_default.is at c.next_value.ensures)) refl c.loop-next.invariant
