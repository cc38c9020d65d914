-- `fill` fills in the cuts, then the levels of those cuts. Assumes nothing.
use Prim.Native.Nat.{◌≤◌}
use mathlib.Core.Path.{sym, ◌∙◌}
use native.Mathlib.Omega.{arith}
use lib.ListN.{length}
use lib.Seq.{length-take-le}
use Rattle.laws.specs.Lists.{at}
use Rattle.dicuts.specs.Shores.{once}
use Rattle.certificates.specs.Cuts.{cuts}
use Rattle.levels.proofs.Levelling.{cuts_in_front}
use Rattle.cuts.specs.Beside.{highest}
use Rattle.cuts.specs.Filled.{FilledWith}
use Rattle.cuts.proofs.Beside.{filled_near, filled_levelled}
use Rattle.cuts.proofs.fill.Goals as goal
use Rattle.cuts.proofs.fill.Goals.{After-fill-count}

-- once the cuts are filled in
module _ (c : After-fill-count) where
  done : FilledWith (cuts c.requires.4.0 (once c.requires.4.1) (at c.args.potential.now) highest) c.args.shores.now c.args.weights.now c.fill-count.result c.fill-count.new.shores c.fill-count.new.weights
  done = c.fill-count.ensures c.requires.4.0 c.requires.4.1 c.requires.4.2 highest c.requires.4.2.low

  shores_fit : c.fill-count.result ≤ length c.fill-count.new.shores
  shores_fit = omega (arith, done.few, done.shores_size, c.requires.1)

  weights_fit : c.fill-count.result ≤ length c.fill-count.new.weights
  weights_fit = omega (arith, done.few, done.weights_size, c.requires.2)

pub slice_bounds-fill-end : goal.slice_bounds-fill-end
slice_bounds-fill-end c = shores_fit (goal.at.slice_bounds-fill-end c).After-fill-count

pub slice_bounds-fill-end-2 : goal.slice_bounds-fill-end-2
slice_bounds-fill-end-2 c = sym (length-take-le _ _ (shores_fit (goal.at.slice_bounds-fill-end-2 c).After-fill-count))

pub slice_bounds-fill-end-3 : goal.slice_bounds-fill-end-3
slice_bounds-fill-end-3 c = weights_fit (goal.at.slice_bounds-fill-end-3 c).After-fill-count

pub slice_bounds-fill-end-4 : goal.slice_bounds-fill-end-4
slice_bounds-fill-end-4 c = sym (length-take-le _ _ (weights_fit (goal.at.slice_bounds-fill-end-4 c).After-fill-count))

pub fill-requires : goal.fill-requires
fill-requires c =
    let filled = (goal.at.fill-requires c).After-fill-count in
    let long = length-take-le _ _ (shores_fit filled) in
    record {
      pairs = long ∙ sym (length-take-le _ _ (weights_fit filled));
      few = omega (arith, long, (done filled).few);
      room = (c.requires.0, c.requires.3);
      near = rw (cuts_in_front c.fill-count.result c.fill-count.new.shores c.fill-count.new.weights (shores_fit filled) (weights_fit filled)) (filled_near c.requires.4.2 (done filled));
    }

pub returns : goal.returns
returns c =
    let filled = (goal.at.returns c).After-fill-count in
    let levelled = rw (cuts_in_front c.fill-count.result c.fill-count.new.shores c.fill-count.new.weights (shores_fit filled) (weights_fit filled)) at c.fill.ensures in
    λ h F b top under.
    let all = c.fill-count.ensures h F b top under in
    (all, filled_levelled b top all levelled)
