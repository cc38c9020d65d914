-- `plancuts::plan_cuts` meets its contract: the plan's cuts into two arrays of its own, then as structs, or refusal 1 where the list of cuts is too short. Assumes nothing.
use mathlib.Core.Path.{◌≡◌, refl, sym, ◌∙◌}
use Prim.Native.Nat.{◌≤◌}
use native.Mathlib.Omega.{arith}
use lib.ListN.{length}
use Rattle.std.proofs.Common.{rules, Err, length-take-le}
use Rattle.plancuts.proofs.Cuts.{says_short, says_refused, few, says_cuts}
use Rattle.plancuts.proofs.plan_cuts.Goals as goal
use Rattle.plancuts.proofs.plan_cuts.Goals.{In_ok-planned}

pub returns-then-short : goal.returns-then-short
returns-then-short c = let a = c.args in says_short a.file.now a.cuts.now a.levels.now c.if-short.true

pub returns-in_err-planned : goal.returns-in_err-planned
returns-in_err-planned c =
    let a = c.args in
    let passed : c.from_residual.result ≡ Err c.in_err-planned.field-0.0 = search (rules, c.from_residual.ensures) in
    rw passed (says_refused a.file.now a.cuts.now a.levels.now _ _ _ _ _ refl refl c.if-short.false c.in_err-planned.field-0.0 c.in_err-planned.ensures)

-- the cuts fit into both arrays
module _ (c : In_ok-planned) where
  shores_fit : c.in_ok-planned.planned.cuts ≤ length c.plan_pairs.new.shores
  shores_fit = let a = c.args in few a.file.now a.cuts.now a.levels.now _ _ _ _ _ refl refl c.if-short.false c.in_ok-planned.planned c.in_ok-planned.ensures

  weights_fit : c.in_ok-planned.planned.cuts ≤ length c.plan_pairs.new.weights
  weights_fit = omega (arith, shores_fit, c.plan_pairs.auto.shores, c.plan_pairs.auto.weights)

pub slice_bounds-shores-end : goal.slice_bounds-shores-end
slice_bounds-shores-end c = shores_fit (goal.at.slice_bounds-shores-end c).In_ok-planned

pub slice_bounds-write_cuts-end : goal.slice_bounds-write_cuts-end
slice_bounds-write_cuts-end c = sym (length-take-le c.in_ok-planned.planned.cuts c.plan_pairs.new.shores (shores_fit (goal.at.slice_bounds-write_cuts-end c).In_ok-planned))

pub slice_bounds-weights-end : goal.slice_bounds-weights-end
slice_bounds-weights-end c = weights_fit (goal.at.slice_bounds-weights-end c).In_ok-planned

pub slice_bounds-write_cuts-end-2 : goal.slice_bounds-write_cuts-end-2
slice_bounds-write_cuts-end-2 c = sym (length-take-le c.in_ok-planned.planned.cuts c.plan_pairs.new.weights (weights_fit (goal.at.slice_bounds-write_cuts-end-2 c).In_ok-planned))

pub write_cuts-requires : goal.write_cuts-requires
write_cuts-requires c =
    let o = (goal.at.write_cuts-requires c).In_ok-planned in
    let long = length-take-le c.in_ok-planned.planned.cuts c.plan_pairs.new.shores (shores_fit o) in
    record {
      pairs = long ∙ sym (length-take-le c.in_ok-planned.planned.cuts c.plan_pairs.new.weights (weights_fit o));
      room = omega (arith, long, shores_fit o, c.plan_pairs.auto.shores, c.if-short.false);
    }

pub returns : goal.returns
returns c =
    let a = c.args in
    rw c.write_cuts.ensures (says_cuts a.file.now a.cuts.now a.levels.now _ _ _ _ _ refl refl c.if-short.false c.in_ok-planned.planned c.in_ok-planned.ensures)
