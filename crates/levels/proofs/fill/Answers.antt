-- Each turn puts in the level of one junction more, which fits its place. Assumes nothing.
use mathlib.Core.Path.{◌≡◌, ◌∙◌}
use mathlib.Core.List.{List}
use mir.Syntax.{w32}
use mir.ValLaws.{to_z-of_z}
use native.Mathlib.Omega.{arith}
use lib.ListN.{length}
use Rattle.hall.specs.Plan.{Cut}
use Rattle.shorelist.specs.Listed.{place_of}
use Rattle.levels.specs.Levels.{cuts_in}
use Rattle.levels.proofs.Levelling.{levelled_none, levelled_more, near_fits, level_is}
use Rattle.levels.proofs.fill.Goals as goal
use Rattle.levels.proofs.fill.Goals.{Start}

-- the cuts of the lists
abbrev cuts-at : Start → List Cut
cuts-at c = cuts_in (length c.args.shores.now) 0 (place_of c.args.shores.now) (place_of c.args.weights.now)

pub loop-k-init : goal.loop-k-init
loop-k-init c = levelled_none (cuts-at (goal.at.loop-k-init c).Start) c.args.levels.now

pub less-requires : goal.less-requires
less-requires c = near_fits (cuts-at (goal.at.less-requires c).Start) c.loop-k.k c.level_sum.ensures c.level_sum-base.ensures c.args.n c.requires.near (omega arith)

pub loop-k-preserved : goal.loop-k-preserved
loop-k-preserved c =
    levelled_more (cuts-at (goal.at.loop-k-preserved c).Start) c.loop-k.k c.args.levels.now c.loop-k.levels _ (omega arith)
    (to_z-of_z w32 c.less.result (record { sfits = c.less.type_inv }) ∙ c.less.ensures ∙ level_is (cuts-at (goal.at.loop-k-preserved c).Start) c.loop-k.k c.level_sum.ensures c.level_sum-base.ensures) c.loop-k.invariant

pub returns : goal.returns
returns c = let e : c.loop-k.k ≡ c.args.n = omega arith in rw e at c.loop-k.invariant
