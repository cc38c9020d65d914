-- `Site::opened` counts plan after plan, and ends where one is no plan. Assumes nothing.
use mathlib.Core.Path.{◌≡◌, refl}
use mathlib.Core.Bool.{true, false}
use mathlib.Core.List.{List, []}
use Prim.Native.Nat.{ℕ, ◌<◌}
use native.Mathlib.Omega.{arith}
use Rattle.std.proofs.Common.{rules}
use lib.ListN.{length, get_or, take}
use Rattle.std.proofs.lemmas.List.{take_all}
use Rattle.laws.specs.Lists.{all_in}
use Rattle.laws.proofs.Booleans.{clash, not_true_false}
use Rattle.hall.specs.Hall.{ascends_from}
use Rattle.stock.specs.Site.{all_plans, opened_rows}
use Rattle.stock.proofs.Plans.{plan_short, plans_each, all_next, opened_more}
use Rattle.site.specs.Site.{site_of}
use Rattle.site.proofs.Fields.{plans_count, plan_length}
use Rattle.site.proofs.Site.opened.Goals as goal
use Rattle.site.proofs.Site.opened.Goals.{After-has_plan}

module _ (c : After-has_plan) where
  abbrev plans : List (List ℕ)
  plans = (site_of c.args.self.now).plans

  inside : c.loop-k.k < length plans
  inside = omega (arith, plans_count c.args.self.now, c.loop-k-test.true)

  size : length (get_or plans c.loop-k.k []) ≡ get_or c.args.self.now.lengths c.loop-k.k 0
  size = plan_length c.args.self.now (search rules) c.loop-k.k (search rules) c.requires

pub loop-k-init : goal.loop-k-init
unfolding all_plans all_in opened_rows
loop-k-init c = record { plans = refl; count = refl; low = omega arith }

pub returns-then-not-has_plan : goal.returns-then-not-has_plan
returns-then-not-has_plan c =
    let at = (goal.at.returns-then-not-has_plan c).After-has_plan in
    let broken : ascends_from 1 256 (get_or (plans at) c.loop-k.k []) ≡ false = search rules in
    rw (not_true_false (all_plans (plans at)) (λ e. clash (plans_each (plans at) c.loop-k.k e (inside at)) broken)) refl

pub overflow_add-opened : goal.overflow_add-opened
overflow_add-opened c =
    let at = (goal.at.overflow_add-opened c).After-has_plan in
    let good : ascends_from 1 256 (get_or (plans at) c.loop-k.k []) ≡ true = search rules in
    omega (arith, c.loop-k.invariant.low, plan_short (get_or (plans at) c.loop-k.k []) good, size at, c.requires)

pub loop-k-preserved : goal.loop-k-preserved
loop-k-preserved c =
    let at = (goal.at.loop-k-preserved c).After-has_plan in
    let k = c.loop-k.k in
    let good : ascends_from 1 256 (get_or (plans at) k []) ≡ true = search rules in
    record {
      plans = all_next (plans at) k (inside at) c.loop-k.invariant.plans good;
      count = omega (arith, c.loop-k.invariant.count, size at, opened_more (plans at) k (inside at));
      low = omega (arith, c.loop-k.invariant.low, plan_short (get_or (plans at) k []) good, size at);
    }

pub returns : goal.returns
returns c =
    let ps = (site_of c.args.self.now).plans in
    let all : take c.loop-k.k ps ≡ ps = take_all c.loop-k.k ps (omega (arith, plans_count c.args.self.now, c.loop-k-test.false)) in
    rw (c.loop-k.invariant.count, all, rw all at c.loop-k.invariant.plans) refl
