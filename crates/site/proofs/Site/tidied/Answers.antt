-- `Site::tidied`: a sound site's plans fit one after another, and at the end all are there. Assumes nothing.
use mathlib.Core.Path.{sym, ap, ◌∙◌, subst}
use mathlib.Core.List.{[]}
use Prim.Native.Nat.{ℕ, ◌≤◌, ◌<◌}
use native.Mathlib.Omega.{arith}
use Rattle.std.proofs.Common.{rules}
use lib.ListN.{length, get_or}
use Rattle.stock.specs.Site.{site, admitted}
use Rattle.stock.proofs.Plans.{sound_parts, plan_short, plans_each}
use Rattle.stock.proofs.FirstPlans.{first_none, first_count, first_next, first_room, first_all}
use Rattle.site.specs.Site.{site_of, Holds}
use Rattle.site.proofs.Fields.{stock_is, plans_count, plan_length}
use Rattle.site.proofs.Site.tidied.Goals as goal

pub loop-k-init : goal.loop-k-init
loop-k-init c = let s = c.args.self.now in subst (Holds c.of_stock-site.result) (ap (λ (k : ℕ). site k k []) (sym (stock_is s)) ∙ first_none (site_of s)) c.of_stock-site.ensures

pub plan-requires : goal.plan-requires
plan-requires c =
    let s = c.args.self.now in
    let k = c.loop-k.k in
    let parts = sound_parts (site_of s) c.requires in
    let few : s.halls ≤ 8 = omega (arith, parts.plans_few, plans_count s) in
    let short = plan_short (get_or (site_of s).plans k []) (plans_each (site_of s).plans k parts.plans_good (omega (arith, plans_count s, c.loop-k-test.true))) in
    (c.loop-k-test.true, few, omega (arith, short, plan_length s (search rules) k c.loop-k-test.true few))

pub add-requires : goal.add-requires
add-requires c =
    let s = c.args.self.now in
    let t = site_of s in
    let k = c.loop-k.k in
    let parts = sound_parts t c.requires in
    let inside : k < length t.plans = omega (arith, plans_count s, c.loop-k-test.true) in
    let size = ap length c.plan.ensures in
    let so_far = c.loop-k.invariant in (
      omega (arith, so_far.halls, first_count t k (omega (arith, inside)), inside, parts.plans_few),
      omega (arith, size, plan_short (get_or t.plans k []) (plans_each t.plans k parts.plans_good inside)),
      omega (arith, size, so_far.left, first_room t k inside c.requires),
    )

pub loop-k-preserved : goal.loop-k-preserved
loop-k-preserved c =
    let s = c.args.self.now in
    let t = site_of s in
    let k = c.loop-k.k in
    let inside : k < length t.plans = omega (arith, plans_count s, c.loop-k-test.true) in
    subst (Holds c.add.new.self) (ap (admitted _) c.plan.ensures ∙ first_next t k inside) (c.add.ensures _ c.loop-k.invariant)

pub returns : goal.returns
returns c =
    let s = c.args.self.now in
    subst (Holds c.loop-k.site) (first_all (site_of s) c.loop-k.k c.requires (omega (arith, plans_count s, c.loop-k-test.false))) c.loop-k.invariant
