-- `Site::tidied` adds plan after plan. The invariant: the new site has the first k. Assumes nothing.
use Rattle.stock.proofs.FirstPlans.{first_plans}
use Rattle.site.specs.Site.{site_of, Holds}
use Rattle.site.proofs.Site.tidied.Given as goal

abbrev pub invariant-loop-k : goal.invariant-loop-k
invariant-loop-k l = Holds l.site (first_plans (site_of l.self) l.k)
