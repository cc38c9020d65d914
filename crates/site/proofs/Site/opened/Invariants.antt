-- `Site::opened` goes from plan to plan. The invariant: the first k are plans, and their rows are counted. Assumes nothing.
use Rattle.std.proofs.Common.{◌≡◌, true, ◌≤◌, ◌*◌, take}
use Rattle.stock.specs.Site.{all_plans, opened_rows}
use Rattle.site.specs.Site.{site_of}
use Rattle.site.proofs.Site.opened.Given as goal

abbrev pub invariant-loop-k : goal.invariant-loop-k
invariant-loop-k l = record {
  plans : all_plans (take l.k (site_of l.self).plans) ≡ true;
  count : l.opened ≡ opened_rows (take l.k (site_of l.self).plans);
  low : l.opened ≤ 256 * l.k;
}
