-- `Site::has_plan`: more than 256 rows are no plan. Assumes nothing.
use mathlib.Core.Path.{◌≡◌, sym, ◌∙◌}
use mathlib.Core.List.{[]}
use native.Mathlib.Omega.{arith}
use borrow.Author.Tests.{lt-leb}
use Rattle.std.proofs.Common.{rules}
use lib.ListN.{length, get_or}
use Rattle.stock.proofs.Plans.{long_no_plan}
use Rattle.site.specs.Site.{site_of}
use Rattle.site.proofs.Fields.{plan_length}
use Rattle.site.proofs.Site.has_plan.Goals as goal

pub returns-else-self-k-le256 : goal.returns-else-self-k-le256
returns-else-self-k-le256 c =
    let s = c.args.self.now in
    let plan = get_or (site_of s).plans c.args.k [] in
    let long = c.if-self-k-le256.false in
    let size : length plan ≡ get_or s.lengths c.args.k 0 = plan_length s (search rules) c.args.k c.requires.0 c.requires.1 in
    lt-leb (get_or s.lengths c.args.k 0) 256 long ∙ sym (long_no_plan plan (omega (arith, size, long)))
