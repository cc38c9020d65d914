-- `admitting::admit` meets its contract: the site with one plan more, or the site as it came. Assumes nothing.
use mathlib.Core.Path.{subst}
use Rattle.refusals.specs.Kinds.{answered}
use Rattle.admitting.specs.Admits.{Admits}
use Rattle.admitting.proofs.Replies.{leaves_refused, leaves_admitted}
use Rattle.admitting.proofs.admit.Goals as goal

pub returns-in-Ok : goal.returns-in-Ok
unfolding answered
returns-in-Ok c = leaves_admitted c.args.site c.args.file.now c.in-Ok.site (subst (Admits c.args.site c.args.file.now) c.in-Ok.is c.with_hall.ensures)

pub returns-in-Err : goal.returns-in-Err
unfolding answered
returns-in-Err c = leaves_refused c.args.site c.args.file.now c.in-Err.kind (subst (Admits c.args.site c.args.file.now) c.in-Err.is c.with_hall.ensures)
