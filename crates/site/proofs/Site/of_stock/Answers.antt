-- `Site::of_stock` has the places of a site without plans. Assumes nothing.
use Rattle.site.proofs.Fields.{started_holds}
use Rattle.site.proofs.Site.of_stock.Goals as goal

pub returns : goal.returns
returns c = started_holds c.args.stock
