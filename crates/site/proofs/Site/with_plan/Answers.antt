-- `Site::with_plan`: a sound site's halls and kits are those of the tidied one. Assumes nothing.
use native.Mathlib.Omega.{arith}
use Rattle.site.proofs.Fields.{plans_count, left_is}
use Rattle.site.proofs.Site.with_plan.Goals as goal

pub add-requires : goal.add-requires
add-requires c =
    let s = c.args.self.now in let tidy = c.tidied-site.ensures in (
      omega (arith, tidy.halls, plans_count s, c.requires.1),
      c.requires.2,
      omega (arith, tidy.left, left_is s, c.requires.3),
    )
