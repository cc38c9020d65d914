-- `Site::add` puts a plan where the next one stands. Assumes nothing.
use native.Mathlib.Omega.{arith}
use Rattle.site.proofs.Fields.{added_holds}
use Rattle.site.proofs.Site.add.Goals as goal

pub returns : goal.returns
returns c =
    λ t h.
    rw c.copy_from_slice.ensures.after (added_holds c.args.self.now t c.args.plan.now _ h (omega (arith, c.requires.0, h.halls)) c.requires.1 (omega arith))
