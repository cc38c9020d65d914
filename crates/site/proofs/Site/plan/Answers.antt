-- `Site::plan` is the slice of the rows where the hall's plan stands. Assumes nothing.
use mathlib.Core.Path.{◌≡◌, sym}
use Prim.Native.Nat.{◌+◌, ◌*◌, ◌-◌}
use native.Mathlib.Omega.{arith}
use Rattle.std.proofs.Common.{rules}
use lib.ListN.{get_or}
use Rattle.site.proofs.Fields.{plan_slice}
use Rattle.site.proofs.Site.plan.Goals as goal

pub returns : goal.returns
returns c =
    let s = c.args.self.now in
    let k = c.args.k in
    let size : 256 * k + get_or s.lengths k 0 - 256 * k ≡ get_or s.lengths k 0 = omega arith in
    rw size (sym (plan_slice s (search rules) k c.requires.0 c.requires.1 (search rules) c.requires.2))
