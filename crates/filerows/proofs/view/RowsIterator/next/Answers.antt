-- `filerows::view::RowsIterator::next` gives the rows that are left, one by one: the place ahead has the next, and eight bytes on stand the others. Assumes nothing.
use mathlib.Core.Path.{sym, ap, ◌∙◌}
use native.Mathlib.Omega.{arith}
use lib.ListN.{length}
use Rattle.std.proofs.Common.{rules}
use Rattle.filerows.proofs.Rest.{row-after}
use Rattle.filerows.proofs.view.RowsIterator.next.Goals as goal

pub returns-clause-steps : goal.returns-clause-steps
returns-clause-steps c =
    let rows = c.args.self.now in
    let here = c.in_ok-here in
    rw c.lane_at-lane.ensures (sym here.ensures.same ∙ row-after rows.file.now rows.block_count here.here here.ensures.some)

pub returns-clause-goes : goal.returns-clause-goes
returns-clause-goes c =
    let rows = c.args.self.now in
    let here = c.in_ok-here in
    let fewer = ap length (sym here.ensures.same ∙ row-after rows.file.now rows.block_count here.here here.ensures.some) in
    search (rules, arith, fewer)
