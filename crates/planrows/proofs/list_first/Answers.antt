-- `planrows::list_first` meets its contract: the first choice, listed and summed. Assumes nothing.
use native.Mathlib.Omega.{arith}
use Rattle.planrows.proofs.Rows.{rows_as}
use Rattle.planrows.proofs.list_first.Goals as goal

pub list_rows-count-requires : goal.list_rows-count-requires
list_rows-count-requires c = let few = c.args.hall.now.lanes.ends.few in (few, omega (arith, few, c.requires))

pub total_of-total-requires : goal.total_of-total-requires
total_of-total-requires c = let x = c.args.hall.now in (x.lanes.ends.few, x.prices_low)

pub overflow_cast-result : goal.overflow_cast-result
overflow_cast-result c = omega (arith, c.list_rows-count.ensures.0, c.args.hall.now.lanes.ends.few)

pub returns : goal.returns
returns c =
    λ h rd is_first.
    rows_as h c.args.hall.now rd c.args.first.now is_first c.args.rows.now _ c.list_rows-count.result c.total_of-total.result
    (c.list_rows-count.ensures.1 h rd.columns.rows) c.total_of-total.ensures
