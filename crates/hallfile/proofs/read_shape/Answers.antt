-- `hallfile::read_shape` gives the hall, or the first of the refusals 2 to 8: its tests stand in the fixed order. Assumes nothing.
use mathlib.Core.Bool.{true}
use mathlib.Core.Path.{◌≡◌, sym, ◌∙◌}
use Rattle.refusals.specs.declared.Kind.TheVariants.{FileLength, JunctionCount, Blocks, RowCount}
use Rattle.refusals.specs.Kinds.{refusal_of}
use Rattle.hallfile.proofs.Reply.{reply_refused}
use Rattle.hallfile.proofs.Order.{length_good, junctions_good, table_good, refuse_length, refuse_junctions, refuse_table, refuse_count, refuse_rows, blocks_is, hall_is}
use Rattle.hallfile.proofs.read_shape.Goals as goal
use Rattle.hallfile.proofs.read_shape.Goals.{After-number-n, After-table_fits, Else-not-table_fits}

-- where the number of junctions is known: 2 is not met
module _ (c : After-number-n) where
  long : length_good c.args.file.now ≡ true
  long = sym c.within.ensures ∙ c.if-not-within.false

-- where the table is tried: 3 is not met
module _ (c : After-table_fits) where
  some : junctions_good c.number-n.result ≡ true
  some = sym c.within-2.ensures ∙ c.if-not-within-2.false

-- where the rows are to be counted: 4 is not met
module _ (c : Else-not-table_fits) where
  keeps : table_good c.number-blocks.result c.args.file.now ≡ true
  keeps = sym c.table_fits.ensures ∙ c.if-not-table_fits.false

pub returns-then-not-within : goal.returns-then-not-within
unfolding refusal_of
returns-then-not-within c = reply_refused _ _ FileLength (sym (refuse_length c.args.file.now (sym c.within.ensures ∙ c.if-not-within.true)))

pub returns-then-not-within-2 : goal.returns-then-not-within-2
unfolding refusal_of
returns-then-not-within-2 c = reply_refused _ _ JunctionCount
    (sym (refuse_junctions c.args.file.now c.number-n.result c.number-n.ensures.0 (long (goal.at.returns-then-not-within-2 c).After-number-n) (sym c.within-2.ensures ∙ c.if-not-within-2.true)))

pub returns-then-not-table_fits : goal.returns-then-not-table_fits
unfolding refusal_of
returns-then-not-table_fits c = let at = goal.at.returns-then-not-table_fits c in
    reply_refused _ _ Blocks
    (sym (refuse_table c.args.file.now c.number-n.result c.number-n.ensures.0 (long at.After-number-n) c.number-blocks.result c.number-blocks.ensures.0 (some at.After-table_fits)
    (sym c.table_fits.ensures ∙ c.if-not-table_fits.true)))

pub returns-then-count-gt-ROWS : goal.returns-then-count-gt-ROWS
unfolding refusal_of
returns-then-count-gt-ROWS c = let at = goal.at.returns-then-count-gt-ROWS c in
    reply_refused _ _ RowCount
    (sym (refuse_count c.args.file.now c.number-n.result c.number-n.ensures.0 (long at.After-number-n) c.number-blocks.result c.number-blocks.ensures.0 (some at.After-table_fits)
    c.row_count-count.result c.row_count-count.ensures (keeps at.Else-not-table_fits) c.if-count-gt-ROWS.true))

pub returns : goal.returns
returns c = let at = goal.at.returns c in
    let file = c.args.file.now in
    let is = blocks_is file c.number-blocks.result c.number-blocks.ensures.0 in
    let rows = refuse_rows file c.number-n.result c.number-n.ensures.0 (long at.After-number-n) c.number-blocks.result c.number-blocks.ensures.0 (some at.After-table_fits)
    c.row_count-count.result c.row_count-count.ensures (keeps at.Else-not-table_fits) c.if-count-gt-ROWS.false in
    rw (rows, sym (hall_is file c.number-n.result c.number-n.ensures.0), is) c.read_rows.ensures
