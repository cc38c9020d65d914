-- `hallfile::rows::read_rows`: the goals that its invariant leaves. Assumes nothing.
use mathlib.Core.Path.{◌≡◌, refl, sym, ◌∙◌}
use mathlib.Core.Bool.{true}
use mathlib.Core.List.{List, []}
use Prim.Native.Nat.{◌+◌, ◌≤◌}
use native.Mathlib.Omega.{arith}
use lib.Dec.{eqb}
use Rattle.std.proofs.Common.{rules, Err, is_none}
use Rattle.hall.specs.Hall.{Row, hall, count}
use Rattle.hall.specs.File.{all_rows}
use Rattle.refusals.specs.Kinds.{refusal_of, answered}
use Rattle.refusals.proofs.Numbers.{kind_refused, answer_fine}
use Rattle.filerows.specs.Places.{rest_at}
use Rattle.filerows.specs.Lanes.{lane_row}
use Rattle.columns.specs.Columns.{Ends}
use Rattle.columns.specs.Prices.{PricesLow}
use Rattle.hallfile.specs.Record.{padded}
use Rattle.hallfile.specs.Shape.{row_refusal}
use Rattle.hallfile.proofs.Refusals.{fine_row, fine_ends}
use Rattle.hallfile.proofs.Reply.{reply_passed, reply_hall}
use Rattle.hallfile.proofs.Progress.{Progress, progress_none, row_left, progress_ends, progress_more, progress_fine, progress_columns, progress_ends_fit, progress_prices}
use Rattle.hallfile.proofs.rows.read_rows.Goals as goal
use Rattle.hallfile.proofs.rows.read_rows.Goals.{In_ok-lane_refusal, In-None}

-- where a row is not refused
module _ (c : In_ok-lane_refusal) where
  fine : eqb (row_refusal (c.in-Some.k + 1) c.args.n (lane_row c.in-Some.lane)).number 0 ≡ true
  fine = answer_fine c.in_ok-lane_refusal.field-0 _ c.in_ok-lane_refusal.ensures

  small : (c.in-Some.lane.from ≤ 64) × (c.in-Some.lane.to ≤ 64) × ((lane_row c.in-Some.lane).price ≤ 1000000)
  unfolding lane_row
  small =
      let good = fine_row (c.in-Some.k + 1) c.args.n (lane_row c.in-Some.lane) fine in
      let ends = fine_ends c.args.n (lane_row c.in-Some.lane) good.0 in
      (omega (arith, ends.1, c.requires.3), omega (arith, ends.3, c.requires.3), good.1)

-- where all rows are read
module _ (c : In-None) where
  abbrev rows : List Row
  rows = all_rows c.args.blocks 0 c.args.file.now

  so_far : Progress rows (rest_at c.loop-k.k-iterator.iter.file.now c.loop-k.k-iterator.iter.block_count c.loop-k.k-iterator.iter.place)
      c.args.n c.loop-k.tails c.loop-k.heads c.loop-k.prices c.loop-k.fixed c.loop-k.k-iterator.count
  so_far = c.loop-k.invariant

  through : rest_at c.loop-k.k-iterator.iter.file.now c.loop-k.k-iterator.iter.block_count c.loop-k.k-iterator.iter.place ≡ []
  through = c.in-None.ensures.steps.0.0

  ends : Ends c.args.n c.args.count c.loop-k.tails c.loop-k.heads
  ends = progress_ends_fit rows c.args.n _ _ _ _ _ _ so_far through c.args.count c.requires.1 c.requires.2 c.requires.3

  low : PricesLow c.args.count c.loop-k.prices
  low = progress_prices rows c.args.n _ _ _ _ _ _ so_far through c.args.count c.requires.1 c.requires.2

pub loop-k-init : goal.loop-k-init
unfolding padded
loop-k-init c = progress_none (all_rows c.args.blocks 0 c.args.file.now) c.args.n _ _ _ _ (search rules) (search rules) refl refl

pub returns-in_err-lane_refusal : goal.returns-in_err-lane_refusal
unfolding answered
returns-in_err-lane_refusal c =
    let l = c.loop-k in
    let k = c.in_err-lane_refusal.field-0.0 in
    let passed : c.from_residual.result ≡ Err k = search (rules, c.from_residual.ensures) in
    let told : refusal_of k ≡ row_refusal (l.k-iterator.count + 1) c.args.n (lane_row c.in-Some.lane) = rw c.in-Some.ensures.steps.1 at c.in_err-lane_refusal.ensures in
    reply_passed _ _ c.from_residual.result k passed
    (told ∙ sym (progress_ends _ c.args.n _ l.tails l.heads l.prices l.fixed l.k-iterator.count l.invariant (lane_row c.in-Some.lane) _ c.in-Some.ensures.steps.0 (kind_refused k _ told)))

pub overflow_cast-tails : goal.overflow_cast-tails
overflow_cast-tails c = let f = small c in omega (arith, f.0)

pub overflow_cast-heads : goal.overflow_cast-heads
overflow_cast-heads c = let f = small c in omega (arith, f.1)

pub overflow_cast-prices : goal.overflow_cast-prices
unfolding lane_row
overflow_cast-prices c = let f = small (goal.at.overflow_cast-prices c).In_ok-lane_refusal in omega (arith, f.2, c.unwrap_or.ensures)

pub loop-k-preserved : goal.loop-k-preserved
unfolding lane_row
loop-k-preserved c =
    let l = c.loop-k in
    let step = c.in-Some.ensures.steps in
    let r = lane_row c.in-Some.lane in
    let passed = rw step.1 at (fine (goal.at.loop-k-preserved c).In_ok-lane_refusal) in
    let left = row_left _ c.args.n _ l.tails l.heads l.prices l.fixed l.k-iterator.count l.invariant r _ step.0 in
    let unpriced : c.is_none.result ≡ is_none c.in-Some.lane.price = search (rules, c.is_none.ensures) in
    rw (step.1, step.2, c.unwrap_or.ensures, unpriced)
    (progress_more _ c.args.n _ l.tails l.heads l.prices l.fixed l.k-iterator.count l.invariant r _ step.0 (omega (arith, left, c.requires.1, c.requires.2)) passed)

pub invariant_of-result : goal.invariant_of-result
invariant_of-result c = record { ends = ends c }

pub invariant_of-result-2 : goal.invariant_of-result-2
invariant_of-result-2 c = record { prices_low = low (goal.at.invariant_of-result-2 c).In-None }

pub returns : goal.returns
unfolding hall count
returns c =
    let none = (goal.at.returns c).In-None in
    let columns = progress_columns (rows none) c.args.n _ _ _ _ _ _ (so_far none) (through none) in
    reply_hall _ _ _ (progress_fine (rows none) c.args.n _ _ _ _ _ _ (so_far none) (through none))
    (record { junctions = refl; rows = sym c.requires.1; tails = columns.0; heads = columns.1; prices = columns.2; marks = columns.3 })
