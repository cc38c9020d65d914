-- Each turn appends the next row's line, which the columns hold. Assumes nothing.
use Prim.Native.Nat.{ℕ, ◌≤◌}
use Rattle.std.proofs.Common.{length, get_or, sym, ap, ◌∙◌, ◌++◌, List, ◌∷◌, [], arith, length-append}
use Rattle.std.proofs.lemmas.Grind.{common_steps}
use Rattle.lines.specs.Lines.{text}
use Rattle.lines.proofs.Lines.{number_line_short}
use Rattle.printing.specs.Printed.{choice_lines, open_word}
use Rattle.printing.proofs.Recorded.{drawn_line_is, drawn_choice_at}
use Rattle.printing.proofs.Each.{each_none, each_next, each_all}
use Rattle.printing.proofs.push_choice.Goals as goal
use Rattle.printing.proofs.push_choice.Goals.{In-loop-row}

-- within the loop: the number is that of a row
module _ (c : In-loop-row) where
  is_row : (1 ≤ get_or c.args.rows.now c.loop-row.row-index 0) × (get_or c.args.rows.now c.loop-row.row-index 0 ≤ c.args.hall.now.count)
  is_row = drawn_choice_at c.args.hall.now c.args.rows.now c.loop-row.row-index c.requires.choice c.loop-row-test.true

  place_low : get_or c.args.rows.now c.loop-row.row-index 0 ≤ 256
  place_low = omega (arith, is_row, c.requires.few)

pub push_number_line-requires : goal.push_number_line-requires
push_number_line-requires c = omega (arith, number_line_short (79 ∷ 80 ∷ 69 ∷ 78 ∷ 32 ∷ []) (length c.args.rows.now) (omega arith))

pub loop-row-init : goal.loop-row-init
loop-row-init c = each_none

pub overflow_sub-place : goal.overflow_sub-place
overflow_sub-place c = (is_row (goal.at.overflow_sub-place c).In-loop-row).0

pub bounds-hall-place : goal.bounds-hall-place
bounds-hall-place c = omega (arith, place_low (goal.at.bounds-hall-place c).In-loop-row)

pub bounds-hall-place-in-loop-row : goal.bounds-hall-place-in-loop-row
bounds-hall-place-in-loop-row c = omega (arith, place_low (goal.at.bounds-hall-place-in-loop-row c).In-loop-row)

pub bounds-hall-place-in-loop-row-2 : goal.bounds-hall-place-in-loop-row-2
bounds-hall-place-in-loop-row-2 c = omega (arith, place_low (goal.at.bounds-hall-place-in-loop-row-2 c).In-loop-row)

pub push_row_line-requires : goal.push_row_line-requires
push_row_line-requires c = omega (arith, c.requires.room, ap length c.push_number_line.ensures, number_line_short (79 ∷ 80 ∷ 69 ∷ 78 ∷ 32 ∷ []) (length c.args.rows.now) (omega arith), length-append {A = ℕ})

pub loop-row-preserved : goal.loop-row-preserved
loop-row-preserved c =
    let h = c.args.hall.now in
    let i = get_or c.args.rows.now c.loop-row.row-index 0 in
    let row = is_row (goal.at.loop-row-preserved c).In-loop-row in
    let line = drawn_line_is h i row.0 row.1 in
    each_next 0 c.loop-row-test.true c.loop-row.invariant (c.push_row_line.ensures.appended ∙ ap (λ (l : List ℕ). c.loop-row.text ++ l) (sym line)) (rw line c.push_row_line.ensures.short)

pub returns-clause-appended : goal.returns-clause-appended
unfolding choice_lines open_word text
returns-clause-appended c = let e = each_all c.loop-row-test.false c.loop-row.invariant in let f = c.push_number_line.ensures in grind (arith, common_steps)

pub returns-clause-short : goal.returns-clause-short
returns-clause-short c = omega (arith, c.loop-row.invariant.short, ap length c.push_number_line.ensures, number_line_short (79 ∷ 80 ∷ 69 ∷ 78 ∷ 32 ∷ []) (length c.args.rows.now) (omega arith), length-append {A = ℕ})
