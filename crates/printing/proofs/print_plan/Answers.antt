-- `print_plan` appends the parts of the list one after the other: the hall's line, the choice, the total, the cuts, the levels. The limits of a hall bound each part, so that the next one fits. Assumes nothing.
use Prim.Native.Nat.{ℕ, ◌≤◌}
use mathlib.Core.List.{[], ◌∷◌}
use lib.IntN.{ℤ}
use Rattle.std.proofs.Common.{List, ap, ap₂, ◌≡◌, length, length-append, arith}
use Rattle.std.proofs.lemmas.Grind.{common_steps}
use Rattle.cutlist.specs.Cuts.{cuts_of}
use Rattle.dicuts.proofs.Choices.{choice_length}
use Rattle.hall.specs.Plan.{Cut}
use Rattle.lines.specs.Lines.{text, number_line, pair_line}
use Rattle.lines.proofs.Lines.{number_line_short, pair_line_short}
use Rattle.printing.specs.Printed.{printed_plan, choice_lines, cut_lines, levels_line, hall_word, total_word}
use Rattle.printing.specs.declared.Drawn.{Drawn}
use Rattle.printing.specs.Recorded.{hall_drawn}
use Rattle.printing.proofs.Recorded.{drawn_count, drawn_junctions}
use Rattle.printing.proofs.print_plan.Goals as goal
use Rattle.printing.proofs.print_plan.Goals.{After-push_choice, After-push_cuts, After-push_number_line, After-push_pair_line, Start}

module _ (c : Start) where
  rows_few : length c.args.rows.now ≤ 256
  rows_few = omega (arith, c.requires.few, drawn_count c.args.hall.now, choice_length (hall_drawn c.args.hall.now) c.args.rows.now c.requires.choice)

  hall-short : length (pair_line (72 ∷ 65 ∷ 76 ∷ 76 ∷ 32 ∷ []) c.args.hall.now.n c.args.hall.now.count) ≤ 47
  hall-short = pair_line_short (72 ∷ 65 ∷ 76 ∷ 76 ∷ 32 ∷ []) c.args.hall.now.n c.args.hall.now.count (omega (arith, c.requires.junctions)) (omega (arith, c.requires.few))

-- where each part ends
hall_end : (c : After-push_pair_line) → length c.push_pair_line.new.self ≤ 47
hall_end c = omega (arith, hall-short (goal.at.After-push_pair_line c).Start, ap length c.push_pair_line.ensures, ap length c.clear.ensures, length-append {A = ℕ})

choice_end : (c : After-push_choice) → length c.push_choice.new.text ≤ 7753
choice_end c = omega (arith, rows_few (goal.at.After-push_choice c).Start, hall_end (goal.at.After-push_choice c).After-push_pair_line, c.push_choice.ensures.short)

total_end : (c : After-push_number_line) → length c.push_number_line.new.self ≤ 7780
total_end c =
    omega (arith, choice_end (goal.at.After-push_number_line c).After-push_choice, ap length c.push_number_line.ensures, number_line_short (84 ∷ 79 ∷ 84 ∷ 65 ∷ 76 ∷ 32 ∷ []) c.from.result (omega arith), length-append {A = ℕ})

cuts_end : (c : After-push_cuts) → length c.push_cuts.new.text ≤ 33181
cuts_end c = omega (arith, total_end (goal.at.After-push_cuts c).After-push_number_line, c.requires.cuts, c.push_cuts.ensures.short)

pub push_pair_line-requires : goal.push_pair_line-requires
push_pair_line-requires c = omega (arith, hall-short (goal.at.push_pair_line-requires c).Start, ap length c.clear.ensures)

pub push_choice-requires-clause-room : goal.push_choice-requires-clause-room
push_choice-requires-clause-room c = omega (arith, rows_few (goal.at.push_choice-requires-clause-room c).Start, hall_end (goal.at.push_choice-requires-clause-room c).After-push_pair_line)

pub push_number_line-requires : goal.push_number_line-requires
push_number_line-requires c =
    omega (arith, choice_end (goal.at.push_number_line-requires c).After-push_choice, number_line_short (84 ∷ 79 ∷ 84 ∷ 65 ∷ 76 ∷ 32 ∷ []) c.from.result (omega arith))

pub push_cuts-requires-clause-room : goal.push_cuts-requires-clause-room
push_cuts-requires-clause-room c = omega (arith, total_end (goal.at.push_cuts-requires-clause-room c).After-push_number_line, c.requires.cuts)

pub push_levels-requires : goal.push_levels-requires
push_levels-requires c = omega (arith, cuts_end (goal.at.push_levels-requires c).After-push_cuts, c.requires.leveled)

-- the parts, the hall's line from the columns
plan_parts : (d : Drawn) (c : List ℕ) (t : ℕ) (ks : List Cut) (ls : List ℤ) → printed_plan (hall_drawn d) c t ks ls
    ≡ text (pair_line hall_word d.n d.count ∷ choice_lines (hall_drawn d) c ∷ number_line total_word t ∷ cut_lines d.n ks ∷ levels_line ls ∷ [])
unfolding printed_plan
plan_parts d c t ks ls =
    ap₂ (λ (n m : ℕ). text (pair_line hall_word n m ∷ choice_lines (hall_drawn d) c ∷ number_line total_word t ∷ cut_lines n ks ∷ levels_line ls ∷ []))
    (drawn_junctions d) (drawn_count d)

pub returns : goal.returns
unfolding hall_word total_word text
returns c =
    let parts = plan_parts c.args.hall.now c.args.rows.now c.args.total (cuts_of c.args.cuts.now) c.args.levels.now in
    let d = c.push_choice.ensures.appended in
    let f = c.push_cuts.ensures.appended in
    grind (arith, common_steps)
