-- The printed list and a refusal of document 01, as bytes. Assumes nothing.
use mathlib.Core.Path.{◌≡◌, refl}
use mathlib.Core.List.{List, [], ◌∷◌}
use Prim.Native.Nat.{ℕ}
use lib.IntN.{pos, negsuc}
use Rattle.hall.specs.Hall.{hall, row_of, row, count}
use Rattle.hall.specs.File.{value, field, blocks, offset, long_of, row_in, rows_at, all_rows, hall_in}
use Rattle.hall.specs.Plan.{Cut, total, level_sum, difference, levels_from, levels}
use Rattle.junctions.specs.Sets.{holds}
use Rattle.lines.specs.Lines.{text, digits, decimal, level_text, item, number_line, pair_line, four_line, set_text, cut_line, level_item}
use Rattle.printing.specs.Printed.{hall_word, open_word, total_word, cuts_word, levels_word, refused_word, each, row_line, levels_line, choice_lines, cut_lines, printed_plan, printed_refusal}

-- the 36-byte file of document 01
abbrev file : List ℕ
file =
    3 ∷ 0 ∷ 1 ∷ 0 ∷ 12 ∷ 0 ∷ 0 ∷ 0 ∷ 24 ∷ 0 ∷ 0 ∷ 0
    ∷ 1 ∷ 0 ∷ 2 ∷ 0 ∷ 3 ∷ 0 ∷ 0 ∷ 0 ∷ 2 ∷ 0 ∷ 3 ∷ 0 ∷ 1 ∷ 0 ∷ 0 ∷ 0 ∷ 1 ∷ 0 ∷ 3 ∷ 0 ∷ 4 ∷ 0 ∷ 0 ∷ 0 ∷ []

-- its choice, and the cuts beside it
abbrev choice : List ℕ
choice = 3 ∷ []

abbrev cuts : List Cut
cuts = record { shore = 4; weight = 1 } ∷ record { shore = 6; weight = 3 } ∷ []

-- its eight lines
pub sample_printed : printed_plan (hall_in file) choice (total (hall_in file) choice) cuts (levels (hall_in file) cuts)
    ≡ 72 ∷ 65 ∷ 76 ∷ 76 ∷ 32 ∷ 51 ∷ 32 ∷ 51 ∷ 10
    ∷ 79 ∷ 80 ∷ 69 ∷ 78 ∷ 32 ∷ 49 ∷ 10
    ∷ 51 ∷ 32 ∷ 49 ∷ 32 ∷ 51 ∷ 32 ∷ 52 ∷ 10
    ∷ 84 ∷ 79 ∷ 84 ∷ 65 ∷ 76 ∷ 32 ∷ 52 ∷ 10
    ∷ 67 ∷ 85 ∷ 84 ∷ 83 ∷ 32 ∷ 50 ∷ 10
    ∷ 49 ∷ 32 ∷ 51 ∷ 10
    ∷ 51 ∷ 32 ∷ 50 ∷ 32 ∷ 51 ∷ 10
    ∷ 76 ∷ 69 ∷ 86 ∷ 69 ∷ 76 ∷ 83 ∷ 32 ∷ 48 ∷ 32 ∷ 51 ∷ 32 ∷ 52 ∷ 10 ∷ []
unfolding hall_word open_word total_word cuts_word levels_word digits decimal level_text text item each number_line pair_line four_line row_line set_text cut_line level_item levels_line choice_lines cut_lines printed_plan row row_of count holds hall hall_in field value blocks offset long_of row_in rows_at all_rows total level_sum difference levels_from levels
sample_printed = refl

-- `REFUSED 9 0`
pub refusal-printed : printed_refusal (record { number = 9; place = 0 }) ≡ 82 ∷ 69 ∷ 70 ∷ 85 ∷ 83 ∷ 69 ∷ 68 ∷ 32 ∷ 57 ∷ 32 ∷ 48 ∷ 10 ∷ []
unfolding refused_word digits decimal text item pair_line printed_refusal
refusal-printed = refl

-- `LEVELS 0 -7`
pub below_zero-printed : levels_line (pos 0 ∷ negsuc 6 ∷ []) ≡ 76 ∷ 69 ∷ 86 ∷ 69 ∷ 76 ∷ 83 ∷ 32 ∷ 48 ∷ 32 ∷ 45 ∷ 55 ∷ 10 ∷ []
unfolding levels_word digits decimal level_text text item each level_item levels_line
below_zero-printed = refl

-- `HALL 64 256`
pub full-printed : pair_line hall_word 64 256 ≡ 72 ∷ 65 ∷ 76 ∷ 76 ∷ 32 ∷ 54 ∷ 52 ∷ 32 ∷ 50 ∷ 53 ∷ 54 ∷ 10 ∷ []
unfolding hall_word digits decimal text item pair_line
full-printed = refl
