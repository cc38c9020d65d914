-- The printed list of document 01, byte by byte. Assumes nothing: these are definitions.
use Rattle.std.specs.Prelude.{List, [], ◌∷◌, ◌++◌, ℕ, length, ℤ}
use Rattle.hall.specs.Hall.{Hall, row, count}
use Rattle.hall.specs.File.{Refusal}
use Rattle.hall.specs.Plan.{Cut}
use Rattle.lines.specs.Lines.{text, space, newline, one, number_line, pair_line, four_line, cut_line, level_item}

-- `HALL `, `OPEN `, `TOTAL `, `CUTS `, `LEVELS` and `REFUSED `
unfoldable pub hall_word : List ℕ
hall_word = 72 ∷ 65 ∷ 76 ∷ 76 ∷ space ∷ []

unfoldable pub open_word : List ℕ
open_word = 79 ∷ 80 ∷ 69 ∷ 78 ∷ space ∷ []

unfoldable pub total_word : List ℕ
total_word = 84 ∷ 79 ∷ 84 ∷ 65 ∷ 76 ∷ space ∷ []

unfoldable pub cuts_word : List ℕ
cuts_word = 67 ∷ 85 ∷ 84 ∷ 83 ∷ space ∷ []

unfoldable pub levels_word : List ℕ
levels_word = 76 ∷ 69 ∷ 86 ∷ 69 ∷ 76 ∷ 83 ∷ []

unfoldable pub refused_word : List ℕ
refused_word = 82 ∷ 69 ∷ 70 ∷ 85 ∷ 83 ∷ 69 ∷ 68 ∷ space ∷ []

-- the texts of all items, one after the other
unfoldable pub each : {A : Type 0} → (A → List ℕ) → List A → List ℕ
each f [] = []
each f (x ∷ xs) = f x ++ each f xs

-- THE LINE OF A ROW: its number, from, to, price
unfoldable pub row_line : Hall → (i : ℕ) → List ℕ
row_line h i = four_line i (row h i).from (row h i).to (row h i).price

-- the line of the levels
unfoldable pub levels_line : List ℤ → List ℕ
levels_line ls = text (levels_word ∷ each level_item ls ∷ one newline ∷ [])

-- the lines of a choice: how many rows are opened, then each row's line
unfoldable pub choice_lines : Hall → (choice : List ℕ) → List ℕ
choice_lines h c = text (number_line open_word (length c) ∷ each (row_line h) c ∷ [])

-- the lines of the cuts: how many there are, then each cut's line
unfoldable pub cut_lines : (n : ℕ) → List Cut → List ℕ
cut_lines n ks = text (number_line cuts_word (length ks) ∷ each (cut_line n) ks ∷ [])

-- THE PRINTED LIST of a plan: a choice, its total, the cuts beside it, and their levels
unfoldable pub printed_plan : Hall → (choice : List ℕ) → (total : ℕ) → List Cut → (levels : List ℤ) → List ℕ
printed_plan h c t ks ls =
    text (pair_line hall_word h.n (count h) ∷ choice_lines h c ∷ number_line total_word t ∷ cut_lines h.n ks ∷ levels_line ls ∷ [])

-- THE PRINTED REFUSAL: its number, and its row or 0
unfoldable pub printed_refusal : Refusal → List ℕ
printed_refusal r = pair_line refused_word r.number r.place
