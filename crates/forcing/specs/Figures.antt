-- A row's figures: the least totals of the joining choices with it and of those without it. Assumes nothing: these are definitions.
use Rattle.std.specs.Prelude.{◌≡◌, Bool, true, false, List, ℕ, ◌≤◌, Option, Some, None}
use Rattle.hall.specs.Hall.{Hall, row, is_choice, joins, member}
use Rattle.hall.specs.Plan.{total}

-- a joining choice that has row i, or has it not, as `has` says
pub record JoiningFor (h : Hall) (i : ℕ) (has : Bool) (c : List ℕ) : Type 0 where
  pub choice : is_choice h c ≡ true
  pub joining : joins h c ≡ true
  pub here : member i c ≡ has

-- THE LEAST TOTAL of such choices, or none where there is none
unfoldable pub LeastTotal : Hall → (i : ℕ) → (has : Bool) → Option ℕ → Type 0
LeastTotal h i b None = (c : List ℕ) → JoiningFor h i b c → ⊥
LeastTotal h i b (Some t) = ((c : List ℕ) × JoiningFor h i b c × (total h c ≡ t)) × ((d : List ℕ) → JoiningFor h i b d → t ≤ total h d)

-- A ROW'S FIGURES: fixed, or the least totals with it and without it
pub data Figures : Type 0 where
  is_fixed : Figures
  totals : ℕ → Option ℕ → Figures

-- the figures are those of row i
unfoldable pub FiguresOf : Hall → (i : ℕ) → Figures → Type 0
FiguresOf h i is_fixed = (row h i).fixed ≡ true
FiguresOf h i (totals a b) = ((row h i).fixed ≡ false) × LeastTotal h i true (Some a) × LeastTotal h i false b
