-- Whether a choice costs more than a figure, and how many of its rows it takes to tell. Each statement is a type; proofs/Figure.antt proves it. Assumes nothing.
use Rattle.std.specs.Prelude.{◌≡◌, true, false, List, ℕ, ◌≤◌, ◌<◌, ltb, length, take, Result, IfOk}
use Rattle.hall.specs.Hall.{Hall}
use Rattle.hall.specs.File.{hall_in}
use Rattle.hall.specs.Plan.{total}
use Rattle.refusals.specs.declared.Kind.{Kind}
use Rattle.refusals.specs.Kinds.{answered}
use Rattle.opening.specs.Choice.{choice_refusal}
use Rattle.screening.specs.declared.Screened.{Screened}

-- THE ROWS READ: the fewest from the front that pass the figure, else all
pub record Read (h : Hall) (figure : ℕ) (c : List ℕ) (r : ℕ) : Type 0 where
  pub most : r ≤ length c
  pub fewest : (k : ℕ) → k < r → ltb figure (total h (take k c)) ≡ false
  pub passed : r < length c → ltb figure (total h (take r c)) ≡ true

-- whether the whole choice costs more, and the rows read
pub record Screens (h : Hall) (figure : ℕ) (c : List ℕ) (s : Screened) : Type 0 where
  pub over : s.over ≡ ltb figure (total h c)
  pub read : Read h figure c s.read

-- THE FIGURE: the check's refusal, or whether the choice costs more
unfoldable pub FigureSays : (bs c : List ℕ) → (figure : ℕ) → Result Screened Kind → Type 0
FigureSays bs c figure r = (answered r ≡ choice_refusal bs c) × IfOk r (Screens (hall_in bs) figure c)

-- hall, figure and choice fix how many rows are read
unfoldable pub ReadAlone : Type 0
ReadAlone = (h : Hall) (figure : ℕ) (c : List ℕ) (r s : ℕ) → Read h figure c r → Read h figure c s → r ≡ s

-- the rows read tell what all rows do: they pass the figure exactly if the choice does
unfoldable pub ReadTells : Type 0
ReadTells = (h : Hall) (figure : ℕ) (c : List ℕ) (r : ℕ) → Read h figure c r → ltb figure (total h (take r c)) ≡ ltb figure (total h c)
