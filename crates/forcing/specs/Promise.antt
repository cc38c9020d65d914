-- What is promised of a row's figures. Each statement is a type; proofs/Promise.antt proves it. Assumes nothing.
use Rattle.std.specs.Prelude.{◌≡◌, true, List, ℕ, ◌+◌, ◌≤◌, min, Option, Some, None}
use Rattle.hall.specs.Hall.{row, count, enters, is_cut, entering, unfixed, member}
use Rattle.hall.specs.File.{hall_in}
use Rattle.hall.specs.Plan.{First, total}
use Rattle.joining.specs.Promise.{accepted}
use Rattle.forcing.specs.Figures.{FiguresOf, totals}

-- the smaller of both figures, or the only one
unfoldable pub smaller : (a : ℕ) → Option ℕ → ℕ
smaller a None = a
smaller a (Some b) = min a b

-- the plan's total is the smaller of both, or the only one; of an opened row it is the one with the row; a loop costs its price more with it
unfoldable pub FiguresAndPlan : Type 0
FiguresAndPlan =
    (bs c : List ℕ) (i a : ℕ) (b : Option ℕ) → accepted bs ≡ true → First (hall_in bs) c → 1 ≤ i → i ≤ count (hall_in bs) →
    FiguresOf (hall_in bs) i (totals a b) →
    (smaller a b ≡ total (hall_in bs) c) × (member i c ≡ true → a ≡ total (hall_in bs) c)
    × ((row (hall_in bs) i).from ≡ (row (hall_in bs) i).to → a ≡ total (hall_in bs) c + (row (hall_in bs) i).price)

-- a row has no figure without it exactly if it alone, of the rows that are not fixed, enters some directed cut
unfoldable pub NoneExactly : Type 0
NoneExactly =
    (bs : List ℕ) (i a : ℕ) (b : Option ℕ) → accepted bs ≡ true → 1 ≤ i → i ≤ count (hall_in bs) → FiguresOf (hall_in bs) i (totals a b) →
    (b ≡ None → (s : ℕ) × (is_cut (hall_in bs) s ≡ true) × (enters s (row (hall_in bs) i) ≡ true) × (entering (hall_in bs) s (unfixed (hall_in bs)) ≡ 1))
    × ((s : ℕ) → is_cut (hall_in bs) s ≡ true → enters s (row (hall_in bs) i) ≡ true → entering (hall_in bs) s (unfixed (hall_in bs)) ≡ 1 → b ≡ None)
