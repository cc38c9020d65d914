-- Sets of rows listed by their numbers, and sets without fixed rows. Assumes nothing: these are definitions.
use Rattle.std.specs.Prelude.{◌≡◌, Bool, true, false, cond, List, [], ◌∷◌, ℕ, zero, suc, ◌≤◌}
use Rattle.hall.specs.Hall.{Hall, row, count}

-- of the next `left` numbers from a on, those that pass the test, ascending
unfoldable pub passing : (left a : ℕ) → (ℕ → Bool) → List ℕ
passing zero a F = []
passing (suc k) a F = cond (F a) (a ∷ passing k (suc a) F) (passing k (suc a) F)

-- A SET OF ROWS, a test on row numbers, as the list of its row numbers
unfoldable pub listed : Hall → (rows : ℕ → Bool) → List ℕ
listed h F = passing (count h) 1 F

-- no row of the set is fixed
abbrev pub NoneFixed : Hall → (rows : ℕ → Bool) → Type 0
NoneFixed h F = (i : ℕ) → 1 ≤ i → i ≤ count h → F i ≡ true → (row h i).fixed ≡ false
