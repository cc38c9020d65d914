-- Rows decided for good, and those that may still change. Assumes nothing: these are definitions.
use Rattle.std.specs.Prelude.{Bool, ℕ, suc, ◌≤◌, leb}
use Rattle.hall.specs.Hall.{Hall}
use Rattle.dicuts.specs.Shores.{once, Joining}
use Rattle.potentials.specs.Potential.{cost}
use Rattle.choicelists.specs.Leads.{DiffersFirst}

-- ROWS 1 TO k ARE DECIDED: no joining set that costs no more has, among them, the first row in which it and F differ
unfoldable pub Decided : Hall → (c : ℕ → ℕ) → (F : ℕ → Bool) → (k : ℕ) → Type 0
Decided h c F k = (G : ℕ → Bool) → Joining h (once G) → cost h c G ≤ cost h c F → DiffersFirst k G F → ⊥

-- the rows after row k
unfoldable pub rows_after : (k : ℕ) → (i : ℕ) → Bool
rows_after k i = leb (suc k) i
