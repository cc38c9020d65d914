-- Arcs that rows make beside a row, and sets of arcs that they make. Assumes nothing: these are definitions.
use Rattle.std.specs.Prelude.{◌≡◌, Bool, true, List, ℕ, ◌≤◌}
use Rattle.laws.specs.Lists.{at}
use Rattle.junctions.specs.Sets.{holds, Within}
use Rattle.hall.specs.Hall.{Hall, row}
use Rattle.dicuts.specs.Arcs.{arc, arcs}
use Rattle.columns.specs.Lanes.{LanesOf}
use Rattle.columns.specs.declared.Lanes.{Lanes}

-- the rows F make the arc from row f's head to its tail
unfoldable pub Backed : Hall → (F : ℕ → Bool) → (f : ℕ) → Type 0
Backed h F f = arc h F (row h f).to (row h f).from ≡ true

-- every arc of the sets is one of the rows F
unfoldable pub ArcsAmong : Hall → (F : ℕ → Bool) → (sets : List ℕ) → Type 0
ArcsAmong h F sets = (x : ℕ) → 1 ≤ x → x ≤ h.n → Within (at sets x) (arcs h F x)

-- every arc of the sets is there whatever rows are flagged
abbrev pub Forward : Lanes → (sets : List ℕ) → Type 0
Forward lanes sets =
    (h : Hall) (F : ℕ → Bool) → LanesOf h lanes → (x y : ℕ) → 1 ≤ x → x ≤ h.n → 1 ≤ y → holds (at sets x) y ≡ true → arc h F x y ≡ true
