-- The columns of row ends as one value. Assumes nothing: these are definitions.
use Rattle.std.specs.Prelude.{ℕ}
use Rattle.hall.specs.Hall.{Hall}
use Rattle.columns.specs.Columns.{Columns}
use Rattle.columns.specs.declared.Lanes.{Lanes}

-- the rows of the lanes are those of a hall of n junctions
abbrev pub RowsOf : Hall → (n : ℕ) → Lanes → Type 0
RowsOf h n l = Columns h n l.count l.tails l.heads

-- the lanes are the rows of a hall, and its junctions are theirs
abbrev pub LanesOf : Hall → Lanes → Type 0
LanesOf h l = RowsOf h l.n l
