-- The rows that a small hall has, of the places that there are. Assumes nothing: these are definitions.
use Rattle.std.specs.Prelude.{List, take}
use Rattle.smallhalls.specs.declared.Row.{Row}
use Rattle.smallhalls.specs.declared.Rows.{Rows}

-- THE ROWS: those at the first places
abbrev pub listed : Rows → List Row
listed r = take r.count r.places
