-- The hall of a record, that which columns draw, and what can be printed. Assumes nothing: these are definitions.
use Rattle.std.specs.Prelude.{◌≡◌, Bool, true, false, List, [], ◌∷◌, ℕ, zero, suc, ◌≤◌, ℤ, length, get_or}
use Rattle.hall.specs.Hall.{Row, Hall, hall, is_choice}
use Rattle.cutlist.specs.declared.Cut.{Cut}
use Rattle.hallfile.specs.declared.record.HallRecord.{HallRecord}
use Rattle.printing.specs.declared.Drawn.{Drawn}

-- the row at place i of the columns
unfoldable pub row_in_columns : (tails heads prices : List ℕ) → (fixed : List Bool) → (i : ℕ) → Row
row_in_columns t h p x i = record { from = get_or t i 0; to = get_or h i 0; price = get_or p i 0; fixed = get_or x i false }

-- the next `left` rows of the columns, from place i on
unfoldable pub rows_from : (tails heads prices : List ℕ) → (fixed : List Bool) → (i left : ℕ) → List Row
rows_from t h p x i zero = []
rows_from t h p x i (suc k) = row_in_columns t h p x i ∷ rows_from t h p x (suc i) k

-- THE HALL OF A RECORD
unfoldable pub hall_of : HallRecord → Hall
hall_of r = hall r.lanes.n (rows_from r.lanes.tails r.lanes.heads r.prices r.fixed 0 r.lanes.count)

-- THE HALL THAT COLUMNS DRAW, whatever they hold
unfoldable pub hall_drawn : Drawn → Hall
hall_drawn d = hall d.n (rows_from d.tails.now d.heads.now d.prices.now d.fixed.now 0 d.count)

-- PRINTABLE: a hall, a choice of its rows, cuts and levels within the limits
pub record Printable (d : Drawn) (rows : List ℕ) (ks : List Cut) (levels : List ℤ) : Type 0 where
  pub junctions : d.n ≤ 64
  pub few : d.count ≤ 256
  pub choice : is_choice (hall_drawn d) rows ≡ true
  pub cuts : length ks ≤ 125
  pub leveled : length levels ≤ 64
