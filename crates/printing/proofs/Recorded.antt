-- The rows of the hall of a record stand in its columns, those of a hall that columns draw in these, and the hall of the record of a hall is the hall. Assumes nothing.
use mathlib.Core.Path.{◌≡◌, refl, ap, ap₂, ◌∙◌}
use mathlib.Core.Bool.{Bool, true, false}
use mathlib.Core.List.{List}
use Prim.Native.Nat.{ℕ, zero, suc, ◌+◌, ◌-◌, ◌≤◌, ◌<◌}
use native.Mathlib.Omega.{arith}
use lib.ListN.{length, get_or}
use lib.Seq.{ext_get_or}
use Rattle.hall.specs.Hall.{Row, Hall, row_of, hall, row, count, is_choice}
use Rattle.dicuts.proofs.Choices.{choice_ascends}
use Rattle.hallfile.specs.declared.record.HallRecord.{HallRecord}
use Rattle.hallfile.specs.Record.{RecordOf}
use Rattle.hallfile.proofs.Columns.{column-at}
use Rattle.choice.proofs.Ascent.{ascends_at}
use Rattle.lines.specs.Lines.{four_line}
use Rattle.printing.specs.Printed.{row_line}
use Rattle.printing.specs.declared.Drawn.{Drawn}
use Rattle.printing.specs.Recorded.{row_in_columns, rows_from, hall_of, hall_drawn}

module _ (t h p : List ℕ) (x : List Bool) where
  rows_length : (i k : ℕ) → length (rows_from t h p x i k) ≡ k
  unfolding rows_from
  rows_length i zero = refl
  rows_length i (suc k) = ap suc (rows_length (suc i) k)

  rows_at : (d : Row) (i k j : ℕ) → j < k → get_or (rows_from t h p x i k) j d ≡ row_in_columns t h p x (i + j)
  unfolding rows_from
  rows_at d i zero j l = absurd (omega arith)
  rows_at d i (suc k) zero l = let e : i ≡ i + 0 = omega arith in ap (row_in_columns t h p x) e
  rows_at d i (suc k) (suc j) l = let e : suc i + j ≡ i + suc j = omega arith in rows_at d (suc i) k j (omega arith) ∙ ap (row_in_columns t h p x) e

-- the hall of columns, their rows from the first on
module _ (t h p : List ℕ) (x : List Bool) (n m : ℕ) where
  abbrev columns_hall : Hall
  columns_hall = hall n (rows_from t h p x 0 m)

  columns_count : count columns_hall ≡ m
  unfolding hall count
  columns_count = rows_length t h p x 0 m

  columns_place : (k : ℕ) → k < m → get_or columns_hall.rows k (row_of 0 0 0) ≡ row_in_columns t h p x k
  unfolding hall
  columns_place k less =
      let e : 0 + k ≡ k = omega arith in
      rows_at t h p x (row_of 0 0 0) 0 m k less ∙ ap (row_in_columns t h p x) e

  columns_line : (i : ℕ) → 1 ≤ i → i ≤ m → row_line columns_hall i ≡ four_line i (get_or t (i - 1) 0) (get_or h (i - 1) 0) (get_or p (i - 1) 0)
  unfolding row_line row row_in_columns
  columns_line i low high = ap (λ (x : Row). four_line i x.from x.to x.price) (columns_place (i - 1) (omega arith))

  columns_choice : (ns : List ℕ) (k : ℕ) → is_choice columns_hall ns ≡ true → k < length ns → (1 ≤ get_or ns k 0) × (get_or ns k 0 ≤ m)
  columns_choice ns k e l = let w = ascends_at 1 (count columns_hall) ns k (choice_ascends columns_hall ns e) l in (w.0, omega (arith, w.1, columns_count))

-- of the hall of a record
module _ (r : HallRecord) where
  pub hall-count : count (hall_of r) ≡ r.lanes.count
  unfolding hall_of
  hall-count = columns_count r.lanes.tails r.lanes.heads r.prices r.fixed r.lanes.n r.lanes.count

  pub hall_junctions : (hall_of r).n ≡ r.lanes.n
  unfolding hall_of hall
  hall_junctions = refl

  -- the line of a row, from its columns
  pub row_line_is : (i : ℕ) → 1 ≤ i → i ≤ r.lanes.count → row_line (hall_of r) i ≡ four_line i (get_or r.lanes.tails (i - 1) 0) (get_or r.lanes.heads (i - 1) 0) (get_or r.prices (i - 1) 0)
  unfolding hall_of
  row_line_is = columns_line r.lanes.tails r.lanes.heads r.prices r.fixed r.lanes.n r.lanes.count

  -- a choice of the hall has numbers of the record's rows
  pub choice_at : (ns : List ℕ) (k : ℕ) → is_choice (hall_of r) ns ≡ true → k < length ns → (1 ≤ get_or ns k 0) × (get_or ns k 0 ≤ r.lanes.count)
  unfolding hall_of
  choice_at = columns_choice r.lanes.tails r.lanes.heads r.prices r.fixed r.lanes.n r.lanes.count

-- of the hall that columns draw
module _ (d : Drawn) where
  pub drawn_count : count (hall_drawn d) ≡ d.count
  unfolding hall_drawn
  drawn_count = columns_count d.tails.now d.heads.now d.prices.now d.fixed.now d.n d.count

  pub drawn_junctions : (hall_drawn d).n ≡ d.n
  unfolding hall_drawn hall
  drawn_junctions = refl

  -- the line of a row, from the columns
  pub drawn_line_is : (i : ℕ) → 1 ≤ i → i ≤ d.count → row_line (hall_drawn d) i ≡ four_line i (get_or d.tails.now (i - 1) 0) (get_or d.heads.now (i - 1) 0) (get_or d.prices.now (i - 1) 0)
  unfolding hall_drawn
  drawn_line_is = columns_line d.tails.now d.heads.now d.prices.now d.fixed.now d.n d.count

  -- a choice of the hall has numbers of the columns' rows
  pub drawn_choice_at : (ns : List ℕ) (k : ℕ) → is_choice (hall_drawn d) ns ≡ true → k < length ns → (1 ≤ get_or ns k 0) × (get_or ns k 0 ≤ d.count)
  unfolding hall_drawn
  drawn_choice_at = columns_choice d.tails.now d.heads.now d.prices.now d.fixed.now d.n d.count

-- the hall of a record of a hall is the hall
module _ (h : Hall) (r : HallRecord) (is : RecordOf h r) where
  abbrev place_row : ℕ → Row
  place_row = row_in_columns r.lanes.tails r.lanes.heads r.prices r.fixed

  record_row : (k : ℕ) → k < r.lanes.count → place_row k ≡ get_or h.rows k (row_of 0 0 0)
  unfolding row_in_columns count
  record_row k l =
      let none = row_of 0 0 0 in
      let small : k < 256 = omega (arith, r.lanes.ends.few) in
      let less : k < length h.rows = omega (arith, is.rows) in
      rw (
        is.tails,
        is.heads,
        is.prices,
        is.marks,
        column-at 0 (λ r. r.from) h.rows k none less small,
        column-at 0 (λ r. r.to) h.rows k none less small,
        column-at 0 (λ r. r.price) h.rows k none less small,
        column-at false (λ r. r.fixed) h.rows k none less small,
      ) refl

  record_place : (k : ℕ) → k < r.lanes.count → get_or (hall_of r).rows k (row_of 0 0 0) ≡ place_row k
  unfolding hall_of
  record_place = columns_place r.lanes.tails r.lanes.heads r.prices r.fixed r.lanes.n r.lanes.count

  record_rows : (hall_of r).rows ≡ h.rows
  unfolding count
  record_rows =
      ext_get_or (row_of 0 0 0) (hall_of r).rows h.rows (hall-count r ∙ is.rows)
      (λ k l.
      let less : k < r.lanes.count = omega (arith, hall-count r) in
      record_place k less ∙ record_row k less)

  pub hall_of_record : hall_of r ≡ h
  unfolding hall_of hall
  hall_of_record = ap₂ hall is.junctions record_rows
