-- The refusals that need no walk through the hall: that of one row, and the first of 2 to 8. Assumes nothing: these are definitions.
use Rattle.std.specs.Prelude.{◌&&◌, not, cond, List, ℕ, ◌+◌, ◌*◌, ltb, leb, eqb, length}
use Rattle.hall.specs.Hall.{Row, count}
use Rattle.hall.specs.File.{Refusal, refusal, field, blocks, pairs_good, hall_in, row_number, rows_refusal}

-- 6 or 8 for row i, or none
unfoldable pub row_refusal : (i n : ℕ) → Row → Refusal
row_refusal i n r = cond (eqb (row_number n r) 0) (refusal 0 0) (refusal (row_number n r) i)

-- the first refusal of 2 to 8 that a file meets, in the fixed order
unfoldable pub shape_refusal : List ℕ → Refusal
shape_refusal bs =
    let n = field 0 2 bs in
    cond (not (leb 4 (length bs) && leb (length bs) 65536)) (refusal 2 0)
    (cond (not (leb 1 n && leb n 64)) (refusal 3 0)
    (cond (not (leb (blocks bs) 16 && (leb (4 + 8 * blocks bs) (length bs) && pairs_good (blocks bs) 0 (4 + 8 * blocks bs) bs))) (refusal 4 0)
    (cond (ltb 256 (count (hall_in bs))) (refusal 5 0) (rows_refusal 1 n (hall_in bs).rows))))
