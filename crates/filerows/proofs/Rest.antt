-- The rows from a place on: the next block's where a block is used up, then row by row. Assumes nothing.
use mathlib.Core.Path.{◌≡◌, sym, ap, ◌∙◌}
use mathlib.Core.List.{List, [], ◌∷◌, ◌++◌}
use Prim.Native.Nat.{ℕ, suc, ◌+◌, ◌-◌, ◌*◌, ◌/◌, ◌<◌, ◌≤◌}
use native.Mathlib.Omega.{arith}
use Rattle.hall.specs.Hall.{Row}
use Rattle.hall.specs.File.{field, offset, long_of, row_in, rows_at, all_rows}
use Rattle.filerows.specs.declared.places.Place.{Place}
use Rattle.filerows.specs.Places.{Table, Ahead, rest_at}
use Rattle.filerows.proofs.Pairs.{blocks_more, blocks_end, pair_at}

-- the row in the eight bytes from place a on
abbrev pub row_from : List ℕ → (a : ℕ) → Row
row_from bs a = row_in (field a 2 bs) (field (a + 2) 2 bs) (field (a + 4) 4 bs)

-- the row in front of a place whose own block has it, and the place after it
pub row-after : (bs : List ℕ) (m : ℕ) (p : Place) → 0 < p.left
    → rest_at bs m p ≡ row_from bs p.at ∷ rest_at bs m (record { at = p.at + 8; left = p.left - 1; block = p.block })
unfolding rest_at rows_at
row-after bs m p h =
    let e : p.left ≡ suc (p.left - 1) = omega arith in
    ap (λ (k : ℕ). rows_at k p.at bs ++ all_rows (m - p.block) p.block bs) e

module _ (bs : List ℕ) (m : ℕ) (p : Place) (used : p.left ≤ 0) where
  used_up : rest_at bs m p ≡ all_rows (m - p.block) p.block bs
  unfolding rest_at rows_at
  used_up = let z : p.left ≡ 0 = omega arith in rw z

  pub rest_none : p.block ≡ m → rest_at bs m p ≡ []
  rest_none e = used_up ∙ blocks_end bs m p.block (omega arith)

  -- the next block's first row is the next row
  pub next_block : Table bs m → p.block < m → (q : Place) → q.at ≡ offset bs p.block → q.left ≡ long_of bs p.block / 8 → q.block ≡ p.block + 1 → Ahead bs m p q
  unfolding rest_at
  next_block table g q e f n =
      let room = pair_at m 0 (4 + 8 * m) bs table.good p.block (omega arith) (omega arith) in
      record {
        stands = record { block = omega arith; fits = omega (arith, room.0, room.1) };
        some = omega (arith, room.0);
        same = rw (e, f, n) (sym (used_up ∙ blocks_more bs m p.block g));
      }
