-- The table of blocks, pair by pair: its rules, and how many rows its blocks have. Assumes nothing.
use mathlib.Core.Path.{◌≡◌, refl, sym, ap, ◌∙◌}
use mathlib.Core.Bool.{Bool, true, false, ◌&&◌}
use mathlib.Core.List.{List, [], ◌++◌}
use mathlib.Core.Logic.{◌⊎◌, inl, inr, ⊎_elim}
use Prim.Native.Nat.{ℕ, zero, suc, ◌+◌, ◌-◌, ◌/◌, ◌%◌, ◌<◌, ◌≤◌}
use native.Mathlib.Numerals.{add-one}
use native.Mathlib.Omega.{arith}
use lib.Dec.{eqb, leb, ltb}
use lib.ListN.{length, length-append}
use borrow.Author.Tests.{ltb-true, leb-true, eqb-true, eqb-false}
use Rattle.laws.proofs.Booleans.{by_bool, and_l, and_r}
use Rattle.hall.specs.File.{offset, long_of, pairs_good, rows_at, all_rows}

-- the rules for one pair, no block before `least`
abbrev pub pair_good : (start size least end : ℕ) → Bool
pair_good s l e n = (ltb 0 l && eqb (l % 8) 0) && (leb e s && leb (s + l) n)

pub rows_at-length : (left a : ℕ) (bs : List ℕ) → length (rows_at left a bs) ≡ left
unfolding rows_at
rows_at-length zero a bs = refl
rows_at-length (suc k) a bs = ap suc (rows_at-length k (a + 8) bs)

module _ (bs : List ℕ) (m : ℕ) where
  pub pairs_more : (k e : ℕ) → k < m
      → pairs_good (m - k) k e bs
      ≡ (pair_good (offset bs k) (long_of bs k) e (length bs) && pairs_good (m - (k + 1)) (k + 1) (offset bs k + long_of bs k) bs)
  unfolding pairs_good
  pairs_more k e h = let q : m - k ≡ suc (m - (k + 1)) = omega arith in rw (q, add-one k)

  pub pairs_end : (k e : ℕ) → m ≤ k → pairs_good (m - k) k e bs ≡ true
  unfolding pairs_good
  pairs_end k e h = let q : m - k ≡ 0 = omega arith in rw q

  -- a pair that breaks a rule, and one that keeps them
  pub pairs_fail : (k e s l : ℕ) → k < m → s ≡ offset bs k → l ≡ long_of bs k → pair_good s l e (length bs) ≡ false → pairs_good (m - k) k e bs ≡ false
  pairs_fail k e s l h p q t = pairs_more k e h ∙ rw (← p, ← q, t)

  pub pairs_pass : (k e s l : ℕ) → k < m → s ≡ offset bs k → l ≡ long_of bs k → pair_good s l e (length bs) ≡ true
      → pairs_good (m - k) k e bs ≡ pairs_good (m - (k + 1)) (k + 1) (s + l) bs
  pairs_pass k e s l h p q t = pairs_more k e h ∙ rw (← p, ← q, t)

  pub blocks_more : (k : ℕ) → k < m → all_rows (m - k) k bs ≡ rows_at (long_of bs k / 8) (offset bs k) bs ++ all_rows (m - (k + 1)) (k + 1) bs
  unfolding all_rows
  blocks_more k h = let q : m - k ≡ suc (m - (k + 1)) = omega arith in rw (q, add-one k)

  pub blocks_end : (k : ℕ) → m ≤ k → all_rows (m - k) k bs ≡ []
  unfolding all_rows
  blocks_end k h = let q : m - k ≡ 0 = omega arith in rw q

  pub count_more : (k : ℕ) → k < m → length (all_rows (m - k) k bs) ≡ long_of bs k / 8 + length (all_rows (m - (k + 1)) (k + 1) bs)
  count_more k h =
      ap length (blocks_more k h) ∙ length-append (rows_at (long_of bs k / 8) (offset bs k) bs) (all_rows (m - (k + 1)) (k + 1) bs)
      ∙ ap (λ (l : ℕ). l + length (all_rows (m - (k + 1)) (k + 1) bs)) (rows_at-length (long_of bs k / 8) (offset bs k) bs)

-- in a table that keeps the rules each block has a row and ends in the file
pub pair_at : (left k e : ℕ) (bs : List ℕ) → pairs_good left k e bs ≡ true → (j : ℕ) → k ≤ j → j < k + left
    → (8 ≤ long_of bs j) × (offset bs j + long_of bs j ≤ length bs)
unfolding pairs_good
pair_at zero k e bs t j h g = absurd (omega arith)
pair_at (suc l) k e bs t j h g =
    let good = pair_good (offset bs k) (long_of bs k) e (length bs) in
    let rest = pairs_good l (suc k) (offset bs k + long_of bs k) bs in
    ⊎_elim
    (λ (q : k ≡ j).
    let this = and_l good rest t in
    let size = and_l (ltb 0 (long_of bs k) && eqb (long_of bs k % 8) 0) (leb e (offset bs k) && leb (offset bs k + long_of bs k) (length bs)) this in
    let room = and_r (ltb 0 (long_of bs k) && eqb (long_of bs k % 8) 0) (leb e (offset bs k) && leb (offset bs k + long_of bs k) (length bs)) this in
    let positive = ltb-true 0 (long_of bs k) (and_l (ltb 0 (long_of bs k)) (eqb (long_of bs k % 8) 0) size) in
    let whole = eqb-true (long_of bs k % 8) 0 (and_r (ltb 0 (long_of bs k)) (eqb (long_of bs k % 8) 0) size) in
    let ends = leb-true (offset bs k + long_of bs k) (length bs) (and_r (leb e (offset bs k)) (leb (offset bs k + long_of bs k) (length bs)) room) in
    rw (sym q) (omega arith, ends))
    (λ (q : k < j). pair_at l (suc k) (offset bs k + long_of bs k) bs (and_r good rest t) j (omega arith) (omega arith))
    (same_or_later k j h)
  where
    same_or_later : (k j : ℕ) → k ≤ j → (k ≡ j) ⊎ (k < j)
    same_or_later k j h = by_bool (eqb k j) (λ t. inl (eqb-true k j t)) (λ t. let n = eqb-false k j t in inr (omega arith))
