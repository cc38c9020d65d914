-- A search by whole layers of junctions, and one step back on a walk with fewest arcs. Assumes nothing: these are definitions.
use Rattle.std.specs.Prelude.{◌≡◌, Bool, true, false, ◌&&◌, cond, List, ℕ, suc, ◌+◌, ◌≤◌, ◌<◌, eqb, length}
use Rattle.laws.specs.Lists.{at}
use Rattle.junctions.specs.Sets.{holds}

-- the list `after` has what f makes of its numbers at the set's junctions, of 64, and is else as before
pub record Marked (before after : List ℕ) (set : ℕ) (f : ℕ → ℕ) : Type 0 where
  pub size : length after ≡ 64
  pub entry : (j : ℕ) → 1 ≤ j → j ≤ 64 → at after j ≡ cond (holds set j) (f (at before j)) (at before j)

-- d layers are done and marked, and the next is at hand: `fewest` are the true distances; no junction of the goal is done
pub record Layered (n : ℕ) (fewest before dist : ℕ → ℕ) (goal layer done d : ℕ) : Type 0 where
  pub layer_in : (j : ℕ) → 1 ≤ j → j ≤ n → holds layer j ≡ true → (fewest j ≡ d) × (d < n)
  pub layer_has : (j : ℕ) → 1 ≤ j → j ≤ n → fewest j ≡ d → d < n → holds layer j ≡ true
  pub done_in : (j : ℕ) → 1 ≤ j → j ≤ n → holds done j ≡ true → (fewest j < d) × (fewest j < n)
  pub done_has : (j : ℕ) → 1 ≤ j → j ≤ n → fewest j < d → fewest j < n → holds done j ≡ true
  pub marked : (j : ℕ) → 1 ≤ j → j ≤ n → holds done j ≡ true → dist j ≡ fewest j
  pub kept : (j : ℕ) → 1 ≤ j → j ≤ n → holds done j ≡ false → dist j ≡ before j
  pub clear : (j : ℕ) → 1 ≤ j → holds goal j ≡ true → holds done j ≡ false

-- junction x is one arc before y, and one less far
pub record Before (n : ℕ) (out dist : ℕ → ℕ) (y x : ℕ) : Type 0 where
  pub from_one : 1 ≤ x
  pub to_last : x ≤ n
  pub closer : suc (dist x) ≡ dist y
  pub arc : holds (out x) y ≡ true

-- the same as a test
unfoldable pub before_test : (out dist : ℕ → ℕ) → (y x : ℕ) → Bool
before_test out dist y x = eqb (dist x + 1) (dist y) && holds (out x) y
