-- Sets of junctions as numbers: junction j counts 2 to the power j - 1. Assumes nothing: these are definitions.
use Rattle.std.specs.Prelude.{◌≡◌, Bool, true, false, ◌&&◌, cond, ℕ, zero, suc, ◌+◌, ◌-◌, ◌/◌, ◌%◌, ◌^◌, ◌≤◌, ◌<◌, eqb}

-- the set holds junction j, for j from 1
unfoldable pub holds : (shore j : ℕ) → Bool
holds s j = eqb (s / 2 ^ (j - 1) % 2) 1

-- the set of junctions 1 to n
unfoldable pub full : (n : ℕ) → ℕ
full n = 2 ^ n - 1

-- the set with junction j put in
unfoldable pub with_junction : (j s : ℕ) → ℕ
with_junction j s = cond (holds s j) s (s + 2 ^ (j - 1))

-- of the junctions from j on, those of the next `left` that both sets hold
unfoldable pub both_from : (left j : ℕ) → (a b : ℕ) → ℕ
both_from zero j a b = 0
both_from (suc k) j a b = cond (holds a j && holds b j) (2 ^ (j - 1)) 0 + both_from k (suc j) a b

-- the junctions of 1 to n that both sets hold
unfoldable pub both : (n a b : ℕ) → ℕ
both n a b = both_from n 1 a b

-- the junctions of 1 to n that pass the test
unfoldable pub gather : (n : ℕ) → (ℕ → Bool) → ℕ
gather zero p = 0
gather (suc n) p = gather n p + cond (p (suc n)) (2 ^ n) 0

-- every junction of a is one of b
unfoldable pub Within : (a b : ℕ) → Type 0
Within a b = (j : ℕ) → 1 ≤ j → holds a j ≡ true → holds b j ≡ true

-- j is the lowest junction of the set
pub record Lowest (s j : ℕ) : Type 0 where
  pub in_it : holds s j ≡ true
  pub from_one : 1 ≤ j
  pub to_last : j ≤ 64
  pub least : (i : ℕ) → 1 ≤ i → i < j → holds s i ≡ false
