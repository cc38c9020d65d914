-- How two sets of junctions lie to each other, and families of sets: laminar and cross-free ones. Assumes nothing: these are definitions.
use Rattle.std.specs.Prelude.{◌≡◌, Bool, true, false, ◌||◌, List, [], ◌∷◌, ℕ, ◌^◌, ◌≤◌, ◌<◌, eqb}
use Rattle.junctions.specs.Sets.{holds}
use Rattle.hall.specs.Plan.{Cut}

-- a junction that is in a or not, as x says, and in b or not, as y says
pub record Spot (n a b : ℕ) (x y : Bool) : Type 0 where
  pub at : ℕ
  pub low : 1 ≤ at
  pub high : at ≤ n
  pub first : holds a at ≡ x
  pub second : holds b at ≡ y

-- OVERLAPPING: two sets meet, and neither contains the other
pub record Overlapping (n a b : ℕ) : Type 0 where
  pub shared : Spot n a b true true
  pub left : Spot n a b true false
  pub right : Spot n a b false true

-- CROSSING: they overlap, and together they miss some junction
pub record Crossing (n a b : ℕ) : Type 0 where
  pub overlap : Overlapping n a b
  pub missed : Spot n a b false false

-- A FAMILY of sets of junctions 1 to n is a test on the numbers below 2 to the power n. LAMINAR: no two of its sets overlap
unfoldable pub Laminar : (n : ℕ) → (family : ℕ → Bool) → Type 0
Laminar n F = (a b : ℕ) → a < 2 ^ n → b < 2 ^ n → F a ≡ true → F b ≡ true → Overlapping n a b → ⊥

-- CROSS-FREE: no two of its sets cross
unfoldable pub CrossFree : (n : ℕ) → (family : ℕ → Bool) → Type 0
CrossFree n F = (a b : ℕ) → a < 2 ^ n → b < 2 ^ n → F a ≡ true → F b ≡ true → Crossing n a b → ⊥

-- the family of the shores of the listed cuts
unfoldable pub shore_family : List Cut → ℕ → Bool
shore_family [] s = false
shore_family (c ∷ cs) s = eqb c.shore s || shore_family cs s
