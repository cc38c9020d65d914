-- What is reached even if one arc is taken away. Assumes nothing: these are definitions.
use Rattle.std.specs.Prelude.{◌≡◌, true, false, cond, ℕ, ◌-◌, ◌^◌, ◌≤◌, ◌<◌, eqb}
use Rattle.std.specs.Int.Bits.{bit_and, bit_xor}
use Rattle.junctions.specs.Sets.{holds}
use Rattle.digraph.specs.Reach.{Reach}

-- the adjacency without the arc from x to y
unfoldable pub arcs_without : (out : ℕ → ℕ) → (x y z : ℕ) → ℕ
arcs_without out x y z = cond (eqb z x) (bit_xor (out z) (bit_and (out z) (2 ^ (y - 1)))) (out z)

-- s is what v reaches without the arc from x to y
abbrev pub Bypass : (out : ℕ → ℕ) → (v x y s : ℕ) → Type 0
Bypass out v x y s = Reach 64 (arcs_without out x y) (2 ^ (v - 1)) s

-- ROBUST: u is reached from v, and still is without any one arc that is not solid
pub record Robust (out solids : ℕ → ℕ) (v u : ℕ) : Type 0 where
  pub reached : (s : ℕ) → Reach 64 out (2 ^ (v - 1)) s → holds s u ≡ true
  pub still : (x y : ℕ) → 1 ≤ x → x ≤ 64 → 1 ≤ y → holds (solids x) y ≡ false → (s : ℕ) → Bypass out v x y s → holds s u ≡ true

-- the set of the junctions that are robust from v
pub record RobustSet (out solids : ℕ → ℕ) (v set : ℕ) : Type 0 where
  pub low : set < 2 ^ 64
  pub holds_robust : (u : ℕ) → 1 ≤ u → holds set u ≡ true → Robust out solids v u
  pub robust_holds : (u : ℕ) → 1 ≤ u → u ≤ 64 → Robust out solids v u → holds set u ≡ true
