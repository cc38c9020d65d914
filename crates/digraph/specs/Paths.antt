-- Fewest arcs over an adjacency, and walks that use no more. Assumes nothing: these are definitions.
use Rattle.std.specs.Prelude.{◌≡◌, true, List, [], ◌∷◌, ℕ, suc, ◌≤◌, ◌<◌, length}
use Rattle.std.proofs.Math.Option.{Option, none, some}
use Rattle.junctions.specs.Sets.{holds}

-- FEWEST ARCS from the start to each junction; n or more where no arcs lead there
pub record Distances (n : ℕ) (out : ℕ → ℕ) (start : ℕ) (dist : ℕ → ℕ) : Type 0 where
  pub here : dist start ≡ 0
  pub alone : (y : ℕ) → 1 ≤ y → y ≤ n → dist y ≡ 0 → y ≡ start
  pub ahead : (x y : ℕ) → 1 ≤ x → x ≤ n → 1 ≤ y → y ≤ n → holds (out x) y ≡ true → dist y ≤ suc (dist x)
  pub behind : (y : ℕ) → 1 ≤ y → y ≤ n → 0 < dist y → dist y < n →
      (x : ℕ) × (1 ≤ x) × (x ≤ n) × (suc (dist x) ≡ dist y) × (holds (out x) y ≡ true)

-- A WALK from x over the listed junctions to y
unfoldable pub Walk : (n : ℕ) → (out : ℕ → ℕ) → (x : ℕ) → List ℕ → (y : ℕ) → Type 0
Walk n out x [] y = x ≡ y
Walk n out x (w ∷ ws) y = (1 ≤ w) × (w ≤ n) × (holds (out x) w ≡ true) × Walk n out w ws y

-- THE FEWEST ARCS from x to y, or that none lead there
unfoldable pub Fewest : (n : ℕ) → (out : ℕ → ℕ) → (x y : ℕ) → Option ℕ → Type 0
Fewest n out x y none = (ws : List ℕ) → Walk n out x ws y → ⊥
Fewest n out x y (some k) =
    ((ws : List ℕ) × Walk n out x ws y × (length ws ≡ k)) × ((ws : List ℕ) → Walk n out x ws y → k ≤ length ws)

-- THE ARCS TURNED ROUND: x is in the set of y exactly if y is in the set of x
abbrev pub TurnedRound : (n : ℕ) → (out back : ℕ → ℕ) → Type 0
TurnedRound n out back = (x y : ℕ) → 1 ≤ x → x ≤ n → 1 ≤ y → y ≤ n → holds (back y) x ≡ holds (out x) y

-- a walk on which the distance grows by one at each step, so that no walk to its end has fewer arcs
unfoldable pub Climb : (n : ℕ) → (out dist : ℕ → ℕ) → (x : ℕ) → List ℕ → (y : ℕ) → Type 0
Climb n out dist x [] y = x ≡ y
Climb n out dist x (w ∷ ws) y = (1 ≤ w) × (w ≤ n) × (holds (out x) w ≡ true) × (dist w ≡ suc (dist x)) × Climb n out dist w ws y
