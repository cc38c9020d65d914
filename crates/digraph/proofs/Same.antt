-- Adjacencies with the same arcs reach the same. Assumes nothing.
use mathlib.Core.Path.{◌≡◌, sym, ap, ◌∙◌}
use Prim.Native.Nat.{ℕ, ◌≤◌}
use Rattle.junctions.specs.Sets.{holds, Within}
use Rattle.digraph.specs.Reach.{Closed, Reach}

closed_alike :
    (n : ℕ) (out to : ℕ → ℕ) → ((j i : ℕ) → 1 ≤ j → j ≤ n → 1 ≤ i → holds (out j) i ≡ holds (to j) i) → (s : ℕ) → Closed n out s → Closed n to s
unfolding Closed Within
closed_alike n out to same s c j l m t i k a = c j l m t i k (same j i l m k ∙ a)

pub reach_alike :
    (n : ℕ) (out to : ℕ → ℕ) → ((j i : ℕ) → 1 ≤ j → j ≤ n → 1 ≤ i → holds (out j) i ≡ holds (to j) i) →
    (start r : ℕ) → Reach n out start r → Reach n to start r
reach_alike n out to same start r g =
    record {
      contains = g.contains;
      closed = closed_alike n out to same r g.closed;
      least = λ t c d. g.least t c (closed_alike n to out (λ j i l m k. sym (same j i l m k)) t d);
    }

-- the same sets have the same arcs
module _ (n : ℕ) (out to : ℕ → ℕ) (same : (j : ℕ) → 1 ≤ j → j ≤ n → out j ≡ to j) where
  pub closed_same : (s : ℕ) → Closed n out s → Closed n to s
  closed_same = closed_alike n out to (λ j i l m k. ap (λ (x : ℕ). holds x i) (same j l m))

  pub reach_same : (start r : ℕ) → Reach n out start r → Reach n to start r
  reach_same = reach_alike n out to (λ j i l m k. ap (λ (x : ℕ). holds x i) (same j l m))
