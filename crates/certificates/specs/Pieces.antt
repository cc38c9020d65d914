-- The pieces that a set of junctions falls into over a mutual adjacency, and sums over them. Assumes nothing: these are definitions.
use Rattle.std.specs.Prelude.{◌≡◌, Bool, true, ◌&&◌, not, cond, ℕ, zero, suc, ◌-◌, ◌^◌, ◌≤◌}
use Rattle.std.specs.Int.Bits.{bit_and, bit_or}
use Rattle.laws.specs.Finite.{all_below, sum_below}
use Rattle.junctions.specs.Sets.{holds}
use Rattle.digraph.specs.Closure.{closure}

-- where an arc leads from a to b, one leads from b to a
unfoldable pub Mutual : (n : ℕ) → (out : ℕ → ℕ) → Type 0
Mutual n out = (a b : ℕ) → 1 ≤ a → a ≤ n → 1 ≤ b → b ≤ n → holds (out a) b ≡ true → holds (out b) a ≡ true

-- the arcs that end in the set w
unfoldable pub inside : (w : ℕ) → (out : ℕ → ℕ) → ℕ → ℕ
inside w out a = bit_and w (out a)

-- THE PIECE of junction a in the set w: what arcs inside w lead to from a
unfoldable pub piece : (n : ℕ) → (out : ℕ → ℕ) → (w a : ℕ) → ℕ
piece n out w a = closure n (inside w out) (2 ^ (a - 1))

-- junction k + 1 is the lowest of its piece
unfoldable pub leads : (n : ℕ) → (out : ℕ → ℕ) → (w k : ℕ) → Bool
leads n out w k = holds w (suc k) && all_below k (λ i. not (holds (piece n out w (suc k)) (suc i)))

-- the sum of f over the pieces of w, each taken once
unfoldable pub over_pieces : (n : ℕ) → (out : ℕ → ℕ) → (w : ℕ) → (f : ℕ → ℕ) → ℕ
over_pieces n out w f = sum_below n (λ k. cond (leads n out w k) (f (piece n out w (suc k))) 0)

-- the pieces of the junctions 1 to k, put together
unfoldable pub covered : (n : ℕ) → (out : ℕ → ℕ) → (w k : ℕ) → ℕ
covered n out w zero = 0
covered n out w (suc k) = cond (leads n out w k) (bit_or (covered n out w k) (piece n out w (suc k))) (covered n out w k)
