-- A set inside another is the same set, or has fewer junctions. Assumes nothing.
use mathlib.Core.Path.{◌≡◌, sym}
use mathlib.Core.Logic.{◌⊎◌, inl, inr, ⊎_elim}
use Prim.Native.Nat.{ℕ, zero, suc, ◌^◌, ◌≤◌, ◌<◌}
use native.Mathlib.Omega.{arith}
use Rattle.laws.specs.Finite.{count_below}
use Rattle.laws.proofs.Growth.{same_or_less}
use Rattle.junctions.specs.Sets.{holds, Within}
use Rattle.junctions.proofs.Sets.{sets_ext}

-- how many of junctions 1 to n the set holds
abbrev pub size : (n s : ℕ) → ℕ
size n s = count_below n (λ k. holds s (suc k))

pub within_grows : (n s t : ℕ) → s < 2 ^ n → t < 2 ^ n → Within s t → (s ≡ t) ⊎ (size n s < size n t)
unfolding Within
within_grows n s t hs ht w =
    ⊎_elim
    (λ (same : (k : ℕ) → k < n → holds t (suc k) ≡ holds s (suc k)). inl (sets_ext n s t hs ht (λ j l m. at same j l m)))
    (λ (more : size n s < size n t). inr more)
    (same_or_less n (λ k. holds s (suc k)) (λ k. holds t (suc k)) (λ k l. w (suc k) (omega arith)))
  where
    at : ((k : ℕ) → k < n → holds t (suc k) ≡ holds s (suc k)) → (j : ℕ) → 1 ≤ j → j ≤ n → holds s j ≡ holds t j
    at same zero l m = absurd (omega arith)
    at same (suc j) l m = sym (same j (omega arith))
