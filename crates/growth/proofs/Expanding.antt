-- The lowest junction to do is taken and expanded: what is to do then, and that fewer are left. Assumes nothing.
use mathlib.Core.Path.{◌≡◌, refl, sym, ap, ap₂, ◌∙◌}
use mathlib.Core.Bool.{true, false, ◌&&◌, ◌||◌, not}
use mathlib.Core.Logic.{◌⊎◌, inl, inr, ⊎_elim}
use Prim.Native.Nat.{ℕ, suc, ◌-◌, ◌^◌, ◌≤◌, ◌<◌}
use native.Mathlib.Omega.{arith}
use lib.Bits.{bit_and, bit_or}
use lib.Dec.{eqb}
use borrow.Author.Tests.{eq-eqb, not-true}
use Rattle.laws.proofs.Booleans.{by_bool, clash, and_l, and_r, or_cases, or_l, or_r, not_true_false}
use Rattle.laws.proofs.Growth.{count_less}
use Rattle.junctions.specs.Sets.{holds, Within}
use Rattle.junctions.proofs.Sets.{or_holds}
use Rattle.junctions.specs.Taking.{Taken}
use Rattle.junctions.proofs.Taking.{taken_in, taken_left}
use Rattle.junctions.proofs.Without.{without}
use Rattle.growth.specs.Growth.{unexpanded}

-- the junctions to do once one is done, where it brings in what is found
abbrev pub left_after : (set left found : ℕ) → ℕ
left_after set left found = bit_or left (bit_and found (18446744073709551615 - set))

module _ (set todo found place left : ℕ) (set_fits : set < 2 ^ 64) (found_fits : found < 2 ^ 64) (taken : Taken todo place left) where
  pub left_holds : (i : ℕ) → 1 ≤ i →
      holds (left_after set left found) i ≡ ((holds todo i && not (eqb i (suc place))) || (holds found i && not (holds set i)))
  left_holds i l =
      or_holds left (bit_and found (18446744073709551615 - set)) i ∙ ap₂ ◌||◌ (taken_left taken i l) (without found set found_fits set_fits i)

  left_cases : (i : ℕ) → 1 ≤ i → holds (left_after set left found) i ≡ true →
      ((holds todo i ≡ true) × (eqb i (suc place) ≡ false)) ⊎ ((holds found i ≡ true) × (holds set i ≡ false))
  left_cases i l t =
      let it = eqb i (suc place) in
      ⊎_elim (λ (e : (holds todo i && not it) ≡ true). inl (and_l (holds todo i) (not it) e, not-true it (and_r (holds todo i) (not it) e)))
      (λ (e : (holds found i && not (holds set i)) ≡ true).
      inr (and_l (holds found i) (not (holds set i)) e, not-true (holds set i) (and_r (holds found i) (not (holds set i)) e)))
      (or_cases (holds todo i && not it) (holds found i && not (holds set i)) (sym (left_holds i l) ∙ t))

  module _ (pending : Within todo set) where
    pub pending_within : Within (left_after set left found) (bit_or set found)
    unfolding Within
    pending_within i l t =
        or_holds set found i
        ∙ ⊎_elim (λ (e : (holds todo i ≡ true) × (eqb i (suc place) ≡ false)). or_l (holds set i) (holds found i) (pending i l e.0))
        (λ (e : (holds found i ≡ true) × (holds set i ≡ false)). or_r (holds set i) (holds found i) e.0) (left_cases i l t)

    -- what was in the set is to do only if it was to do, and is not the lowest
    left_before : (i : ℕ) → 1 ≤ i → holds set i ≡ true → (not (holds (bit_or set found) i) || holds (left_after set left found) i) ≡ true →
        (holds todo i ≡ true) × (eqb i (suc place) ≡ false)
    left_before i l r t =
        ⊎_elim
        (λ (a : not (holds (bit_or set found) i) ≡ true).
        clash (or_holds set found i ∙ or_l (holds set i) (holds found i) r) (not-true (holds (bit_or set found) i) a))
        (λ (a : holds (left_after set left found) i ≡ true).
        ⊎_elim (λ (b : (holds todo i ≡ true) × (eqb i (suc place) ≡ false)). b)
        (λ (b : (holds found i ≡ true) × (holds set i ≡ false)). clash r b.1) (left_cases i l a))
        (or_cases (not (holds (bit_or set found) i)) (holds (left_after set left found) i) t)

    pub pending_less : unexpanded 64 (bit_or set found) (left_after set left found) < unexpanded 64 set todo
    unfolding unexpanded Within
    pending_less =
        count_less 64 (λ k. not (holds (bit_or set found) (suc k)) || holds (left_after set left found) (suc k))
        (λ k. not (holds set (suc k)) || holds todo (suc k)) fewer place taken.in_range
        (not_true_false (not (holds (bit_or set found) (suc place)) || holds (left_after set left found) (suc place))
        (λ t. clash (eq-eqb (suc place) (suc place) refl) (left_before (suc place) (omega arith) (pending (suc place) (omega arith) (taken_in taken)) t).1))
        (or_r (not (holds set (suc place))) (holds todo (suc place)) (taken_in taken))
      where
        fewer : (k : ℕ) → k < 64 → (not (holds (bit_or set found) (suc k)) || holds (left_after set left found) (suc k)) ≡ true →
            (not (holds set (suc k)) || holds todo (suc k)) ≡ true
        fewer k l t =
            by_bool (holds set (suc k)) (λ r. or_r (not (holds set (suc k))) (holds todo (suc k)) (left_before (suc k) (omega arith) r t).0)
            (λ r. or_l (not (holds set (suc k))) (holds todo (suc k)) (ap not r))
