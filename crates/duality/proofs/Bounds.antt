-- Weights of directed cuts that costs can carry sum to at most the cost of a joining choice; where they sum to it, each chosen row is fully loaded and each cut is entered once. Assumes nothing.
use mathlib.Core.Path.{◌≡◌, refl}
use mathlib.Core.Bool.{true, cond}
use mathlib.Core.List.{List, [], ◌∷◌}
use Prim.Native.Nat.{ℕ, zero, suc, ◌*◌, ◌<◌, ◌≤◌}
use native.Mathlib.Nat.{mul-le-mul_left}
use native.Mathlib.Omega.{arith}
use lib.ListN.{length, get_or}
use Rattle.hall.specs.Hall.{Hall, row, count, enters, is_choice, entering, member}
use Rattle.hall.specs.Plan.{Cut, cuts_good, load, weight_sum}
use Rattle.dicuts.proofs.Choices.{over, ascends_members, choice_ascends, choice_unfixed}
use Rattle.duality.specs.Weighted.{weight_met, MeetsAll, Carried}
use Rattle.duality.proofs.Over.{over_add, over_zero, over_entering, over_le, over_same}
use Rattle.duality.proofs.Cuts.{good_cut, good_weight, good_rest}

-- loads summed row by row are weights summed cut by cut
pub loads_met : (h : Hall) (ks : List Cut) (d : List ℕ) → over (λ i. load ks (row h i)) d ≡ weight_met h ks d
unfolding weight_met load
loads_met h [] d = over_zero d
loads_met h (k ∷ ks) d =
    omega (arith, over_add (λ i. cond (enters k.shore (row h i)) k.weight 0) (λ i. load ks (row h i)) d, over_entering h k.shore k.weight d, loads_met h ks d)

-- a number of times that is at least one gives at least once
at_least_once : (w e : ℕ) → 1 ≤ e → w ≤ w * e
at_least_once w e h = omega (arith, mul-le-mul_left w h)

just_once : (w e : ℕ) → 1 ≤ w → 1 ≤ e → w * e ≤ w → e ≡ 1
just_once w zero l h le = absurd (omega arith)
just_once w (suc zero) l h le = refl
just_once w (suc (suc e)) l h le = let two : 2 ≤ suc (suc e) = omega arith in absurd (omega (arith, mul-le-mul_left w two))

module _ (h : Hall) (d : List ℕ) (meeting : MeetsAll h d) where
  pub weights_met : (a : ℕ) (ks : List Cut) → cuts_good h a ks ≡ true → weight_sum ks ≤ weight_met h ks d
  unfolding weight_sum weight_met MeetsAll
  weights_met a [] good = omega arith
  weights_met a (k ∷ ks) good =
      omega (arith, at_least_once k.weight (entering h k.shore d) (meeting k.shore (good_cut h a k ks good)), weights_met (suc k.shore) ks (good_rest h a k ks good))

  met_once : (a : ℕ) (ks : List Cut) → cuts_good h a ks ≡ true → weight_met h ks d ≡ weight_sum ks
      → (j : ℕ) (none : Cut) → j < length ks → entering h (get_or ks j none).shore d ≡ 1
  unfolding weight_sum weight_met MeetsAll
  met_once a [] good same j none l = absurd (omega arith)
  met_once a (k ∷ ks) good same zero none l =
      let met = meeting k.shore (good_cut h a k ks good) in
      just_once k.weight (entering h k.shore d) (good_weight h a k ks good) met
      (omega (arith, weights_met (suc k.shore) ks (good_rest h a k ks good)))
  met_once a (k ∷ ks) good same (suc j) none l =
      met_once (suc k.shore) ks (good_rest h a k ks good)
      (omega
      (arith, at_least_once k.weight (entering h k.shore d) (meeting k.shore (good_cut h a k ks good)), weights_met (suc k.shore) ks (good_rest h a k ks good)))
      j none (omega arith)

  module _ (choice : is_choice h d ≡ true) (ks : List Cut) (a : ℕ) (good : cuts_good h a ks ≡ true) (cost : ℕ → ℕ) (carried : Carried h cost ks) where
    chosen_carried : (i : ℕ) → member i d ≡ true → load ks (row h i) ≤ cost i
    unfolding Carried
    chosen_carried i e =
        let within = ascends_members (count h) 1 d i (choice_ascends h d choice) e in carried i within.0 within.1 (choice_unfixed h d i choice e)

    -- over any costs that carry the weights
    pub weights_below : weight_sum ks ≤ over cost d
    weights_below = omega (arith, weights_met a ks good, loads_met h ks d, over_le (λ i. load ks (row h i)) cost d chosen_carried)

    module _ (sum : weight_sum ks ≡ over cost d) where
      pub loads_full : (i : ℕ) → member i d ≡ true → load ks (row h i) ≡ cost i
      loads_full =
          over_same (λ i. load ks (row h i)) cost d chosen_carried
          (omega (arith, weights_met a ks good, loads_met h ks d, over_le (λ i. load ks (row h i)) cost d chosen_carried))

      pub cuts_met_once : (j : ℕ) (none : Cut) → j < length ks → entering h (get_or ks j none).shore d ≡ 1
      cuts_met_once =
          met_once a ks good (omega (arith, weights_met a ks good, loads_met h ks d, over_le (λ i. load ks (row h i)) cost d chosen_carried))
