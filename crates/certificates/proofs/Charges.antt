-- What sets of rows are charged: a choice its total, and a set without fixed rows at most 256,000,000, which a fixed row is over. Assumes nothing.
use mathlib.Core.Path.{◌≡◌, sym, ◌∙◌}
use mathlib.Core.Bool.{Bool, true}
use mathlib.Core.List.{List}
use Prim.Native.Nat.{ℕ, ◌+◌, ◌*◌, ◌≤◌}
use native.Mathlib.Nat.{mul-le-mul_right}
use native.Mathlib.Omega.{arith}
use lib.ListN.{length}
use Rattle.laws.proofs.Booleans.{by_bool}
use Rattle.hall.specs.Hall.{Hall, row, count, is_choice, member}
use Rattle.hall.specs.Plan.{total}
use Rattle.dicuts.specs.Shores.{unfixed_row}
use Rattle.dicuts.specs.Listed.{listed, NoneFixed}
use Rattle.dicuts.proofs.Choices.{choice_length, choice_unfixed}
use Rattle.dicuts.proofs.Listed.{listed_choice}
use Rattle.dicuts.proofs.Unfixed.{unfixed_none}
use Rattle.potentials.specs.Potential.{cost}
use Rattle.potentials.proofs.Starts.{cost_most, cost_row}
use Rattle.order.specs.Ranked.{charge, ranked, Plannable}
use Rattle.order.proofs.Ranked.{charge_price, charge-fixed, charge-total, ranked_charges}
use Rattle.choicelists.proofs.Totals.{over_choice, over_listed}

module _ (h : Hall) where
  -- a set that is charged no more than any choice may cost has no fixed row
  pub cheap_unfixed : (F : ℕ → Bool) → cost h (charge h) F ≤ 256000000 → NoneFixed h F
  cheap_unfixed F cheap i l u in_it =
      by_bool (row h i).fixed (λ e. absurd (omega (arith, cheap, cost_row h (charge h) F i l u in_it, charge-fixed h i e))) (λ e. e)

  pub choice_charges : (c : List ℕ) → is_choice h c ≡ true → cost h (charge h) (λ i. member i c) ≡ total h c
  unfolding cost
  choice_charges c choice = sym (over_choice h (charge h) c choice) ∙ charge-total h c choice

  pub listed_charges : (F : ℕ → Bool) → NoneFixed h F → cost h (charge h) F ≡ total h (listed h F)
  unfolding cost
  listed_charges F unfixed = sym (over_listed h (charge h) F) ∙ charge-total h (listed h F) (listed_choice h F unfixed)

  -- at ranked costs, the charges and the number of rows
  ranked-charged : (F : ℕ → Bool) → cost h (ranked h) F ≡ 257 * cost h (charge h) F + length (listed h F)
  unfolding cost
  ranked-charged F = omega (arith, over_listed h (ranked h) F, ranked_charges h (listed h F), over_listed h (charge h) F)

  module _ (able : Plannable h) where
    unfixed_cheap : (F : ℕ → Bool) → NoneFixed h F → cost h (charge h) F ≤ 256000000
    unfixed_cheap F unfixed =
        omega (
          arith,
          cost_most h (charge h) F 1000000 (λ i l u t. omega (arith, charge_price h i (unfixed i l u t), able.low i l u)),
          mul-le-mul_right {m = count h} {n = 256} 1000000 able.few,
        )

    pub choice_cheap : (c : List ℕ) → is_choice h c ≡ true → total h c ≤ 256000000
    choice_cheap c choice = omega (arith, choice_charges c choice, unfixed_cheap (λ i. member i c) (λ i l u t. choice_unfixed h c i choice t))

    pub rest_cheap : cost h (charge h) (unfixed_row h) ≤ 256000000
    rest_cheap = unfixed_cheap (unfixed_row h) (unfixed_none h)

    -- a set that costs no more than the rows that are not fixed, at ranked costs, has no fixed row
    pub ranked-unfixed : (F : ℕ → Bool) → cost h (ranked h) F ≤ cost h (ranked h) (unfixed_row h) → NoneFixed h F
    ranked-unfixed F most =
        cheap_unfixed F
        (omega (
          arith,
          most,
          ranked-charged F,
          ranked-charged (unfixed_row h),
          rest_cheap,
          choice_length h (listed h (unfixed_row h)) (listed_choice h (unfixed_row h) (unfixed_none h)),
          able.few,
        ))
