-- With at most 256 rows, the ranked cost orders choices by total, then by row count. Assumes nothing.
use mathlib.Core.Path.{◌≡◌, refl, sym, ◌∙◌}
use mathlib.Core.Bool.{Bool, true, false}
use mathlib.Core.List.{List, [], ◌∷◌}
use mathlib.Core.Logic.{◌⊎◌, inl, inr, ⊎_elim}
use Prim.Native.Nat.{ℕ, ◌+◌, ◌*◌, ◌<◌, ◌≤◌}
use native.Mathlib.Omega.{arith}
use lib.ListN.{length}
use Rattle.laws.proofs.Numbers.{compare-numbers}
use Rattle.hall.specs.Hall.{Hall, row, count, is_choice}
use Rattle.hall.specs.Plan.{total, earlier, goes_before}
use Rattle.dicuts.proofs.Choices.{over, over_ext, choice_length, choice_unfixed, total_over}
use Rattle.order.specs.Precedes.{by_total, by_length, by_dictionary}
use Rattle.order.specs.Ranked.{charge_of, charge, ranked}
use Rattle.order.proofs.Before.{before_of}

-- where the price is within its limit, no charge is over that of a fixed row
pub charge_most : (fixed : Bool) (price : ℕ) → price ≤ 1000000 → charge_of fixed price ≤ 256000001
unfolding charge_of
charge_most true price low = omega arith
charge_most false price low = omega arith

-- the charge of a row that is not fixed, and of one that is
pub charge_price : (h : Hall) (i : ℕ) → (row h i).fixed ≡ false → charge h i ≡ (row h i).price
unfolding charge charge_of
charge_price h i e = rw e

pub charge-fixed : (h : Hall) (i : ℕ) → (row h i).fixed ≡ true → charge h i ≡ 256000001
unfolding charge charge_of
charge-fixed h i e = rw e

-- the charges of a choice are its total
pub charge-total : (h : Hall) (c : List ℕ) → is_choice h c ≡ true → over (charge h) c ≡ total h c
charge-total h c e = over_ext (charge h) (λ i. (row h i).price) c (λ i t. charge_price h i (choice_unfixed h c i e t)) ∙ sym (total_over h c)

pub ranked_charges : (h : Hall) (c : List ℕ) → over (ranked h) c ≡ 257 * over (charge h) c + length c
unfolding over ranked
ranked_charges h [] = refl
ranked_charges h (i ∷ is) = omega (arith, ranked_charges h is)

pub ranked-sum : (h : Hall) (c : List ℕ) → is_choice h c ≡ true → over (ranked h) c ≡ 257 * total h c + length c
ranked-sum h c e = omega (arith, ranked_charges h c, charge-total h c e)

module _ (h : Hall) (few : count h ≤ 256) (c d : List ℕ) (c_choice : is_choice h c ≡ true) (d_choice : is_choice h d ≡ true) where
  pub ranked_less : over (ranked h) c < over (ranked h) d → (total h c < total h d) ⊎ ((total h c ≡ total h d) × (length c < length d))
  ranked_less l =
      let m = choice_length h d d_choice in
      let sum_c = ranked-sum h c c_choice in
      let sum_d = ranked-sum h d d_choice in
      ⊎_elim (λ (e : total h c ≡ total h d). inr (e, omega arith))
      (⊎_elim (λ (k : total h c < total h d). inl k) (λ (k : total h d < total h c). absurd (omega arith))) (compare-numbers (total h c) (total h d))

  pub ranked_same : over (ranked h) c ≡ over (ranked h) d → (total h c ≡ total h d) × (length c ≡ length d)
  ranked_same e =
      let m = choice_length h c c_choice in
      let n = choice_length h d d_choice in
      let sum_c = ranked-sum h c c_choice in
      let sum_d = ranked-sum h d d_choice in
      omega arith

  -- a smaller ranked cost goes before
  pub ranked_before : over (ranked h) c < over (ranked h) d → goes_before h c d ≡ true
  ranked_before l =
      ⊎_elim (λ (k : total h c < total h d). before_of h c d (by_total k))
      (λ (k : (total h c ≡ total h d) × (length c < length d)). before_of h c d (by_length k.0 k.1)) (ranked_less l)

  -- at the same ranked cost the dictionary decides
  pub dictionary_before : over (ranked h) c ≡ over (ranked h) d → earlier c d ≡ true → goes_before h c d ≡ true
  dictionary_before e t = let s = ranked_same e in before_of h c d (by_dictionary s.0 s.1 t)
