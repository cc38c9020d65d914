-- A joining set of rows of least ranked cost, all of them decided, is the first choice when it is listed. Assumes nothing.
use mathlib.Core.Path.{◌≡◌, refl}
use mathlib.Core.Bool.{Bool, true}
use mathlib.Core.List.{List}
use mathlib.Core.Logic.{⊎_elim}
use Prim.Native.Nat.{ℕ, ◌≤◌, ◌<◌}
use native.Mathlib.Omega.{arith}
use Rattle.laws.proofs.Numbers.{compare-numbers}
use Rattle.hall.specs.Hall.{Hall, count, is_choice, member, joins}
use Rattle.hall.specs.Plan.{First, earlier, goes_before}
use Rattle.dicuts.specs.Shores.{Ranged, once, unfixed_row, Joining}
use Rattle.dicuts.specs.Listed.{listed}
use Rattle.dicuts.proofs.Choices.{over}
use Rattle.dicuts.proofs.Listed.{listed_choice, listed-member}
use Rattle.joining.proofs.Joins.{joins_joining, listed-joins}
use Rattle.potentials.specs.Potential.{cost}
use Rattle.order.specs.Ranked.{ranked, Plannable}
use Rattle.order.proofs.Dictionary.{earlier-total}
use Rattle.order.proofs.Ranked.{ranked_same, ranked_before, dictionary_before}
use Rattle.choicelists.proofs.Totals.{over_choice, over_listed}
use Rattle.choicelists.proofs.Leads.{leads_ext, earlier-leads}
use Rattle.certificates.proofs.Charges.{ranked-unfixed}
use Rattle.deciding.specs.Decided.{Decided}

module _ (h : Hall) (ranged : Ranged h) (able : Plannable h) (F : ℕ → Bool) (joining : Joining h (once F))
    (least : (G : ℕ → Bool) → Joining h (once G) → cost h (ranked h) F ≤ cost h (ranked h) G) (decided : Decided h (ranked h) F (count h)) where
  is_chosen : is_choice h (listed h F) ≡ true
  is_chosen = listed_choice h F (ranked-unfixed h able F (least (unfixed_row h) able.joining))

  goes_first : (d : List ℕ) → is_choice h d ≡ true → joins h d ≡ true → (listed h F ≡ d → ⊥) → goes_before h (listed h F) d ≡ true
  unfolding cost Decided
  goes_first d choice joins_d ne =
      let c : List ℕ = listed h F in
      let G : ℕ → Bool = λ i. member i d in
      let joining_d : Joining h (once G) = joins_joining h ranged d joins_d in
      let below = least G joining_d in
      let cost_c = over_listed h (ranked h) F in
      let cost_d = over_choice h (ranked h) d choice in
      ⊎_elim
      (λ (e : over (ranked h) c ≡ over (ranked h) d).
      ⊎_elim (λ (q : c ≡ d). absurd (ne q))
      (⊎_elim (λ (t : earlier c d ≡ true). dictionary_before h able.few c d is_chosen choice e t)
      (λ (t : earlier d c ≡ true).
      absurd (decided G joining_d (omega arith) (leads_ext (count h) (λ i low high. refl) (listed-member h F) (earlier-leads h d c choice is_chosen t)))))
      (earlier-total c d (ranked_same h able.few c d is_chosen choice e).1))
      (⊎_elim (λ (l : over (ranked h) c < over (ranked h) d). ranked_before h able.few c d is_chosen choice l)
      (λ (l : over (ranked h) d < over (ranked h) c). absurd (omega arith)))
      (compare-numbers (over (ranked h) c) (over (ranked h) d))

  pub decided_first : First h (listed h F)
  decided_first = record { choice = is_chosen; joining = listed-joins h ranged F joining; before = goes_first }
