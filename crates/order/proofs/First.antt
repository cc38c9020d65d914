-- Where some choice joins, one joining choice goes before every other, and only one does; none goes before it, and none costs less. Assumes nothing.
use mathlib.Core.Path.{◌≡◌, ap}
use mathlib.Core.Bool.{Bool, true, ◌&&◌}
use mathlib.Core.List.{List}
use mathlib.Core.Logic.{⊎_elim}
use Prim.Native.Nat.{ℕ, ◌≤◌}
use native.Mathlib.Omega.{arith}
use Rattle.laws.proofs.Booleans.{and_l, and_r, and_i}
use Rattle.hall.specs.Hall.{Hall, count, ascends_from, none_fixed, is_choice, joins}
use Rattle.hall.specs.Plan.{total, goes_before, First}
use Rattle.dicuts.proofs.Choices.{choice_ascends}
use Rattle.order.specs.Least.{AtMost, Order, Least, Passes}
use Rattle.order.proofs.Before.{before_irreflexive, before_trans, before_total, before_most}
use Rattle.order.proofs.Least.{least_passing}

module _ (h : Hall) where
  pub before_order : Order (List ℕ) (goes_before h)
  before_order = record { trans = before_trans h; total = before_total h }

  -- no row is fixed, and the list passes
  abbrev unfixed-passing : (p : List ℕ → Bool) → List ℕ → Bool
  unfixed-passing p d = none_fixed h d && p d

  choice_passes : (p : List ℕ → Bool) (d : List ℕ) → is_choice h d ≡ true → p d ≡ true → Passes 1 (count h) (unfixed-passing p) d
  unfolding is_choice
  choice_passes p d t s = (choice_ascends h d t, and_i (none_fixed h d) (p d) (and_r (ascends_from 1 (count h) d) (none_fixed h d) t) s)

  -- of the choices that pass a test, one goes before every other
  pub least_choice : (p : List ℕ → Bool) (c : List ℕ) → is_choice h c ≡ true → p c ≡ true
      → (d : List ℕ) × (is_choice h d ≡ true) × (p d ≡ true) × ((e : List ℕ) → is_choice h e ≡ true → p e ≡ true → (d ≡ e → ⊥) → goes_before h d e ≡ true)
  unfolding is_choice AtMost
  least_choice p c choice passing =
      ⊎_elim
      (λ (w : (d : List ℕ) × Least (List ℕ) (goes_before h) (Passes 1 (count h) (unfixed-passing p)) d). (
        w.0,
        and_i (ascends_from 1 (count h) w.0) (none_fixed h w.0) w.1.in_it.0 (and_l (none_fixed h w.0) (p w.0) w.1.in_it.1),
        and_r (none_fixed h w.0) (p w.0) w.1.in_it.1,
        λ e t s ne. ⊎_elim (λ (q : w.0 ≡ e). absurd (ne q)) (λ (q : goes_before h w.0 e ≡ true). q) (w.1.least e (choice_passes p e t s)),
      ))
      (λ (none : (d : List ℕ) → Passes 1 (count h) (unfixed-passing p) d → ⊥). absurd (none c (choice_passes p c choice passing)))
      (least_passing (count h) 1 (count h) (omega arith) (unfixed-passing p) (goes_before h) before_order)

  pub first_there : (c : List ℕ) → is_choice h c ≡ true → joins h c ≡ true → (d : List ℕ) × First h d
  first_there c choice joining =
      let w = least_choice (joins h) c choice joining in
      (w.0, record { choice = w.1; joining = w.2; before = w.3 })

  -- no joining choice goes before the first
  pub none_before : (c d : List ℕ) → First h c → is_choice h d ≡ true → joins h d ≡ true → goes_before h d c ≡ true → ⊥
  none_before c d first choice joining p =
      let other : c ≡ d → ⊥ = λ q. before_irreflexive h d (rw q at p) in
      before_irreflexive h c (before_trans h c d c (first.before d choice joining other) p)

  pub first_alone : (c d : List ℕ) → First h c → First h d → c ≡ d
  first_alone c d f g =
      ⊎_elim (λ (q : c ≡ d). q)
      (⊎_elim (λ (p : goes_before h c d ≡ true). absurd (none_before d c g f.choice f.joining p))
      (λ (p : goes_before h d c ≡ true). absurd (none_before c d f g.choice g.joining p)))
      (before_total h c d)

  -- no joining choice costs less than the first
  pub first_least : (c d : List ℕ) → First h c → is_choice h d ≡ true → joins h d ≡ true → total h c ≤ total h d
  first_least c d first choice joining =
      ⊎_elim (λ (q : c ≡ d). omega (arith, ap (total h) q))
      (⊎_elim (λ (p : goes_before h c d ≡ true). before_most h c d p)
      (λ (p : goes_before h d c ≡ true). absurd (none_before c d first choice joining p)))
      (before_total h c d)
