-- In a total order the ascending lists that pass a test have a least one, or none passes. Assumes nothing.
use mathlib.Core.Path.{◌≡◌, refl, sym, ap, ◌∙◌}
use mathlib.Core.Bool.{Bool, true}
use mathlib.Core.List.{List, [], ◌∷◌}
use mathlib.Core.Logic.{◌⊎◌, inl, inr, ⊎_elim}
use Prim.Native.Nat.{ℕ, zero, suc, ◌+◌, ◌≤◌}
use native.Mathlib.Omega.{arith}
use lib.Dec.{eqb}
use borrow.Author.Tests.{eqb-true, eqb-false}
use Rattle.laws.proofs.Booleans.{by_bool, clash}
use Rattle.hall.specs.Hall.{ascends_from}
use Rattle.dicuts.proofs.Choices.{ascends_low, ascends_high, ascends_rest, ascends_cons, ascends_earlier}
use Rattle.order.specs.Least.{AtMost, Order, Outcome, Passes, After}

module _ (A : Type 0) (before : A → A → Bool) (order : Order A before) where
  pub at_most_trans : (c d e : A) → AtMost before c d → AtMost before d e → AtMost before c e
  unfolding AtMost
  at_most_trans c d e p q =
      ⊎_elim (λ (s : c ≡ d). rw s q)
      (λ (s : before c d ≡ true). ⊎_elim (λ (t : d ≡ e). inr (rw t at s)) (λ (t : before d e ≡ true). inr (order.trans c d e s t)) q) p

  pub at_most_total : (c d : A) → AtMost before c d ⊎ AtMost before d c
  unfolding AtMost
  at_most_total c d =
      ⊎_elim (λ (e : c ≡ d). inl (inl e)) (⊎_elim (λ (p : before c d ≡ true). inl (inr p)) (λ (p : before d c ≡ true). inr (inr p))) (order.total c d)

  -- the least of two kinds of things
  pub least_union : (P Q : A → Type 0) → Outcome A before P → Outcome A before Q → Outcome A before (λ x. P x ⊎ Q x)
  least_union P Q (inr p) (inr q) = inr (λ d. ⊎_elim (p d) (q d))
  least_union P Q (inl p) (inr q) =
      inl (p.0, record { in_it = inl p.1.in_it; least = λ d. ⊎_elim (p.1.least d) (λ (t : Q d). absurd (q d t)) })
  least_union P Q (inr p) (inl q) =
      inl (q.0, record { in_it = inr q.1.in_it; least = λ d. ⊎_elim (λ (t : P d). absurd (p d t)) (q.1.least d) })
  least_union P Q (inl p) (inl q) =
      ⊎_elim
      (λ (m : AtMost before p.0 q.0).
      inl (p.0, record { in_it = inl p.1.in_it; least = λ d. ⊎_elim (p.1.least d) (λ (t : Q d). at_most_trans p.0 q.0 d m (q.1.least d t)) }))
      (λ (m : AtMost before q.0 p.0).
      inl (q.0, record { in_it = inr q.1.in_it; least = λ d. ⊎_elim (λ (t : P d). at_most_trans q.0 p.0 d m (p.1.least d t)) (q.1.least d) }))
      (at_most_total p.0 q.0)

  pub least_same : (P Q : A → Type 0) → ((x : A) → P x → Q x) → ((x : A) → Q x → P x) → Outcome A before P → Outcome A before Q
  least_same P Q f g (inl p) = inl (p.0, record { in_it = f p.0 p.1.in_it; least = λ d t. p.1.least d (g d t) })
  least_same P Q f g (inr p) = inr (λ d t. p d (g d t))

-- the order of lists that all begin with a
after_order : (before : List ℕ → List ℕ → Bool) (a : ℕ) → Order (List ℕ) before → Order (List ℕ) (λ c d. before (a ∷ c) (a ∷ d))
after_order before a order =
    record {
      trans = λ c d e. order.trans (a ∷ c) (a ∷ d) (a ∷ e);
      total = λ c d. ⊎_elim (λ (q : a ∷ c ≡ a ∷ d). inl (cc)) (λ (q : (before (a ∷ c) (a ∷ d) ≡ true) ⊎ (before (a ∷ d) (a ∷ c) ≡ true)). inr q) (order.total (a ∷ c) (a ∷ d));
    }

after_least : (before : List ℕ → List ℕ → Bool) (a l : ℕ) (p : List ℕ → Bool)
    → Outcome (List ℕ) (λ c d. before (a ∷ c) (a ∷ d)) (Passes (suc a) l (λ x. p (a ∷ x))) → Outcome (List ℕ) before (After a l p)
unfolding AtMost
after_least before a l p (inr none) = inr (λ d t. none t.0 t.2)
after_least before a l p (inl w) =
    inl (
      a ∷ w.0,
      record {
        in_it = (w.0, refl, w.1.in_it);
        least = λ d t.
            ⊎_elim (λ (q : w.0 ≡ t.0). inl (ap (λ (e : List ℕ). a ∷ e) q ∙ sym t.1))
            (λ (q : before (a ∷ w.0) (a ∷ t.0) ≡ true). inr (rw t.1 q)) (w.1.least t.0 t.2);
      },
    )

-- an ascending list from a begins with a, or ascends from suc a
pub split_first : (a l : ℕ) (p : List ℕ → Bool) (d : List ℕ) → Passes a l p d → Passes (suc a) l p d ⊎ After a l p d
unfolding ascends_from
split_first a l p [] t = inl (refl, t.1)
split_first a l p (x ∷ xs) t =
    let low = ascends_low a l x xs t.0 in
    let high = ascends_high a l x xs t.0 in
    let rest = ascends_rest a l x xs t.0 in
    by_bool (eqb a x) (λ e. let q : a ≡ x = eqb-true a x e in inr (xs, rw q refl, (rw q rest, rw q t.1)))
    (λ e. let ne = eqb-false a x e in inl (ascends_cons (suc a) l x xs (omega arith) high rest, t.1))

join_first : (a l : ℕ) (p : List ℕ → Bool) (d : List ℕ) → a ≤ l → Passes (suc a) l p d ⊎ After a l p d → Passes a l p d
join_first a l p d h (inl t) = (ascends_earlier a (suc a) l d (omega arith) t.0, t.1)
join_first a l p d h (inr t) = rw t.1 (ascends_cons a l a t.0 (omega arith) h t.2.0, t.2.1)

pub only_empty : (l : ℕ) (d : List ℕ) → ascends_from (suc l) l d ≡ true → d ≡ []
only_empty l [] e = refl
only_empty l (x ∷ xs) e = absurd (omega (arith, ascends_low (suc l) l x xs e, ascends_high (suc l) l x xs e))

pub least_passing : (left a l : ℕ) → a + left ≡ suc l → (p : List ℕ → Bool) (before : List ℕ → List ℕ → Bool) → Order (List ℕ) before
    → Outcome (List ℕ) before (Passes a l p)
unfolding AtMost ascends_from
least_passing zero a l e p before order =
    let at : a ≡ suc l = omega arith in
    by_bool (p []) (λ t. inl ([], record { in_it = (refl, t); least = λ d q. inl (sym (only_empty l d (rw at at q.0))) }))
    (λ t. inr (λ d q. clash q.1 (rw (only_empty l d (rw at at q.0)) t)))
least_passing (suc k) a l e p before order =
    least_same (List ℕ) before order (λ d. Passes (suc a) l p d ⊎ After a l p d) (Passes a l p) (λ d. join_first a l p d (omega arith)) (split_first a l p)
    (least_union (List ℕ) before order (Passes (suc a) l p) (After a l p) (least_passing k (suc a) l (omega arith) p before order)
    (after_least before a l p (least_passing k (suc a) l (omega arith) (λ x. p (a ∷ x)) (λ c d. before (a ∷ c) (a ∷ d)) (after_order before a order))))
