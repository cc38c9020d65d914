-- A test that at least two numbers pass: each number has another that passes, and two different ones are enough. Assumes nothing.
use mathlib.Core.Path.{◌≡◌, refl, ap}
use mathlib.Core.Bool.{Bool, true, false, ◌&&◌, not}
use Prim.Native.Nat.{ℕ, ◌≤◌, ◌<◌}
use native.Mathlib.Omega.{arith}
use lib.Dec.{eqb}
use borrow.Author.Tests.{eq-eqb, ne_eqb, eqb-true, eqb-false, not-true}
use Rattle.laws.specs.Finite.{count_below}
use Rattle.laws.proofs.Booleans.{by_bool, clash, and_l, and_r, and_i}
use Rattle.laws.proofs.Connectives.{and_false_r}
use Rattle.laws.proofs.Counts.{count-alone}
use Rattle.laws.proofs.Finite.{decide_below}
use Rattle.laws.proofs.Growth.{count_less}

pub count_other :
    (n : ℕ) (p : ℕ → Bool) → 2 ≤ count_below n p → (j : ℕ) → (k : ℕ) × (k < n) × (k ≡ j → ⊥) × (p k ≡ true)
count_other n p two j =
    decide_below n (λ k. p k && not (eqb k j))
    (λ k l e. (k, l, eqb-false k j (not-true (eqb k j) (and_r (p k) (not (eqb k j)) e)), and_l (p k) (not (eqb k j)) e))
    (λ none.
    let same : (k : ℕ) → k < n → p k ≡ true → k ≡ j =
    λ k l e. by_bool (eqb k j) (λ t. eqb-true k j t) (λ t. clash (and_i (p k) (not (eqb k j)) e (ap not t)) (none k l)) in
    absurd (omega (arith, count-alone n p (λ s t ls lt es et. omega (arith, same s ls es, same t lt et)))))

pub count_twice :
    (n : ℕ) (p : ℕ → Bool) (s t : ℕ) → s < n → t < n → (s ≡ t → ⊥) → p s ≡ true → p t ≡ true → 2 ≤ count_below n p
count_twice n p s t ls lt differ ps pt =
    let rest : ℕ → Bool = λ k. p k && not (eqb k s) in
    omega (
      arith,
      count_less n (λ k. false) rest (λ k l e. clash e refl) t lt refl
          (and_i (p t) (not (eqb t s)) pt (ap not (ne_eqb t s (λ e. differ (omega arith))))),
      count_less n rest p (λ k l e. and_l (p k) (not (eqb k s)) e) s ls
          (and_false_r (p s) (not (eqb s s)) (ap not (eq-eqb s s refl))) ps,
    )
