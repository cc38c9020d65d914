-- Sums over a list of row numbers add and compare place by place. Assumes nothing.
use mathlib.Core.Path.{◌≡◌, refl, ap}
use mathlib.Core.Bool.{true, cond}
use mathlib.Core.List.{List, [], ◌∷◌}
use mathlib.Core.Logic.{⊎_elim}
use Prim.Native.Nat.{ℕ, ◌+◌, ◌*◌, ◌≤◌}
use native.Mathlib.Nat.{zero-add}
use native.Mathlib.Omega.{arith}
use lib.Dec.{eqb}
use borrow.Author.Tests.{eqb-true}
use Rattle.laws.proofs.Booleans.{by_bool, clash, or_cases}
use Rattle.hall.specs.Hall.{Hall, row, enters, entering, member}
use Rattle.dicuts.proofs.Choices.{over, member_head, member_rest}

pub over_add : (f g : ℕ → ℕ) (d : List ℕ) → over (λ i. f i + g i) d ≡ over f d + over g d
unfolding over
over_add f g [] = refl
over_add f g (i ∷ is) = omega (arith, over_add f g is)

pub over_zero : (d : List ℕ) → over (λ i. 0) d ≡ 0
unfolding over
over_zero [] = refl
over_zero (i ∷ is) = omega (arith, over_zero is)

-- a weight, once for each row that enters
pub over_entering : (h : Hall) (s w : ℕ) (d : List ℕ) → over (λ i. cond (enters s (row h i)) w 0) d ≡ w * entering h s d
unfolding over entering
over_entering h s w [] = omega arith
over_entering h s w (i ∷ is) =
    by_bool (enters s (row h i)) (λ e. rw e (omega (arith, over_entering h s w is)))
    (λ e. rw e (omega (arith, over_entering h s w is, ap (λ (z : ℕ). w * z) (zero-add (entering h s is)))))

module _ (f g : ℕ → ℕ) where
  pub over_le : (d : List ℕ) → ((i : ℕ) → member i d ≡ true → f i ≤ g i) → over f d ≤ over g d
  unfolding over
  over_le [] le = omega arith
  over_le (x ∷ xs) le =
      omega (arith, le x (member_head x xs), over_le xs (λ i e. le i (member_rest i x xs e)))

  -- where sums are the same, so is every place
  pub over_same : (d : List ℕ) → ((i : ℕ) → member i d ≡ true → f i ≤ g i) → over f d ≡ over g d → (i : ℕ) → member i d ≡ true → f i ≡ g i
  unfolding over member
  over_same [] le same i e = clash e refl
  over_same (x ∷ xs) le same i e =
      let more : (j : ℕ) → member j xs ≡ true → f j ≤ g j = λ j q. le j (member_rest j x xs q) in
      let here = le x (member_head x xs) in
      let tail = over_le xs more in
      ⊎_elim (λ (q : eqb x i ≡ true). let r : x ≡ i = eqb-true x i q in rw (← r) (omega arith))
      (λ (q : member i xs ≡ true). over_same xs more (omega arith) i q) (or_cases (eqb x i) (member i xs) e)
