-- A set of rows is listed in ascending order, with its rows as members; it is a choice where none of them is fixed. Assumes nothing.
use mathlib.Core.Path.{◌≡◌, refl, sym, ap, ◌∙◌}
use mathlib.Core.Bool.{Bool, true}
use Prim.Native.Nat.{ℕ, zero, suc, ◌+◌, ◌≤◌, ◌<◌}
use native.Mathlib.Omega.{arith}
use lib.Dec.{eqb}
use borrow.Author.Tests.{eqb-true, eqb-false}
use Rattle.laws.proofs.Booleans.{by_bool}
use Rattle.hall.specs.Hall.{Hall, count, ascends_from, is_choice, member}
use Rattle.dicuts.specs.Listed.{passing, listed, NoneFixed}
use Rattle.dicuts.proofs.Choices.{ascends_skips, ascends_cons, ascends_earlier, ascends_members, ascends_choice}

-- the numbers that pass a test
pub passing_ascends : (left a l : ℕ) (F : ℕ → Bool) → a + left ≤ suc l → ascends_from a l (passing left a F) ≡ true
unfolding passing ascends_from
passing_ascends zero a l F h = refl
passing_ascends (suc k) a l F h =
    let rest = passing_ascends k (suc a) l F (omega arith) in
    by_bool (F a) (λ e. rw e (ascends_cons a l a (passing k (suc a) F) (omega arith) (omega arith) rest))
    (λ e. rw e (ascends_earlier a (suc a) l (passing k (suc a) F) (omega arith) rest))

pub passing-member : (left a : ℕ) (F : ℕ → Bool) (i : ℕ) → a ≤ i → i < a + left → member i (passing left a F) ≡ F i
unfolding passing member
passing-member zero a F i low high = absurd (omega arith)
passing-member (suc k) a F i low high =
    by_bool (eqb a i)
    (λ q.
    let here : a ≡ i = eqb-true a i q in
    by_bool (F a) (λ e. rw (e, q) (sym e ∙ ap F here))
    (λ e. rw e (ascends_skips (suc a) (a + k) (passing k (suc a) F) i (passing_ascends k (suc a) (a + k) F (omega arith)) (omega arith) ∙ sym e ∙ ap F here)))
    (λ q.
    let up = passing-member k (suc a) F i (omega (arith, eqb-false a i q)) (omega arith) in
    by_bool (F a) (λ e. rw (e, q) up) (λ e. rw e up))

module _ (h : Hall) where
  pub listed_ascends : (F : ℕ → Bool) → ascends_from 1 (count h) (listed h F) ≡ true
  unfolding listed
  listed_ascends F = passing_ascends (count h) 1 (count h) F (omega arith)

  pub listed-member : (F : ℕ → Bool) (i : ℕ) → 1 ≤ i → i ≤ count h → member i (listed h F) ≡ F i
  unfolding listed
  listed-member F i low high = passing-member (count h) 1 F i low (omega arith)

  pub listed_choice : (F : ℕ → Bool) → NoneFixed h F → is_choice h (listed h F) ≡ true
  listed_choice F unfixed =
      ascends_choice h (listed h F) (listed_ascends F)
      (λ i t. let within = ascends_members (count h) 1 (listed h F) i (listed_ascends F) t in
      unfixed i within.0 within.1 (sym (listed-member F i within.0 within.1) ∙ t))
