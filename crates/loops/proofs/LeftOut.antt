-- A choice without one of its rows is a choice of fewer rows that costs no more. Assumes nothing.
use mathlib.Core.Path.{◌≡◌, refl, sym, ◌∙◌}
use mathlib.Core.Bool.{true, not, ◌&&◌}
use mathlib.Core.List.{List, [], ◌∷◌}
use Prim.Native.Nat.{ℕ, suc, ◌≤◌, ◌<◌}
use native.Mathlib.Omega.{arith}
use lib.Dec.{eqb}
use lib.ListN.{length}
use borrow.Author.Tests.{eqb-true, eqb-false, ne_eqb}
use Rattle.laws.proofs.Booleans.{by_bool, clash, and_r}
use Rattle.hall.specs.Hall.{Hall, count, ascends_from, is_choice, member}
use Rattle.hall.specs.Plan.{total}
use Rattle.dicuts.proofs.Choices.{ascends_low, ascends_high, ascends_rest, ascends_cons, ascends_earlier, choice_ascends, choice_unfixed, ascends_choice}
use Rattle.loops.specs.Loops.{left_out}

module _ (i : ℕ) where
  left_out_ascends : (a l : ℕ) (c : List ℕ) → ascends_from a l c ≡ true → ascends_from a l (left_out i c) ≡ true
  unfolding left_out
  left_out_ascends a l [] t = t
  left_out_ascends a l (x ∷ xs) t =
      let low = ascends_low a l x xs t in
      let rest = left_out_ascends (suc x) l xs (ascends_rest a l x xs t) in
      by_bool (eqb x i) (λ e. rw e (ascends_earlier a (suc x) l (left_out i xs) (omega arith) rest))
      (λ e. rw e (ascends_cons a l x (left_out i xs) low (ascends_high a l x xs t) rest))

  -- i goes, every other number stays
  pub left_out-member : (v : ℕ) (c : List ℕ) → member v (left_out i c) ≡ (not (eqb v i) && member v c)
  unfolding left_out member
  left_out-member v [] = by_bool (eqb v i) (λ q. rw q) (λ q. rw q)
  left_out-member v (x ∷ xs) =
      by_bool (eqb v i)
      (λ q.
      by_bool (eqb x i) (λ e. rw (e, left_out-member v xs, q))
      (λ e. rw (e, ne_eqb x v (λ z. eqb-false x i e (omega (arith, eqb-true v i q))), left_out-member v xs, q)))
      (λ q.
      by_bool (eqb x i) (λ e. rw (e, ne_eqb x v (λ z. eqb-false v i q (omega (arith, eqb-true x i e))), left_out-member v xs, q))
      (λ e. rw (e, left_out-member v xs, q)))

  pub left_out-is_choice : (h : Hall) (c : List ℕ) → is_choice h c ≡ true → is_choice h (left_out i c) ≡ true
  left_out-is_choice h c t =
      ascends_choice h (left_out i c) (left_out_ascends 1 (count h) c (choice_ascends h c t)) (λ j m. choice_unfixed h c j t (and_r (not (eqb j i)) (member j c) (sym (left_out-member j c) ∙ m)))

  left_out-length : (c : List ℕ) → length (left_out i c) ≤ length c
  unfolding left_out
  left_out-length [] = omega arith
  left_out-length (x ∷ xs) =
      by_bool (eqb x i) (λ e. rw e (omega (arith, left_out-length xs))) (λ e. rw e (omega (arith, left_out-length xs)))

  pub left_out_shorter : (c : List ℕ) → member i c ≡ true → length (left_out i c) < length c
  unfolding left_out member
  left_out_shorter [] m = clash m refl
  left_out_shorter (x ∷ xs) m =
      by_bool (eqb x i) (λ e. rw e (omega (arith, left_out-length xs)))
      (λ e. rw e (omega (arith, left_out_shorter xs (rw e at m))))

  pub left_out-total : (h : Hall) (c : List ℕ) → total h (left_out i c) ≤ total h c
  unfolding left_out total
  left_out-total h [] = omega arith
  left_out-total h (x ∷ xs) =
      by_bool (eqb x i) (λ e. rw e (omega (arith, left_out-total h xs))) (λ e. rw e (omega (arith, left_out-total h xs)))
