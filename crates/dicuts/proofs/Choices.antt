-- Choices: ascending lists of rows that are not fixed. A sum over a choice is a sum over all rows, by the members; its total is such a sum, and so are the rows that enter a shore. Assumes nothing.
use mathlib.Core.Path.{◌≡◌, refl, sym, ap, ◌∙◌}
use mathlib.Core.Bool.{Bool, true, false, ◌&&◌, ◌||◌, not, cond}
use mathlib.Core.List.{List, [], ◌∷◌}
use mathlib.Core.Logic.{⊎_elim}
use Prim.Native.Nat.{ℕ, suc, ◌+◌, ◌-◌, ◌<◌, ◌≤◌}
use native.Mathlib.Omega.{arith}
use lib.Dec.{eqb, leb}
use lib.ListN.{length}
use borrow.Author.Tests.{leb-true, le-leb, eqb-true, eqb-false, ne_eqb, eq-eqb, not-true}
use Rattle.laws.specs.Finite.{sum_below, one_if}
use Rattle.laws.proofs.Booleans.{by_bool, clash, and_l, and_r, and_i, or_cases, or_l, or_r}
use Rattle.laws.proofs.Finite.{sum_ext, sum_add, sum-zero, sum_one}
use Rattle.hall.specs.Hall.{Hall, row, count, enters, ascends_from, none_fixed, is_choice, entering, member}
use Rattle.hall.specs.Plan.{total}
use Rattle.dicuts.specs.Shores.{cover, once}

-- the sum of f over a list
unfoldable pub over : (f : ℕ → ℕ) → List ℕ → ℕ
over f [] = 0
over f (i ∷ is) = f i + over f is

-- the parts of an ascending list
pub ascends_low : (a l i : ℕ) (is : List ℕ) → ascends_from a l (i ∷ is) ≡ true → a ≤ i
unfolding ascends_from
ascends_low a l i is e = leb-true a i (and_l (leb a i) (leb i l) (and_l (leb a i && leb i l) (ascends_from (suc i) l is) e))

pub ascends_high : (a l i : ℕ) (is : List ℕ) → ascends_from a l (i ∷ is) ≡ true → i ≤ l
unfolding ascends_from
ascends_high a l i is e = leb-true i l (and_r (leb a i) (leb i l) (and_l (leb a i && leb i l) (ascends_from (suc i) l is) e))

pub ascends_rest : (a l i : ℕ) (is : List ℕ) → ascends_from a l (i ∷ is) ≡ true → ascends_from (suc i) l is ≡ true
unfolding ascends_from
ascends_rest a l i is e = and_r (leb a i && leb i l) (ascends_from (suc i) l is) e

-- what ascends from a number ascends with one before it, and from any earlier number
pub ascends_cons : (a l x : ℕ) (xs : List ℕ) → a ≤ x → x ≤ l → ascends_from (suc x) l xs ≡ true → ascends_from a l (x ∷ xs) ≡ true
unfolding ascends_from
ascends_cons a l x xs low high rest =
    and_i (leb a x && leb x l) (ascends_from (suc x) l xs) (and_i (leb a x) (leb x l) (le-leb a x low) (le-leb x l high)) rest

pub ascends_earlier : (a b l : ℕ) (d : List ℕ) → a ≤ b → ascends_from b l d ≡ true → ascends_from a l d ≡ true
unfolding ascends_from
ascends_earlier a b l [] h e = refl
ascends_earlier a b l (x ∷ xs) h e =
    ascends_cons a l x xs (omega (arith, ascends_low b l x xs e)) (ascends_high b l x xs e) (ascends_rest b l x xs e)

-- and to any higher limit
pub ascends_wider : (a l m : ℕ) (d : List ℕ) → l ≤ m → ascends_from a l d ≡ true → ascends_from a m d ≡ true
unfolding ascends_from
ascends_wider a l m [] h e = refl
ascends_wider a l m (x ∷ xs) h e =
    ascends_cons a m x xs (ascends_low a l x xs e) (omega (arith, ascends_high a l x xs e)) (ascends_wider (suc x) l m xs h (ascends_rest a l x xs e))

-- the first number is a member, and so are those of the rest
pub member_head : (x : ℕ) (xs : List ℕ) → member x (x ∷ xs) ≡ true
unfolding member
member_head x xs = or_l (eqb x x) (member x xs) (eq-eqb x x refl)

pub member_rest : (i x : ℕ) (xs : List ℕ) → member i xs ≡ true → member i (x ∷ xs) ≡ true
unfolding member
member_rest i x xs t = or_r (eqb x i) (member i xs) t

-- nothing below the start is a member
pub ascends_skips : (a l : ℕ) (c : List ℕ) (v : ℕ) → ascends_from a l c ≡ true → v < a → member v c ≡ false
unfolding member
ascends_skips a l [] v e h = refl
ascends_skips a l (i ∷ is) v e h =
    let low = ascends_low a l i is e in
    rw (ne_eqb i v (λ q. omega arith)) (ascends_skips (suc i) l is v (ascends_rest a l i is e) (omega arith))

-- members are within the limits
pub ascends_members : (l a : ℕ) (c : List ℕ) (v : ℕ) → ascends_from a l c ≡ true → member v c ≡ true → (a ≤ v) × (v ≤ l)
unfolding member
ascends_members l a [] v e t = clash t refl
ascends_members l a (i ∷ is) v e t =
    let low = ascends_low a l i is e in
    let high = ascends_high a l i is e in
    ⊎_elim (λ (q : eqb i v ≡ true). omega (arith, eqb-true i v q))
    (λ (q : member v is ≡ true). let r = ascends_members l (suc i) is v (ascends_rest a l i is e) q in (omega arith, r.1))
    (or_cases (eqb i v) (member v is) t)

pub ascends_length : (a l : ℕ) (c : List ℕ) → a ≤ suc l → ascends_from a l c ≡ true → length c + a ≤ suc l
ascends_length a l [] low e = omega arith
ascends_length a l (i ∷ is) low e =
    omega (arith, ascends_low a l i is e, ascends_length (suc i) l is (omega (arith, ascends_high a l i is e)) (ascends_rest a l i is e))

pub over_members : (f : ℕ → ℕ) (a l : ℕ) (c : List ℕ) → 1 ≤ a → ascends_from a l c ≡ true → over f c ≡ sum_below l (λ k. cond (member (suc k) c) (f (suc k)) 0)
unfolding over member
over_members f a l [] one e = sym (sum-zero l (λ k. 0) (λ k h. refl))
over_members f a l (i ∷ is) one e =
    let low = ascends_low a l i is e in
    let high = ascends_high a l i is e in
    let rest = ascends_rest a l i is e in
    let here : suc (i - 1) ≡ i = omega arith in
    let split : sum_below l (λ k. cond (eqb k (i - 1)) (f (suc k)) 0 + cond (member (suc k) is) (f (suc k)) 0) ≡ sum_below l (λ k. cond (eqb i (suc k) || member (suc k) is) (f (suc k)) 0) =
    sum_ext l (λ k. cond (eqb k (i - 1)) (f (suc k)) 0 + cond (member (suc k) is) (f (suc k)) 0) (λ k. cond (eqb i (suc k) || member (suc k) is) (f (suc k)) 0) (λ k h. one_place f i is l k low rest one) in
    omega (
      arith,
      sum_one l (λ k. f (suc k)) (i - 1) (omega arith),
      ap f here,
      over_members f (suc i) l is (omega arith) rest,
      sum_add l (λ k. cond (eqb k (i - 1)) (f (suc k)) 0) (λ k. cond (member (suc k) is) (f (suc k)) 0),
      split,
    )
  where
    one_place : (f : ℕ → ℕ) (i : ℕ) (is : List ℕ) (l k : ℕ) → a ≤ i → ascends_from (suc i) l is ≡ true → 1 ≤ a
        → cond (eqb k (i - 1)) (f (suc k)) 0 + cond (member (suc k) is) (f (suc k)) 0 ≡ cond (eqb i (suc k) || member (suc k) is) (f (suc k)) 0
    one_place f i is l k low rest one =
        by_bool (eqb i (suc k))
        (λ q. let e : i ≡ suc k = eqb-true i (suc k) q in
        rw (q, eq-eqb k (i - 1) (omega arith), ascends_skips (suc i) l is (suc k) rest (omega arith)) (omega arith))
        (λ q. let ne = eqb-false i (suc k) q in rw (q, ne_eqb k (i - 1) (λ z. ne (omega arith))) (omega arith))

-- the two tests of a choice
module _ (h : Hall) where
  none_fixed-at : (c : List ℕ) (i : ℕ) → none_fixed h c ≡ true → member i c ≡ true → (row h i).fixed ≡ false
  unfolding none_fixed member
  none_fixed-at [] i e t = clash t refl
  none_fixed-at (x ∷ xs) i e t =
      ⊎_elim
      (λ (q : eqb x i ≡ true).
      let same : x ≡ i = eqb-true x i q in
      sym (ap (λ (j : ℕ). (row h j).fixed) same) ∙ not-true (row h x).fixed (and_l (not (row h x).fixed) (none_fixed h xs) e))
      (λ (q : member i xs ≡ true). none_fixed-at xs i (and_r (not (row h x).fixed) (none_fixed h xs) e) q) (or_cases (eqb x i) (member i xs) t)

  at-none_fixed : (c : List ℕ) → ((i : ℕ) → member i c ≡ true → (row h i).fixed ≡ false) → none_fixed h c ≡ true
  unfolding none_fixed
  at-none_fixed [] f = refl
  at-none_fixed (x ∷ xs) f =
      and_i (not (row h x).fixed) (none_fixed h xs) (ap not (f x (member_head x xs)))
      (at-none_fixed xs (λ i t. f i (member_rest i x xs t)))

  pub choice_ascends : (c : List ℕ) → is_choice h c ≡ true → ascends_from 1 (count h) c ≡ true
  unfolding is_choice
  choice_ascends c e = and_l (ascends_from 1 (count h) c) (none_fixed h c) e

  -- a choice has at most as many rows as the hall
  pub choice_length : (c : List ℕ) → is_choice h c ≡ true → length c ≤ count h
  choice_length c e = omega (arith, ascends_length 1 (count h) c (omega arith) (choice_ascends c e))

  pub choice_unfixed : (c : List ℕ) (i : ℕ) → is_choice h c ≡ true → member i c ≡ true → (row h i).fixed ≡ false
  unfolding is_choice
  choice_unfixed c i e = none_fixed-at c i (and_r (ascends_from 1 (count h) c) (none_fixed h c) e)

  pub ascends_choice : (c : List ℕ) → ascends_from 1 (count h) c ≡ true → ((i : ℕ) → member i c ≡ true → (row h i).fixed ≡ false) → is_choice h c ≡ true
  unfolding is_choice
  ascends_choice c e f = and_i (ascends_from 1 (count h) c) (none_fixed h c) e (at-none_fixed c f)

-- numbers that agree on the members have the same sum
pub over_ext : (f g : ℕ → ℕ) (c : List ℕ) → ((i : ℕ) → member i c ≡ true → f i ≡ g i) → over f c ≡ over g c
unfolding over
over_ext f g [] same = refl
over_ext f g (x ∷ xs) same = omega (arith, same x (member_head x xs), over_ext f g xs (λ i t. same i (member_rest i x xs t)))

pub total_over : (h : Hall) (c : List ℕ) → total h c ≡ over (λ i. (row h i).price) c
unfolding total over
total_over h [] = refl
total_over h (i ∷ is) = omega (arith, total_over h is)

entering_over : (h : Hall) (s : ℕ) (c : List ℕ) → entering h s c ≡ over (λ i. cond (enters s (row h i)) 1 0) c
unfolding entering over
entering_over h s [] = refl
entering_over h s (i ∷ is) = ap (λ (m : ℕ). cond (enters s (row h i)) 1 0 + m) (entering_over h s is)

both_tests : (a b : Bool) → ◌≡◌ {A = ℕ} (cond a (cond b 1 0) 0) (cond b (one_if a) 0)
unfolding one_if
both_tests true true = refl
both_tests true false = refl
both_tests false true = refl
both_tests false false = refl

-- how many chosen rows enter a shore, as a cover
pub entering-cover : (h : Hall) (s : ℕ) (c : List ℕ) → is_choice h c ≡ true → entering h s c ≡ cover h (once (λ i. member i c)) s
unfolding cover once
entering-cover h s c e =
    entering_over h s c ∙ over_members (λ i. cond (enters s (row h i)) 1 0) 1 (count h) c (omega arith) (choice_ascends h c e)
    ∙ sum_ext (count h) (λ k. cond (member (suc k) c) (cond (enters s (row h (suc k))) 1 0) 0) (λ k. cond (enters s (row h (suc k))) (one_if (member (suc k) c)) 0)
    (λ k l. both_tests (member (suc k) c) (enters s (row h (suc k))))
