-- A test that everything in a list passes gives a property of each, lists that pass the test of sameness are equal, a list of one value has it everywhere, the place of one number later, a list filled from the front is filled place by place, and its first places are what it was filled with. Assumes nothing.
use mathlib.Core.Path.{◌≡◌, refl, sym, ap, ◌∙◌}
use mathlib.Core.Bool.{Bool, true}
use mathlib.Core.List.{List, [], ◌∷◌, ◌++◌}
use Prim.Native.Nat.{ℕ, zero, suc, ◌+◌, ◌-◌, ◌≤◌, ◌<◌}
use native.Mathlib.Omega.{arith}
use lib.Dec.{ltb}
use lib.ListN.{length, get_or, set, take, drop, replicate, length-append, length-drop, get_or-append}
use lib.Seq.{ext_get_or, get_or-append-add, get_or-drop, take_at}
use borrow.Author.Tests.{ltb-true, ltb-false}
use Rattle.laws.specs.Lists.{at, all_in, all_of, Each, same_list, in_front}
use Rattle.laws.proofs.Booleans.{by_bool, clash, and_l, and_r}

pub each_in : {A : Type 0} (p : A → Bool) (P : A → Type 0) → ((x : A) → p x ≡ true → P x) → (xs : List A) → all_in p xs ≡ true → Each P xs
unfolding all_in Each
each_in p P law [] t = tt
each_in p P law (x ∷ xs) t = (law x (and_l (p x) (all_in p xs) t), each_in p P law xs (and_r (p x) (all_in p xs) t))

-- the test at place k, counted from 0
pub all_of-at : (ts : List Bool) → all_of ts ≡ true → (k : ℕ) → get_or ts k true ≡ true
unfolding all_of all_in
all_of-at [] e k = refl
all_of-at (t ∷ ts) e zero = and_l t (all_of ts) e
all_of-at (t ∷ ts) e (suc k) = all_of-at ts (and_r t (all_of ts) e) k

pub same_list_true : {A : Type 0} (same : A → A → Bool) → ((x y : A) → same x y ≡ true → x ≡ y) → (xs ys : List A) → same_list same xs ys ≡ true → xs ≡ ys
unfolding same_list
same_list_true same law [] [] t = refl
same_list_true same law [] (y ∷ ys) t = clash t refl
same_list_true same law (x ∷ xs) [] t = clash t refl
same_list_true same law (x ∷ xs) (y ∷ ys) t =
    let first = law x y (and_l (same x y) (same_list same xs ys) t) in
    let rest = same_list_true same law xs ys (and_r (same x y) (same_list same xs ys) t) in
    cc

-- past the end too, where that value stands for what is missing
-- the place of junction or row k + 1
pub at-suc : (xs : List ℕ) (k : ℕ) → at xs (suc k) ≡ get_or xs k 0
at-suc xs k = let e : suc k - 1 ≡ k = omega arith in ap (λ (i : ℕ). get_or xs i 0) e

pub replicate-at : {A : Type 0} (n i : ℕ) (d : A) → get_or (replicate n d) i d ≡ d
replicate-at zero i d = refl
replicate-at (suc n) zero d = refl
replicate-at (suc n) (suc i) d = replicate-at n i d

-- the next place filled too
pub front_more : {A : Type 0} (new old : List A) (v : A) → length new < length old → set (in_front new old) (length new) v ≡ in_front (new ++ (v ∷ [])) old
unfolding in_front
front_more [] [] v l = absurd (omega (arith, l))
front_more [] (y ∷ old) v l = refl
front_more (x ∷ new) [] v l = absurd (omega (arith, l))
front_more {A} (x ∷ new) (y ∷ old) v l = ap (λ (r : List A). x ∷ r) (front_more new old v (omega (arith, l)))

-- what stands at each place makes a list filled from the front
pub front_is : {A : Type 0} (z : A) (new old xs : List A) → length new ≤ length old → length xs ≡ length old → ((k : ℕ) → k < length new → get_or xs k z ≡ get_or new k z)
    → ((k : ℕ) → length new ≤ k → get_or xs k z ≡ get_or old k z) → xs ≡ in_front new old
unfolding in_front
front_is z new old xs fits same first rest =
    ext_get_or z xs (new ++ drop (length new) old) (omega (arith, same, length-append new (drop (length new) old), length-drop (length new) old)) (λ i l. at i)
  where
    at : (i : ℕ) → get_or xs i z ≡ get_or (new ++ drop (length new) old) i z
    at i =
        by_bool (ltb i (length new))
        (λ t. let in_it = ltb-true i (length new) t in first i in_it ∙ sym (get_or-append new (drop (length new) old) z i in_it))
        (λ t.
        let past = ltb-false i (length new) t in
        let e : length new + (i - length new) ≡ i = omega arith in
        rest i past ∙ ap (λ (k : ℕ). get_or old k z) (sym e) ∙ sym (get_or-drop (length new) old (i - length new) z) ∙ sym (get_or-append-add new (drop (length new) old) (i - length new) z)
        ∙ ap (λ (k : ℕ). get_or (new ++ drop (length new) old) k z) e)

-- the first places of a list filled from the front
module _ {A : Type 0} (new old xs : List A) (n : ℕ) (counted : n ≡ length new) (is : xs ≡ in_front new old) where
  pub front_fits : n ≤ length xs
  unfolding in_front
  front_fits = omega (arith, counted, ap length is, length-append new (drop (length new) old))

  pub front_are : take n xs ≡ new
  unfolding in_front
  front_are = ap (take n) is ∙ take_at new (drop (length new) old) n (sym counted)
