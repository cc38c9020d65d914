-- Parts of a list, and the plans of a site one by one. Assumes nothing.
use mathlib.Core.Path.{◌≡◌, refl, sym, ap, ap₂, ◌∙◌}
use mathlib.Core.List.{List, [], ◌∷◌, ◌++◌}
use Prim.Native.Nat.{ℕ, zero, suc, ◌+◌, ◌*◌, ◌≤◌, ◌<◌}
use native.Mathlib.Omega.{arith}
use lib.ListN.{length, get_or, take, drop, replicate}
use Rattle.std.proofs.Math.Seq.{drop-cons}
use Rattle.std.proofs.lemmas.List.{get_or-append-add}
use Rattle.laws.specs.Lists.{in_front}
use Rattle.stock.specs.Places.{part, plans_in}

pub part_length : (xs : List ℕ) (a n : ℕ) → length (part xs a n) ≡ n
unfolding part
part_length xs a zero = refl
part_length xs a (suc n) = ap suc (part_length xs (suc a) n)

-- a part that the list has is a slice of it
pub part_slice : (xs : List ℕ) (a n : ℕ) → a + n ≤ length xs → part xs a n ≡ take n (drop a xs)
unfolding part
part_slice xs a zero h = refl
part_slice xs a (suc n) h =
    ap (λ (t : List ℕ). get_or xs a 0 ∷ t) (part_slice xs (suc a) n (omega arith)) ∙ sym (ap (take (suc n)) (drop-cons xs a 0 (omega arith)))

-- a part from behind a list is one of what comes after it
pub part_behind : (xs ys : List ℕ) (a n : ℕ) → part (xs ++ ys) (length xs + a) n ≡ part ys a n
unfolding part
part_behind xs ys a zero = refl
part_behind xs ys a (suc n) =
    let next : suc (length xs + a) ≡ length xs + suc a = omega arith in
    ap₂ (λ (x : ℕ) (t : List ℕ). x ∷ t) (get_or-append-add xs ys a 0) (ap (λ (i : ℕ). part (xs ++ ys) i n) next ∙ part_behind xs ys (suc a) n)

pub part_none : (a n : ℕ) → part [] a n ≡ replicate n 0
unfolding part
part_none a zero = refl
part_none a (suc n) = ap (λ (t : List ℕ). 0 ∷ t) (part_none (suc a) n)

-- from the front on: the list, then 0
pub part_front : (xs : List ℕ) (n : ℕ) → length xs ≤ n → part xs 0 n ≡ in_front xs (replicate n 0)
unfolding part in_front
part_front [] n h = part_none 0 n
part_front (x ∷ xs) zero h = absurd (omega arith)
part_front (x ∷ xs) (suc n) h = ap (λ (t : List ℕ). x ∷ t) (part_behind (x ∷ []) xs 0 n ∙ part_front xs n (omega arith))

module _ (xs : List ℕ) where
  pub plans_length : (l k : ℕ) → length (plans_in l k xs) ≡ l
  unfolding plans_in
  plans_length zero k = refl
  plans_length (suc l) k = ap suc (plans_length l (suc k))

  -- the plan of hall k
  abbrev pub plan_at : (k : ℕ) → List ℕ
  plan_at k = part xs (11 + 256 * k) (get_or xs (3 + k) 0)

  pub plans_at : (l k i : ℕ) → i < l → get_or (plans_in l k xs) i [] ≡ plan_at (k + i)
  unfolding plans_in
  plans_at zero k i h = absurd (omega arith)
  plans_at (suc l) k zero h = let here : k ≡ k + 0 = omega arith in ap plan_at here
  plans_at (suc l) k (suc i) h =
      let next : suc k + i ≡ k + suc i = omega arith in plans_at l (suc k) i (omega arith) ∙ ap plan_at next
