-- Dictionary order is a strict total order on lists of one length. Assumes nothing.
use mathlib.Core.Path.{◌≡◌, refl, sym}
use mathlib.Core.Bool.{true, ◌&&◌}
use mathlib.Core.List.{List, [], ◌∷◌}
use mathlib.Core.Logic.{◌⊎◌, inl, inr, ⊎_elim}
use Prim.Native.Nat.{ℕ, ◌<◌}
use native.Mathlib.Omega.{arith}
use lib.Dec.{ltb, eqb}
use lib.ListN.{length}
use borrow.Author.Tests.{ltb-true, lt-ltb, eqb-true, eq-eqb}
use Rattle.laws.proofs.Numbers.{compare-numbers}
use Rattle.laws.proofs.Booleans.{clash, and_l, and_r, and_i, or_cases, or_l, or_r}
use Rattle.hall.specs.Plan.{earlier}

-- the first place decides, or it is the same and the rest does
pub earlier_cases : (x : ℕ) (xs : List ℕ) (y : ℕ) (ys : List ℕ) → earlier (x ∷ xs) (y ∷ ys) ≡ true → (x < y) ⊎ ((x ≡ y) × (earlier xs ys ≡ true))
unfolding earlier
earlier_cases x xs y ys e =
    ⊎_elim (λ (l : ltb x y ≡ true). inl (ltb-true x y l))
    (λ (q : (eqb x y && earlier xs ys) ≡ true). inr (eqb-true x y (and_l (eqb x y) (earlier xs ys) q), and_r (eqb x y) (earlier xs ys) q))
    (or_cases (ltb x y) (eqb x y && earlier xs ys) e)

pub earlier_head : (x : ℕ) (xs : List ℕ) (y : ℕ) (ys : List ℕ) → x < y → earlier (x ∷ xs) (y ∷ ys) ≡ true
unfolding earlier
earlier_head x xs y ys l = or_l (ltb x y) (eqb x y && earlier xs ys) (lt-ltb x y l)

pub earlier_tail : (x : ℕ) (xs : List ℕ) (y : ℕ) (ys : List ℕ) → x ≡ y → earlier xs ys ≡ true → earlier (x ∷ xs) (y ∷ ys) ≡ true
unfolding earlier
earlier_tail x xs y ys e t = or_r (ltb x y) (eqb x y && earlier xs ys) (and_i (eqb x y) (earlier xs ys) (eq-eqb x y e) t)

pub earlier_irreflexive : (c : List ℕ) → earlier c c ≡ true → ⊥
unfolding earlier
earlier_irreflexive [] e = clash e refl
earlier_irreflexive (x ∷ xs) e =
    ⊎_elim (λ (l : x < x). omega arith) (λ (q : (x ≡ x) × (earlier xs xs ≡ true)). earlier_irreflexive xs q.1) (earlier_cases x xs x xs e)

pub earlier_trans : (c d e : List ℕ) → earlier c d ≡ true → earlier d e ≡ true → earlier c e ≡ true
unfolding earlier
earlier_trans [] d e p q = clash p refl
earlier_trans (x ∷ xs) [] e p q = clash p refl
earlier_trans (x ∷ xs) (y ∷ ys) [] p q = clash q refl
earlier_trans (x ∷ xs) (y ∷ ys) (z ∷ zs) p q =
    ⊎_elim
    (λ (l : x < y).
    ⊎_elim (λ (m : y < z). earlier_head x xs z zs (omega arith))
    (λ (m : (y ≡ z) × (earlier ys zs ≡ true)). earlier_head x xs z zs (omega arith)) (earlier_cases y ys z zs q))
    (λ (l : (x ≡ y) × (earlier xs ys ≡ true)).
    ⊎_elim (λ (m : y < z). earlier_head x xs z zs (omega arith))
    (λ (m : (y ≡ z) × (earlier ys zs ≡ true)). earlier_tail x xs z zs (omega arith) (earlier_trans xs ys zs l.1 m.1))
    (earlier_cases y ys z zs q))
    (earlier_cases x xs y ys p)

pub earlier-total : (c d : List ℕ) → length c ≡ length d → (c ≡ d) ⊎ ((earlier c d ≡ true) ⊎ (earlier d c ≡ true))
earlier-total [] [] e = inl refl
earlier-total [] (y ∷ ys) e = absurd (omega arith)
earlier-total (x ∷ xs) [] e = absurd (omega arith)
earlier-total (x ∷ xs) (y ∷ ys) e =
    ⊎_elim
    (λ (q : x ≡ y).
    ⊎_elim (λ (r : xs ≡ ys). inl (cc))
    (⊎_elim (λ (r : earlier xs ys ≡ true). inr (inl (earlier_tail x xs y ys q r))) (λ (r : earlier ys xs ≡ true). inr (inr (earlier_tail y ys x xs (sym q) r))))
    (earlier-total xs ys (omega arith)))
    (⊎_elim (λ (l : x < y). inr (inl (earlier_head x xs y ys l))) (λ (l : y < x). inr (inr (earlier_head y ys x xs l))))
    (compare-numbers x y)
