-- Going before is a strict total order on lists of row numbers. Assumes nothing.
use mathlib.Core.Path.{◌≡◌, sym}
use mathlib.Core.Bool.{true, ◌&&◌, ◌||◌}
use mathlib.Core.List.{List}
use mathlib.Core.Logic.{◌⊎◌, inl, inr, ⊎_elim}
use Prim.Native.Nat.{ℕ, ◌<◌, ◌≤◌}
use native.Mathlib.Omega.{arith}
use lib.Dec.{ltb, eqb}
use lib.ListN.{length}
use borrow.Author.Tests.{ltb-true, lt-ltb, eqb-true, eqb-false, eq-eqb}
use Rattle.laws.proofs.Numbers.{compare-numbers}
use Rattle.laws.proofs.Booleans.{by_bool, and_l, and_r, and_i, or_cases, or_l, or_r}
use Rattle.hall.specs.Hall.{Hall}
use Rattle.hall.specs.Plan.{total, earlier, goes_before}
use Rattle.order.specs.Precedes.{Precedes, by_total, by_length, by_dictionary}
use Rattle.order.proofs.Dictionary.{earlier_irreflexive, earlier_trans, earlier-total}

module _ (h : Hall) where
  -- the test and its reasons
  pub before_of : (c d : List ℕ) → Precedes h c d → goes_before h c d ≡ true
  unfolding goes_before
  before_of c d (by_total l) = search (or_l, lt-ltb)
  before_of c d (by_length e l) = search (or_l, or_r, and_i, lt-ltb, eq-eqb)
  before_of c d (by_dictionary e l t) = search (or_r, and_i, eq-eqb)

  pub before_why : (c d : List ℕ) → goes_before h c d ≡ true → Precedes h c d
  unfolding goes_before
  before_why c d e =
      ⊎_elim (λ (l : ltb (total h c) (total h d) ≡ true). by_total (ltb-true (total h c) (total h d) l))
      (λ (q : (eqb (total h c) (total h d) && (ltb (length c) (length d) || (eqb (length c) (length d) && earlier c d))) ≡ true).
      let same : total h c ≡ total h d = eqb-true (total h c) (total h d) (search (and_l, q)) in
      ⊎_elim (λ (l : ltb (length c) (length d) ≡ true). by_length same (ltb-true (length c) (length d) l))
      (λ (r : (eqb (length c) (length d) && earlier c d) ≡ true).
      by_dictionary same (eqb-true (length c) (length d) (and_l (eqb (length c) (length d)) (earlier c d) r)) (and_r (eqb (length c) (length d)) (earlier c d) r))
      (or_cases (ltb (length c) (length d)) (eqb (length c) (length d) && earlier c d) (and_r (eqb (total h c) (total h d)) (ltb (length c) (length d) || (eqb (length c) (length d) && earlier c d)) q)))
      (or_cases (ltb (total h c) (total h d)) (eqb (total h c) (total h d) && (ltb (length c) (length d) || (eqb (length c) (length d) && earlier c d))) e)

  precedes_most : (c d : List ℕ) → Precedes h c d → total h c ≤ total h d
  precedes_most c d (by_total l) = omega arith
  precedes_most c d (by_length e l) = omega arith
  precedes_most c d (by_dictionary e l t) = omega arith

  -- what costs no more precedes, if it does at the same total
  pub cheaper_or_tied : (c d : List ℕ) → total h c ≤ total h d → (total h c ≡ total h d → Precedes h c d) → Precedes h c d
  cheaper_or_tied c d most tied =
      by_bool (eqb (total h c) (total h d)) (λ e. tied (eqb-true (total h c) (total h d) e)) (λ e. by_total (omega (arith, eqb-false (total h c) (total h d) e)))

  -- what goes before costs no more
  pub before_most : (c d : List ℕ) → goes_before h c d ≡ true → total h c ≤ total h d
  before_most c d e = precedes_most c d (before_why c d e)

  precedes_irreflexive : (c : List ℕ) → Precedes h c c → ⊥
  precedes_irreflexive c (by_total l) = omega arith
  precedes_irreflexive c (by_length e l) = omega arith
  precedes_irreflexive c (by_dictionary e l t) = earlier_irreflexive c t

  precedes_trans : (c d e : List ℕ) → Precedes h c d → Precedes h d e → Precedes h c e
  precedes_trans c d e (by_total l) (by_total m) = by_total (omega arith)
  precedes_trans c d e (by_total l) (by_length s m) = by_total (omega arith)
  precedes_trans c d e (by_total l) (by_dictionary s k m) = by_total (omega arith)
  precedes_trans c d e (by_length r l) (by_total m) = by_total (omega arith)
  precedes_trans c d e (by_length r l) (by_length s m) = by_length (omega arith) (omega arith)
  precedes_trans c d e (by_length r l) (by_dictionary s k m) = by_length (omega arith) (omega arith)
  precedes_trans c d e (by_dictionary r j l) (by_total m) = by_total (omega arith)
  precedes_trans c d e (by_dictionary r j l) (by_length s m) = by_length (omega arith) (omega arith)
  precedes_trans c d e (by_dictionary r j l) (by_dictionary s k m) = by_dictionary (omega arith) (omega arith) (earlier_trans c d e l m)

  precedes_total : (c d : List ℕ) → (c ≡ d) ⊎ (Precedes h c d ⊎ Precedes h d c)
  precedes_total c d =
      ⊎_elim
      (λ (e : total h c ≡ total h d).
      ⊎_elim
      (λ (k : length c ≡ length d).
      ⊎_elim (λ (q : c ≡ d). inl q)
      (⊎_elim (λ (t : earlier c d ≡ true). inr (inl (by_dictionary e k t))) (λ (t : earlier d c ≡ true). inr (inr (by_dictionary (sym e) (sym k) t))))
      (earlier-total c d k))
      (⊎_elim (λ (l : length c < length d). inr (inl (by_length e l))) (λ (l : length d < length c). inr (inr (by_length (sym e) l))))
      (compare-numbers (length c) (length d)))
      (⊎_elim (λ (l : total h c < total h d). inr (inl (by_total l))) (λ (l : total h d < total h c). inr (inr (by_total l))))
      (compare-numbers (total h c) (total h d))

  -- no choice goes before itself
  pub before_irreflexive : (c : List ℕ) → goes_before h c c ≡ true → ⊥
  before_irreflexive c e = precedes_irreflexive c (before_why c c e)

  pub before_trans : (c d e : List ℕ) → goes_before h c d ≡ true → goes_before h d e ≡ true → goes_before h c e ≡ true
  before_trans c d e p q = before_of c e (precedes_trans c d e (before_why c d p) (before_why d e q))

  -- of two different choices one goes before the other
  pub before_total : (c d : List ℕ) → (c ≡ d) ⊎ ((goes_before h c d ≡ true) ⊎ (goes_before h d c ≡ true))
  before_total c d =
      ⊎_elim (λ (q : c ≡ d). inl q)
      (⊎_elim (λ (p : Precedes h c d). inr (inl (before_of c d p))) (λ (p : Precedes h d c). inr (inr (before_of d c p))))
      (precedes_total c d)
