-- What the test `cross` says: it passes exactly for two sets that cross. Assumes nothing.
use mathlib.Core.Path.{◌≡◌, refl, sym, ap, ◌∙◌}
use mathlib.Core.Bool.{Bool, true, false, ◌&&◌, not}
use mathlib.Core.Logic.{⊎_elim}
use Prim.Native.Nat.{ℕ, zero, suc, ◌+◌, ◌≤◌, ◌<◌}
use native.Mathlib.Omega.{arith}
use lib.Dec.{eqb}
use borrow.Author.Tests.{eqb-true, eqb-false, not-true}
use Rattle.laws.proofs.Booleans.{by_bool, clash, and_l, and_r, and_i, or_cases, or_false_l, or_false_r, not_true_false, not_false_true}
use Rattle.junctions.specs.Sets.{holds}
use Rattle.hall.specs.Plan.{crosses_from, cross}
use Rattle.laminar.specs.Families.{Crossing}

-- the search of `cross`
found_from : (k j : ℕ) (f : ℕ → Bool) → crosses_from k j f ≡ true → (i : ℕ) × (j ≤ i) × (i < j + k) × (f i ≡ true)
unfolding crosses_from
found_from zero j f e = clash e refl
found_from (suc k) j f e =
    ⊎_elim (λ (p : f j ≡ true). (j, omega arith, omega arith, p))
    (λ (p : crosses_from k (suc j) f ≡ true). let w = found_from k (suc j) f p in (w.0, omega arith, omega arith, w.3))
    (or_cases (f j) (crosses_from k (suc j) f) e)

none_from : (k j : ℕ) (f : ℕ → Bool) → crosses_from k j f ≡ false → (i : ℕ) → j ≤ i → i < j + k → f i ≡ false
unfolding crosses_from
none_from zero j f e i l m = absurd (omega arith)
none_from (suc k) j f e i l m =
    by_bool (eqb j i)
    (λ q. sym (ap f (eqb-true j i q)) ∙ or_false_l (f j) (crosses_from k (suc j) f) e)
    (λ q. none_from k (suc j) f (or_false_r (f j) (crosses_from k (suc j) f) e) i (omega (arith, eqb-false j i q)) (omega arith))

some_from : (n : ℕ) (f : ℕ → Bool) (i : ℕ) → 1 ≤ i → i ≤ n → f i ≡ true → crosses_from n 1 f ≡ true
some_from n f i l m e = not_false_true (crosses_from n 1 f) (λ q. clash e (none_from n 1 f q i l (omega arith)))

both_from : (n : ℕ) (f g : ℕ → Bool) → crosses_from n 1 (λ j. f j && g j) ≡ true → (i : ℕ) × (1 ≤ i) × (i ≤ n) × (f i ≡ true) × (g i ≡ true)
both_from n f g e =
    let w = found_from n 1 (λ j. f j && g j) e in
    (w.0, w.1, omega arith, and_l (f w.0) (g w.0) w.3, and_r (f w.0) (g w.0) w.3)

module _ (n a b : ℕ) where
  shared_test : Bool
  shared_test = crosses_from n 1 (λ j. holds a j && holds b j)

  left_test : Bool
  left_test = crosses_from n 1 (λ j. holds a j && not (holds b j))

  right_test : Bool
  right_test = crosses_from n 1 (λ j. holds b j && not (holds a j))

  missed_test : Bool
  missed_test = crosses_from n 1 (λ j. not (holds a j) && not (holds b j))

  pub cross_crossing : cross n a b ≡ true → Crossing n a b
  unfolding cross shared_test left_test right_test missed_test
  cross_crossing e =
      let p = and_l (shared_test && left_test) (right_test && missed_test) e in
      let q = and_r (shared_test && left_test) (right_test && missed_test) e in
      let s = both_from n (holds a) (holds b) (and_l shared_test left_test p) in
      let l = both_from n (holds a) (λ j. not (holds b j)) (and_r shared_test left_test p) in
      let r = both_from n (holds b) (λ j. not (holds a j)) (and_l right_test missed_test q) in
      let m = both_from n (λ j. not (holds a j)) (λ j. not (holds b j)) (and_r right_test missed_test q) in
      record {
        overlap = record {
          shared = record { at = s.0; low = s.1; high = s.2; first = s.3; second = s.4 };
          left = record { at = l.0; low = l.1; high = l.2; first = l.3; second = not-true (holds b l.0) l.4 };
          right = record { at = r.0; low = r.1; high = r.2; first = not-true (holds a r.0) r.4; second = r.3 };
        };
        missed = record { at = m.0; low = m.1; high = m.2; first = not-true (holds a m.0) m.3; second = not-true (holds b m.0) m.4 };
      }

  pub crossing_cross : Crossing n a b → cross n a b ≡ true
  unfolding cross shared_test left_test right_test missed_test
  crossing_cross c =
      and_i (shared_test && left_test) (right_test && missed_test) (and_i shared_test left_test s l) (and_i right_test missed_test r m)
    where
      s : shared_test ≡ true
      s = let w = c.overlap.shared in some_from n (λ j. holds a j && holds b j) w.at w.low w.high (and_i (holds a w.at) (holds b w.at) w.first w.second)

      l : left_test ≡ true
      l = let w = c.overlap.left in some_from n (λ j. holds a j && not (holds b j)) w.at w.low w.high (and_i (holds a w.at) (not (holds b w.at)) w.first (ap not w.second))

      r : right_test ≡ true
      r = let w = c.overlap.right in some_from n (λ j. holds b j && not (holds a j)) w.at w.low w.high (and_i (holds b w.at) (not (holds a w.at)) w.second (ap not w.first))

      m : missed_test ≡ true
      m = let w = c.missed in some_from n (λ j. not (holds a j) && not (holds b j)) w.at w.low w.high (and_i (not (holds a w.at)) (not (holds b w.at)) (ap not w.first) (ap not w.second))

  pub uncrossed : (Crossing n a b → ⊥) → cross n a b ≡ false
  uncrossed f = not_true_false (cross n a b) (λ e. f (cross_crossing e))
