-- The test for a junction one arc before another, and the first that passes it. Assumes nothing.
use mathlib.Core.Path.{◌≡◌, refl, ap, ◌∙◌}
use mathlib.Core.Bool.{true, false}
use Prim.Native.Nat.{ℕ, suc, ◌<◌, ◌+◌, ◌-◌, ◌≤◌}
use native.Mathlib.Omega.{arith}
use lib.Dec.{eqb}
use borrow.Author.Tests.{eq-eqb, ne_eqb, eqb-true}
use Rattle.std.specs.Option.{MatchOption, IsSome}
use Rattle.std.proofs.Common.{Option, Some, None}
use Rattle.laws.proofs.Booleans.{clash, and_l, and_r, and_i}
use Rattle.junctions.specs.Sets.{holds}
use Rattle.digraph.specs.Layers.{Before, before_test}

module _ (out dist : ℕ → ℕ) (y x : ℕ) where
  pub before_close : (near far found : ℕ) → near ≡ dist x → far ≡ dist y → near + 1 ≡ far → found ≡ out x → 1 ≤ y
      → holds found (suc (y - 1)) ≡ before_test out dist y x
  unfolding before_test
  before_close near far found p q e o l =
      let t : eqb (dist x + 1) (dist y) ≡ true = eq-eqb (dist x + 1) (dist y) (omega (arith, p, q, e)) in
      let own : suc (y - 1) ≡ y = omega (arith, l) in
      rw (t, own) (ap (λ (s : ℕ). holds s y) o)

  pub before_far : (near far : ℕ) → near ≡ dist x → far ≡ dist y → (near + 1 ≡ far → ⊥) → eqb (near + 1) far ≡ before_test out dist y x
  unfolding before_test
  before_far near far p q e =
      let f : eqb (dist x + 1) (dist y) ≡ false = ne_eqb (dist x + 1) (dist y) (λ t. e (omega (arith, p, q, t))) in
      ne_eqb (near + 1) far e ∙ rw f

  pub test_before : (n : ℕ) → 1 ≤ x → x ≤ n → before_test out dist y x ≡ true → Before n out dist y x
  unfolding before_test
  test_before n l m t = record {
    from_one = l;
    to_last = m;
    closer = omega (arith, eqb-true (dist x + 1) (dist y) (and_l (eqb (dist x + 1) (dist y)) (holds (out x) y) t));
    arc = and_r (eqb (dist x + 1) (dist y)) (holds (out x) y) t;
  }

  pub before_passes : (n : ℕ) → Before n out dist y x → before_test out dist y x ≡ true
  unfolding before_test
  before_passes n b = and_i (eqb (dist x + 1) (dist y)) (holds (out x) y) (eq-eqb (dist x + 1) (dist y) (omega (arith, b.closer))) b.arc

-- of the junctions 1 to n, the first that passes the test, or that none does, where one is before y
pub record FirstBefore (n : ℕ) (out dist : ℕ → ℕ) (y : ℕ) (r : Option ℕ) : Type 0 where
  pub first : MatchOption r ((x : ℕ) → 1 ≤ x → x < suc n → before_test out dist y x ≡ false)
      (λ x. (1 ≤ x) × (x < suc n) × (before_test out dist y x ≡ true) × ((k : ℕ) → 1 ≤ k → k < x → before_test out dist y k ≡ false))

pub first_is_some : (n : ℕ) (out dist : ℕ → ℕ) (y : ℕ) (r : Option ℕ) → FirstBefore n out dist y r → (x : ℕ) × Before n out dist y x → IsSome r
first_is_some n out dist y None f (x, b) = clash (before_passes out dist y x n b) (f.first x b.from_one (omega (arith, b.to_last)))
first_is_some n out dist y (Some x) f b = refl

pub first_is_before : (n : ℕ) (out dist : ℕ → ℕ) (y x : ℕ) → FirstBefore n out dist y (Some x) → Before n out dist y x
first_is_before n out dist y x f = test_before out dist y x n f.first.0 (omega (arith, f.first.1)) f.first.2
