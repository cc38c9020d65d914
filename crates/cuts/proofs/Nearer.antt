-- The next value of a potential, junction by junction. Assumes nothing.
use mathlib.Core.Path.{◌≡◌, refl, sym, ap}
use Prim.Native.Nat.{ℕ, suc, ◌+◌, ◌≤◌, ◌<◌}
use native.Mathlib.Omega.{arith}
use lib.Dec.{eqb}
use borrow.Author.Tests.{eqb-true, eqb-false}
use Rattle.laws.proofs.Booleans.{by_bool}
use Rattle.std.specs.Prelude.{Option, Some, None}
use Rattle.cuts.specs.Thresholds.{NextValue, NextFound}

-- of the first k + 1 junctions, one is the last
last_of {ℓ} : {C : Type ℓ} (k j : ℕ) → j ≤ k + 1 → (j ≡ suc k → C) → (j ≤ k → C) → C
last_of k j l here below = by_bool (eqb j (suc k)) (λ e. here (eqb-true j (suc k) e)) (λ e. let ne = eqb-false j (suc k) e in below (omega arith))

pub next_none : (p : ℕ → ℕ) (low : ℕ) → NextValue 0 p low low
next_none p low = record {
  from_low = omega arith;
  none = λ e j l m. absurd (omega arith);
  least = λ j l m h. absurd (omega arith);
  taken = λ h. absurd (omega arith);
}

module _ (p : ℕ → ℕ) (low k best value : ℕ) (is : value ≡ p (suc k)) (g : NextValue k p low best) where
  -- the value is not over `low`
  next_under : value ≤ low → NextValue (k + 1) p low best
  next_under u = record {
    from_low = g.from_low;
    none = λ e j l m. last_of k j m (λ q. omega (arith, ap p q)) (λ b. g.none e j l b);
    least = λ j l m h. last_of k j m (λ q. absurd (omega (arith, ap p q))) (λ b. g.least j l b h);
    taken = λ h. let w = g.taken h in (w.0, w.1, omega (arith, w.2), w.3);
  }

  -- the value is over the best so far
  next_over : low < best → best ≤ value → NextValue (k + 1) p low best
  next_over h o = record {
    from_low = g.from_low;
    none = λ e. absurd (omega arith);
    least = λ j l m i. last_of k j m (λ q. omega (arith, ap p q)) (λ b. g.least j l b i);
    taken = λ i. let w = g.taken i in (w.0, w.1, omega (arith, w.2), w.3);
  }

  -- the value is the first over `low`
  next_first : low < value → best ≡ low → NextValue (k + 1) p low value
  next_first h e = record {
    from_low = omega arith;
    none = λ q. absurd (omega arith);
    least = λ j l m i. last_of k j m (λ q. omega (arith, ap p q)) (λ b. absurd (omega (arith, g.none e j l b)));
    taken = λ i. (suc k, omega arith, omega arith, sym is);
  }

  -- the value is less
  next_less : low < value → value ≤ best → NextValue (k + 1) p low value
  next_less h u = record {
    from_low = omega arith;
    none = λ q. absurd (omega arith);
    least = λ j l m i. last_of k j m (λ q. omega (arith, ap p q)) (λ b. omega (arith, g.least j l b i));
    taken = λ i. (suc k, omega arith, omega arith, sym is);
  }

-- what is found
module _ {n : ℕ} {p : ℕ → ℕ} {low : ℕ} where
  pub found_some : (next : ℕ) → NextFound n p low (Some next) → (low < next) × NextValue n p low next
  unfolding NextFound
  found_some next g = g

  pub found_none : NextFound n p low None → NextValue n p low low
  unfolding NextFound
  found_none g = g

-- with one more value
module _ (p : ℕ → ℕ) (low k value : ℕ) (is : value ≡ p (suc k)) where
  pub found_under : (best : Option ℕ) → value ≤ low → NextFound k p low best → NextFound (k + 1) p low best
  unfolding NextFound
  found_under None u g = next_under p low k low value is g u
  found_under (Some near) u g = (g.0, next_under p low k near value is g.1 u)

  pub found_over : (near : ℕ) → near ≤ value → NextFound k p low (Some near) → NextFound (k + 1) p low (Some near)
  unfolding NextFound
  found_over near o g = (g.0, next_over p low k near value is g.1 g.0 o)

  pub found_first : low < value → NextFound k p low None → NextFound (k + 1) p low (Some value)
  unfolding NextFound
  found_first h g = (h, next_first p low k low value is g h refl)

  pub found_less : (near : ℕ) → low < value → value < near → NextFound k p low (Some near) → NextFound (k + 1) p low (Some value)
  unfolding NextFound
  found_less near h o g = (h, next_less p low k near value is g.1 h (omega arith))
