-- A cross-free family of sets of n junctions, none of them empty, full or another's complement, has at most 2n - 3 members. The sets that hold
-- the last junction are replaced by their complements, which leaves a laminar family on the others. Assumes nothing.
use mathlib.Core.Path.{◌≡◌, ap, ◌∙◌}
use mathlib.Core.Bool.{Bool, true, false, ◌&&◌, ◌||◌, not}
use mathlib.Core.Logic.{⊎_elim}
use Prim.Native.Nat.{ℕ, zero, suc, ◌+◌, ◌-◌, ◌*◌, ◌^◌, ◌≤◌, ◌<◌}
use native.Mathlib.Nat.{pow-suc}
use native.Mathlib.Omega.{arith}
use lib.Pow.{pow_pos}
use Rattle.laws.specs.Finite.{count_below, one_if}
use Rattle.laws.proofs.Booleans.{and_l, and_r, or_cases, not_true_false}
use Rattle.laws.proofs.Counts.{sum_mirror, count_or_and, count_none}
use Rattle.junctions.specs.Sets.{full}
use Rattle.junctions.proofs.Sets.{high_holds}
use Rattle.junctions.proofs.Complement.{rest_holds}
use Rattle.laminar.specs.Families.{Spot, Overlapping, Crossing, Laminar, CrossFree}
use Rattle.laminar.proofs.Laminar.{count_halves, laminar_bound}

-- what crosses a set crosses its complement
spot_rest : {n a b : ℕ} {x y : Bool} → b < 2 ^ n → Spot n a b x y → Spot n a (full n - b) x (not y)
spot_rest {n} {a} {b} h w =
    record { at = w.at; low = w.low; high = w.high; first = w.first; second = rest_holds n b w.at h w.low w.high ∙ ap not w.second }

pub crossing_rest : {n a b : ℕ} → b < 2 ^ n → Crossing n a b → Crossing n a (full n - b)
crossing_rest h c = record {
  overlap = record { shared = spot_rest h c.overlap.left; left = spot_rest h c.overlap.shared; right = spot_rest h c.missed };
  missed = spot_rest h c.overlap.right;
}

spot_swap : {n a b : ℕ} {x y : Bool} → Spot n a b x y → Spot n b a y x
spot_swap w = record { at = w.at; low = w.low; high = w.high; first = w.second; second = w.first }

pub crossing_swap : {n a b : ℕ} → Crossing n a b → Crossing n b a
crossing_swap c = record {
  overlap = record { shared = spot_swap c.overlap.shared; left = spot_swap c.overlap.right; right = spot_swap c.overlap.left };
  missed = spot_swap c.missed;
}

-- the sets of a family without the last junction, and the complements of those that hold it
unfoldable turned : (n : ℕ) → (F : ℕ → Bool) → ℕ → Bool
turned n F s = F s || F (full n - s)

module _ (m : ℕ) (F : ℕ → Bool) (free : CrossFree (suc m) F) where
  small_rest : (s : ℕ) → full (suc m) - s < 2 ^ suc m
  unfolding full
  small_rest s = omega (arith, pow_pos (suc m))

  spot_up : {a b : ℕ} {x y : Bool} → Spot m a b x y → Spot (suc m) a b x y
  spot_up w = record { at = w.at; low = w.low; high = omega arith; first = w.first; second = w.second }

  crossing_up : (a b : ℕ) → a < 2 ^ m → b < 2 ^ m → Overlapping m a b → Crossing (suc m) a b
  crossing_up a b la lb o = record {
    overlap = record { shared = spot_up o.shared; left = spot_up o.left; right = spot_up o.right };
    missed = record {
      at = suc m;
      low = omega arith;
      high = omega arith;
      first = high_holds m a (suc m) la (omega arith);
      second = high_holds m b (suc m) lb (omega arith);
    };
  }

  no_crossing : (a b : ℕ) → a < 2 ^ suc m → b < 2 ^ suc m → F a ≡ true → turned (suc m) F b ≡ true → Crossing (suc m) a b → ⊥
  unfolding turned CrossFree
  no_crossing a b la lb e f c =
      ⊎_elim (λ (g : F b ≡ true). free a b la lb e g c)
      (λ (g : F (full (suc m) - b) ≡ true). free a (full (suc m) - b) la (small_rest b) e g (crossing_rest lb c))
      (or_cases (F b) (F (full (suc m) - b)) f)

  turned_laminar : Laminar m (turned (suc m) F)
  unfolding turned Laminar
  turned_laminar a b la lb e f o =
      let c = crossing_up a b la lb o in
      let ha : a < 2 ^ suc m = omega (arith, pow-suc 2 m) in
      let hb : b < 2 ^ suc m = omega (arith, pow-suc 2 m) in
      ⊎_elim (λ (g : F a ≡ true). no_crossing a b ha hb g f c)
      (λ (g : F (full (suc m) - a) ≡ true). no_crossing (full (suc m) - a) b (small_rest a) hb g f (crossing_swap (crossing_rest ha (crossing_swap c))))
      (or_cases (F a) (F (full (suc m) - a)) e)

  module _ (alone : (s : ℕ) → s < 2 ^ m → F s ≡ true → F (full (suc m) - s) ≡ true → ⊥) where
    turned_count : count_below (2 ^ suc m) F ≡ count_below (2 ^ m) (turned (suc m) F)
    unfolding turned count_below full
    turned_count =
        let mirror : count_below (2 ^ m) (λ s. F (2 ^ m + s)) ≡ count_below (2 ^ m) (λ s. F (full (suc m) - s)) =
        sum_mirror (2 ^ m) (λ s. one_if (F (2 ^ m + s))) (λ s. one_if (F (full (suc m) - s)))
        (λ k l e. let q : 2 ^ m + k ≡ 2 ^ suc m - 1 - l = omega (arith, pow-suc 2 m) in ap (λ (s : ℕ). one_if (F s)) q) in
        omega (
          arith,
          count_halves m F,
          mirror,
          count_or_and (2 ^ m) F (λ s. F (full (suc m) - s)),
          count_none (2 ^ m) (λ s. F s && F (full (suc m) - s)) (λ s l. not_true_false (F s && F (full (suc m) - s)) (λ e. alone s l (and_l (F s) (F (full (suc m) - s)) e) (and_r (F s) (F (full (suc m) - s)) e))),
        )

turned_none : (n : ℕ) (F : ℕ → Bool) → F 0 ≡ false → F (full n) ≡ false → turned n F 0 ≡ false
unfolding turned
turned_none n F none proper = let e : full n - 0 ≡ full n = omega arith in rw (none, e) proper

pub cross_free_bound : (n : ℕ) (F : ℕ → Bool) → 1 ≤ n → CrossFree n F → F 0 ≡ false → F (full n) ≡ false →
    ((s : ℕ) → s < 2 ^ n → F s ≡ true → F (full n - s) ≡ true → ⊥) → count_below (2 ^ n) F ≤ 2 * n - 3
cross_free_bound zero F some free none proper alone = absurd (omega arith)
cross_free_bound (suc m) F some free none proper alone =
    omega (
      arith,
      turned_count m F free (λ s l. alone s (omega (arith, pow-suc 2 m))),
      laminar_bound m (turned (suc m) F) (turned_none (suc m) F none proper) (turned_laminar m F free),
    )
