-- A laminar family of non-empty sets of k junctions has at most 2k - 1 members. By induction, the last junction left out: apart from the set of
-- that junction alone, at most one pair of sets falls together. Assumes nothing.
use mathlib.Core.Path.{◌≡◌, refl, ap, ◌∙◌}
use mathlib.Core.Bool.{Bool, true, false, ◌&&◌, ◌||◌}
use mathlib.Core.Logic.{⊎_elim}
use Prim.Native.Nat.{ℕ, zero, suc, ◌+◌, ◌-◌, ◌*◌, ◌^◌, ◌≤◌, ◌<◌}
use native.Mathlib.Nat.{pow-suc}
use native.Mathlib.Omega.{arith}
use lib.Dec.{eqb, ltb}
use lib.Pow.{pow_pos}
use borrow.Author.Tests.{lt-ltb, eqb-false}
use Rattle.laws.specs.Finite.{count_below, one_if}
use Rattle.laws.proofs.Booleans.{by_bool, clash, and_l, and_r, and_i, or_cases, or_l, or_r, bool_ext, not_false_true}
use Rattle.laws.proofs.Counts.{sum_split, count_or_and, count_mono, count_none, count-alone, count_insert}
use Rattle.junctions.specs.Sets.{holds}
use Rattle.junctions.proofs.Sets.{high_holds, sets_ext, some_junction}
use Rattle.junctions.proofs.Complement.{top_holds, low_holds}
use Rattle.laminar.specs.Families.{Spot, Laminar}

-- the sets below 2 to the power of suc k, without the last junction and with it
pub count_halves : (k : ℕ) (F : ℕ → Bool) → count_below (2 ^ suc k) F ≡ count_below (2 ^ k) F + count_below (2 ^ k) (λ s. F (2 ^ k + s))
unfolding count_below
count_halves k F =
    let e : 2 ^ suc k ≡ 2 ^ k + 2 ^ k = omega (arith, pow-suc 2 k) in
    rw e (sum_split (2 ^ k) (2 ^ k) (λ s. one_if (F s)))

-- the non-empty sets that are left of a family's sets when the last junction is left out
unfoldable left_of : (k : ℕ) → (F : ℕ → Bool) → ℕ → Bool
left_of k F s = ltb 0 s && (F s || F (2 ^ k + s))

module _ (k : ℕ) (F : ℕ → Bool) (none : F 0 ≡ false) (laminar : Laminar (suc k) F) where
  not_empty : (s : ℕ) → F s ≡ true → 0 < s
  not_empty zero e = clash e none
  not_empty (suc s) e = omega arith

  -- one of the two sets from which a set is left
  record Source (s : ℕ) : Type 0 where
    set : ℕ
    small : set < 2 ^ suc k
    in_it : F set ≡ true
    same : (j : ℕ) → 1 ≤ j → j ≤ k → holds set j ≡ holds s j

  source : (s : ℕ) → s < 2 ^ k → left_of k F s ≡ true → Source s
  unfolding left_of
  source s h e =
      ⊎_elim (λ (p : F s ≡ true). record { set = s; small = omega (arith, pow-suc 2 k); in_it = p; same = λ j l m. refl })
      (λ (p : F (2 ^ k + s) ≡ true). record { set = 2 ^ k + s; small = omega (arith, pow-suc 2 k); in_it = p; same = low_holds k s })
      (or_cases (F s) (F (2 ^ k + s)) (and_r (ltb 0 s) (F s || F (2 ^ k + s)) e))

  carry : {a b : ℕ} {x y : Bool} (p : Source a) (q : Source b) → Spot k a b x y → Spot (suc k) p.set q.set x y
  carry p q w = record {
    at = w.at;
    low = w.low;
    high = omega arith;
    first = p.same w.at w.low w.high ∙ w.first;
    second = q.same w.at w.low w.high ∙ w.second;
  }

  left_laminar : Laminar k (left_of k F)
  unfolding Laminar
  left_laminar a b la lb ea eb o =
      let p = source a la ea in
      let q = source b lb eb in
      laminar p.set q.set p.small q.small p.in_it q.in_it
      (record { shared = carry p q o.shared; left = carry p q o.left; right = carry p q o.right })

  -- both with and without the last junction
  record Paired (s : ℕ) : Type 0 where
    small : s < 2 ^ k
    without : F s ≡ true
    along : F (2 ^ k + s) ≡ true

  paired_within : (s t : ℕ) → Paired s → Paired t → (j : ℕ) → 1 ≤ j → j ≤ k → holds s j ≡ true → holds t j ≡ true
  unfolding Laminar
  paired_within s t p q j l m e = not_false_true (holds t j) no
    where
      no : holds t j ≡ false → ⊥
      no f =
          let i = some_junction k t (not_empty t q.without) q.small in
          by_bool (holds s i.0)
          (λ g.
          laminar s (2 ^ k + t) (omega (arith, p.small, pow-suc 2 k)) (omega (arith, q.small, pow-suc 2 k)) p.without q.along
          (record {
            shared = record { at = i.0; low = i.1; high = omega arith; first = g; second = low_holds k t i.0 i.1 i.2 ∙ i.3 };
            left = record { at = j; low = l; high = omega arith; first = e; second = low_holds k t j l m ∙ f };
            right = record { at = suc k; low = omega arith; high = omega arith; first = high_holds k s (suc k) p.small (omega arith); second = top_holds k t q.small };
          }))
          (λ g.
          laminar (2 ^ k + s) (2 ^ k + t) (omega (arith, p.small, pow-suc 2 k)) (omega (arith, q.small, pow-suc 2 k)) p.along q.along
          (record {
            shared = record { at = suc k; low = omega arith; high = omega arith; first = top_holds k s p.small; second = top_holds k t q.small };
            left = record { at = j; low = l; high = omega arith; first = low_holds k s j l m ∙ e; second = low_holds k t j l m ∙ f };
            right = record { at = i.0; low = i.1; high = omega arith; first = low_holds k s i.0 i.1 i.2 ∙ g; second = low_holds k t i.0 i.1 i.2 ∙ i.3 };
          }))

  paired : (s : ℕ) → s < 2 ^ k → F s && F (2 ^ k + s) ≡ true → Paired s
  paired s h e = record { small = h; without = and_l (F s) (F (2 ^ k + s)) e; along = and_r (F s) (F (2 ^ k + s)) e }

  one_pair : count_below (2 ^ k) (λ s. F s && F (2 ^ k + s)) ≤ 1
  one_pair =
      count-alone (2 ^ k) (λ s. F s && F (2 ^ k + s))
      (λ s t hs ht es et.
      let p = paired s hs es in
      let q = paired t ht et in
      sets_ext k s t hs ht (λ j l m. bool_ext (holds s j) (holds t j) (paired_within s t p q j l m) (paired_within t s q p j l m)))

  either_few : count_below (2 ^ k) (λ s. F s || F (2 ^ k + s)) ≤ suc (count_below (2 ^ k) (left_of k F))
  unfolding left_of
  either_few =
      omega (arith, count_insert (2 ^ k) 0 (left_of k F) (pow_pos k) refl, count_mono (2 ^ k) (λ s. F s || F (2 ^ k + s)) (λ s. eqb 0 s || left_of k F s) more)
    where
      more : (s : ℕ) → s < 2 ^ k → F s || F (2 ^ k + s) ≡ true → eqb 0 s || left_of k F s ≡ true
      more s h e =
          by_bool (eqb 0 s) (λ z. or_l (eqb 0 s) (left_of k F s) z)
          (λ z. or_r (eqb 0 s) (left_of k F s) (and_i (ltb 0 s) (F s || F (2 ^ k + s)) (lt-ltb 0 s (omega (arith, eqb-false 0 s z))) e))

  -- two more at most than without the last junction
  leave_out : count_below (2 ^ suc k) F ≤ count_below (2 ^ k) (left_of k F) + 2
  leave_out = omega (arith, count_halves k F, count_or_and (2 ^ k) F (λ s. F (2 ^ k + s)), one_pair, either_few)

none_left : (k : ℕ) (F : ℕ → Bool) → left_of k F 0 ≡ false
unfolding left_of
none_left k F = refl

pub laminar_bound : (k : ℕ) (F : ℕ → Bool) → F 0 ≡ false → Laminar k F → count_below (2 ^ k) F ≤ 2 * k - 1
laminar_bound zero F none lam = omega (arith, count_none 1 F (λ s h. let e : s ≡ 0 = omega arith in ap F e ∙ none))
laminar_bound (suc zero) F none lam = count-alone 2 F (λ s t hs ht es et. omega (arith, not_empty 0 F none lam s es, not_empty 0 F none lam t et))
laminar_bound (suc (suc k)) F none lam =
    omega (arith, leave_out (suc k) F none lam, laminar_bound (suc k) (left_of (suc k) F) (none_left (suc k) F) (left_laminar (suc k) F none lam))
