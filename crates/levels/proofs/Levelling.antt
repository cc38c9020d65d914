-- Sums of weights as sums over places, differences in 32 bits, and levels place by place. Assumes nothing.
use mathlib.Core.Path.{◌≡◌, refl, sym, ap, ap₂, ◌∙◌}
use mathlib.Core.Bool.{cond}
use mathlib.Core.List.{List, ◌∷◌}
use Prim.Native.Nat.{ℕ, zero, suc, ◌+◌, ◌-◌, ◌^◌, ◌≤◌, ◌<◌}
use native.Mathlib.Numerals.{add-one}
use native.Mathlib.Omega.{arith}
use lib.Dec.{leb}
use lib.IntN.{ℤ, pos, negsuc, ◌-ℤ◌}
use lib.ListN.{get_or, length, set, length-set, take}
use lib.Seq.{get_or-set_same, get_or-set_other, get_or-take, length-take-le, ext_get_or}
use mir.Syntax.{w32}
use mir.Val.{to_z, of_z}
use mir.ValLaws.{to_z_pos}
use borrow.Author.Count.{below_more}
use borrow.Author.Tests.{le-leb, lt-leb}
use Rattle.laws.specs.Finite.{sum_below}
use Rattle.laws.proofs.Booleans.{cond_true, cond_false}
use Rattle.laws.proofs.Counts.{sum_head}
use Rattle.laws.proofs.Finite.{sum_ext}
use Rattle.laws.proofs.Signs.{below_zero_is}
use Rattle.junctions.specs.Sets.{holds}
use Rattle.hall.specs.Hall.{Hall}
use Rattle.hall.specs.Plan.{Cut, cut, level_sum, difference, levels_from, levels}
use Rattle.shorelist.specs.Listed.{place_of}
use Rattle.levels.specs.Levels.{cuts_in, Near, Levelled}

-- one place more
pub sum_more : (f : ℕ → ℕ) (k sum v : ℕ) → sum ≡ sum_below k f → v ≡ f k → sum + v ≡ sum_below (k + 1) f
unfolding sum_below
sum_more f k sum v e q = rw (add-one k) (omega (arith, e, q))

-- the sum over places
pub level_places : (shores weights : ℕ → ℕ) (j m i : ℕ) → level_sum j (cuts_in m i shores weights) ≡ sum_below m (λ k. cond (holds (shores (i + k)) j) (weights (i + k)) 0)
unfolding level_sum cuts_in sum_below cut
level_places shores weights j zero i = refl
level_places shores weights j (suc m) i =
    let f : ℕ → ℕ = λ k. cond (holds (shores k) j) (weights k) 0 in
    let later : sum_below m (λ k. f (i + suc k)) ≡ sum_below m (λ k. f (suc i + k)) =
    sum_ext m (λ k. f (i + suc k)) (λ k. f (suc i + k)) (λ k l. let e : i + suc k ≡ suc i + k = omega arith in ap f e) in
    let here : f (i + 0) ≡ f i = let e : i + 0 ≡ i = omega arith in ap f e in
    omega (arith, level_places shores weights j m (suc i), sum_head m (λ k. f (i + k)), later, here)

pub level_all : (shores weights : ℕ → ℕ) (j count : ℕ) → sum_below count (λ k. cond (holds (shores k) j) (weights k) 0) ≡ level_sum j (cuts_in count 0 shores weights)
level_all shores weights j count =
    let f : ℕ → ℕ = λ k. cond (holds (shores k) j) (weights k) 0 in
    sum_ext count f (λ k. f (0 + k)) (λ k l. let e : k ≡ 0 + k = omega arith in ap f e) ∙ sym (level_places shores weights j count 0)

-- the cuts of the first places are those of the whole columns
cuts_same : (m i : ℕ) (ss ws ss' ws' : ℕ → ℕ) → ((k : ℕ) → k < i + m → ss k ≡ ss' k) → ((k : ℕ) → k < i + m → ws k ≡ ws' k) → cuts_in m i ss ws ≡ cuts_in m i ss' ws'
unfolding cuts_in
cuts_same zero i ss ws ss' ws' p q = refl
cuts_same (suc m) i ss ws ss' ws' p q =
    ap₂ (λ (c : Cut) (cs : List Cut). c ∷ cs) (ap₂ cut (p i (omega arith)) (q i (omega arith)))
    (cuts_same m (suc i) ss ws ss' ws' (λ k l. p k (omega arith)) (λ k l. q k (omega arith)))

pub cuts_in_front : (n : ℕ) (ss ws : List ℕ) → n ≤ length ss → n ≤ length ws
    → cuts_in (length (take n ss)) 0 (place_of (take n ss)) (place_of (take n ws)) ≡ cuts_in n 0 (place_of ss) (place_of ws)
cuts_in_front n ss ws p q =
    ap (λ (k : ℕ). cuts_in k 0 (place_of (take n ss)) (place_of (take n ws))) (length-take-le n ss p)
    ∙ cuts_same n 0 (place_of (take n ss)) (place_of (take n ws)) (place_of ss) (place_of ws) (λ k l. get_or-take n ss k 0 (omega arith)) (λ k l. get_or-take n ws k 0 (omega arith))

-- differences
pub difference_pos : (a b : ℕ) → b ≤ a → difference a b ≡ pos (a - b)
unfolding difference
difference_pos a b l = cond_true (leb b a) (pos (a - b)) (negsuc (b - a - 1)) (le-leb b a l)

difference_neg : (a b : ℕ) → a < b → difference a b ≡ negsuc (b - a - 1)
unfolding difference
difference_neg a b l = cond_false (leb b a) (pos (a - b)) (negsuc (b - a - 1)) (lt-leb b a l)

-- the machine's difference
pub less_pos : (a b : ℕ) → b ≤ a → a < b + 2 ^ 31 → to_z w32 (a - b) ≡ difference a b
less_pos a b l h = to_z_pos w32 (a - b) (omega arith) ∙ sym (difference_pos a b l)

pub less_neg : (a b : ℕ) → a < b → b < a + 2 ^ 31 → to_z w32 (of_z w32 (pos 0 -ℤ to_z w32 (b - a))) ≡ difference a b
less_neg a b l h = below_zero_is (b - a) (omega arith) (omega arith) ∙ sym (difference_neg a b l)

-- levels place by place
pub levelled_none : (ks : List Cut) (before : List ℤ) → Levelled ks 0 before before
levelled_none ks before = record { size = refl; first = λ i l. absurd (omega arith); rest = λ i l. refl }

pub levelled_more : (ks : List Cut) (k : ℕ) (before after : List ℤ) (v : ℤ) → k < length before → v ≡ difference (level_sum (suc k) ks) (level_sum 1 ks) → Levelled ks k before after
    → Levelled ks (k + 1) before (set after k v)
levelled_more ks k before after v l e g = record {
  size = length-set after k v ∙ g.size;
  first = below_more (λ (i : ℕ). get_or (set after k v) i (pos 0) ≡ difference (level_sum (suc i) ks) (level_sum 1 ks)) k
      (λ i m. get_or-set_other after k i v (pos 0) (λ q. omega arith) ∙ g.first i m)
      (get_or-set_same after k v (pos 0) (omega (arith, g.size)) ∙ e);
  rest = λ i m. get_or-set_other after k i v (pos 0) (λ q. omega arith) ∙ g.rest i (omega arith);
}

-- the levels of a list of cuts, by place
pub levels_size : (ks : List Cut) (n j : ℕ) → length (levels_from n j ks) ≡ n
unfolding levels_from
levels_size ks zero j = refl
levels_size ks (suc n) j = ap suc (levels_size ks n (suc j))

levels-at : (ks : List Cut) (n j i : ℕ) → i < n → get_or (levels_from n j ks) i (pos 0) ≡ difference (level_sum (j + i) ks) (level_sum 1 ks)
unfolding levels_from
levels-at ks zero j i l = absurd (omega arith)
levels-at ks (suc n) j zero l = let e : j ≡ j + 0 = omega arith in ap (λ (m : ℕ). difference (level_sum m ks) (level_sum 1 ks)) e
levels-at ks (suc n) j (suc i) l =
    levels-at ks n (suc j) i (omega arith) ∙ (let e : suc j + i ≡ j + suc i = omega arith in ap (λ (m : ℕ). difference (level_sum m ks) (level_sum 1 ks)) e)

-- the first n places are the levels
pub levelled_levels : (ks : List Cut) (h : Hall) (before after : List ℤ) → h.n ≤ length before → Levelled ks h.n before after → take h.n after ≡ levels h ks
unfolding levels
levelled_levels ks h before after long g =
    let size : length (take h.n after) ≡ h.n = length-take-le h.n after (omega (arith, g.size)) in
    ext_get_or (pos 0) (take h.n after) (levels_from h.n 1 ks) (size ∙ sym (levels_size ks h.n 1))
    (λ i l.
    let m : i < h.n = omega (arith, size) in
    let e : 1 + i ≡ suc i = omega arith in
    get_or-take h.n after i (pos 0) m ∙ g.first i m ∙ sym (levels-at ks h.n 1 i m ∙ ap (λ (j : ℕ). difference (level_sum j ks) (level_sum 1 ks)) e))

-- one level fits, and is the difference of the sums that the machine has
module _ (ks : List Cut) (k : ℕ) {sum base : ℕ} (sum_is_lem : sum ≡ level_sum (k + 1) ks) (base_is : base ≡ level_sum 1 ks) where
  pub near_fits : (n : ℕ) → Near n ks → k < n → (sum < base + 2 ^ 31) × (base < sum + 2 ^ 31)
  unfolding Near
  near_fits n near l = let e = near (k + 1) (omega arith) (omega arith) in (omega (arith, e.0), omega (arith, e.1))

  pub level_is : difference sum base ≡ difference (level_sum (suc k) ks) (level_sum 1 ks)
  level_is = ap₂ difference (sum_is_lem ∙ ap (λ (j : ℕ). level_sum j ks) (add-one k)) base_is
