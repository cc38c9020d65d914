-- The shores of all thresholds: sums over them as sums over weights, and that the weights of the shores that hold a junction add up to its potential and a constant. Assumes nothing.
use mathlib.Core.Path.{◌≡◌, refl, sym, ap, subst, ◌∙◌}
use mathlib.Core.Bool.{Bool, true, false, not, cond}
use Prim.Native.Nat.{ℕ, zero, suc, ◌+◌, ◌^◌, ◌≤◌, ◌<◌, min}
use native.Mathlib.Omega.{arith}
use lib.Dec.{eqb, leb}
use borrow.Author.Tests.{eqb-true, leb-true, leb-false}
use Rattle.laws.specs.Finite.{sum_below, one_if}
use Rattle.laws.proofs.Booleans.{by_bool}
use Rattle.laws.proofs.Connectives.{one_true, one_false}
use Rattle.laws.proofs.DoubleSums.{sum_swap, sum-cond, sum_found}
use Rattle.laws.proofs.Finite.{sum_ext, sum_add, sum_one}
use Rattle.junctions.specs.Sets.{holds}
use Rattle.hall.specs.Hall.{Hall}
use Rattle.certificates.specs.Pieces.{piece, over_pieces}
use Rattle.certificates.specs.Cuts.{outside, links, component, mates, upper, class, ShoreOf, over_shores, over_levels, weight}
use Rattle.certificates.proofs.PieceSums.{over_ext, over_add, over_swap, over_cond, over_found, over_held}
use Rattle.certificates.proofs.Components.{outside-holds, outside_lt, has_outside, links_mutual}
use Rattle.certificates.proofs.Classes.{upper_lt, upper-holds, mates_mutual}

one_not : (b : Bool) → one_if (not b) + one_if b ≡ 1
unfolding one_if
one_not true = refl
one_not false = refl

both_ways : (a b : Bool) → cond a (one_if b) 0 ≡ cond b (one_if a) 0
unfolding one_if
both_ways true true = refl
both_ways true false = refl
both_ways false true = refl
both_ways false false = refl

-- how many thresholds up to top a number reaches
one_up_to : (m top : ℕ) → sum_below top (λ q. one_if (leb (suc q) m)) ≡ min top m
unfolding sum_below
one_up_to m zero = omega arith
one_up_to m (suc top) =
    by_bool (leb (suc top) m)
    (λ e. omega (arith, one_up_to m top, one_true (leb (suc top) m) e, leb-true (suc top) m e))
    (λ e. omega (arith, one_up_to m top, one_false (leb (suc top) m) e, leb-false (suc top) m e))

module _ (h : Hall) (x : ℕ → ℕ) (u : ℕ) where
  pub shores_ext : (f g : ℕ → ℕ) → ((s : ℕ) → s < 2 ^ h.n → f s ≡ g s) → over_shores h x u f ≡ over_shores h x u g
  unfolding over_shores
  shores_ext f g same =
      over_ext h.n (mates h x) u (λ k. over_pieces h.n (links h) (outside h.n k) (λ c. f (outside h.n c)))
      (λ k. over_pieces h.n (links h) (outside h.n k) (λ c. g (outside h.n c)))
      (λ a l m e. over_ext h.n (links h) (outside h.n _) (λ c. f (outside h.n c)) (λ c. g (outside h.n c))
      (λ b lb mb eb. same (outside h.n _) (outside_lt h.n _)))

  pub shores_swap : (m : ℕ) (f : ℕ → ℕ → ℕ) → over_shores h x u (λ s. sum_below m (λ i. f i s)) ≡ sum_below m (λ i. over_shores h x u (f i))
  unfolding over_shores
  shores_swap m f =
      let at : ℕ → ℕ → ℕ = λ i k. over_pieces h.n (links h) (outside h.n k) (λ c. f i (outside h.n c)) in
      over_ext h.n (mates h x) u (λ k. over_pieces h.n (links h) (outside h.n k) (λ c. sum_below m (λ i. f i (outside h.n c)))) (λ k. sum_below m (λ i. at i k))
      (λ a l r e. over_swap h.n (links h) (outside h.n _) m (λ i c. f i (outside h.n c)))
      ∙ over_swap h.n (mates h x) u m at

  pub shores-cond : (b : Bool) (f : ℕ → ℕ) → cond b (over_shores h x u f) 0 ≡ over_shores h x u (λ s. cond b (f s) 0)
  unfolding over_shores
  shores-cond b f =
      let at : ℕ → ℕ = λ k. over_pieces h.n (links h) (outside h.n k) (λ c. f (outside h.n c)) in
      over_cond h.n (mates h x) u b at
      ∙ over_ext h.n (mates h x) u (λ k. cond b (at k) 0) (λ k. over_pieces h.n (links h) (outside h.n k) (λ c. cond b (f (outside h.n c)) 0))
      (λ a l m e. over_cond h.n (links h) (outside h.n _) b (λ c. f (outside h.n c)))

  pub shores_found : (f : ℕ → ℕ) → 0 < over_shores h x u f → (s : ℕ) × ShoreOf h x u s × (0 < f s)
  unfolding over_shores class component
  shores_found f pos =
      let a = over_found h.n (mates h x) u (λ k. over_pieces h.n (links h) (outside h.n k) (λ c. f (outside h.n c))) pos in
      let k = class h x u a.0 in
      let b = over_found h.n (links h) (outside h.n k) (λ c. f (outside h.n c)) a.4 in (
        outside h.n (component h k b.0),
        record {
          seed = a.0;
          seed_low = a.1;
          seed_in = a.3;
          at = b.0;
          at_low = b.1;
          at_high = b.2;
          at_out = has_outside h.n k b.0 b.1 b.3;
          is = refl;
        },
        b.4,
      )

  -- one class: how many of its shores hold j
  class_held : (k j : ℕ) → 1 ≤ j → j ≤ h.n →
      over_pieces h.n (links h) (outside h.n k) (λ c. one_if (holds (outside h.n c) j)) + 1
      ≡ one_if (holds k j) + over_pieces h.n (links h) (outside h.n k) (λ c. 1)
  class_held k j l m =
      let w = outside h.n k in
      let shore : ℕ → ℕ = λ c. one_if (holds (outside h.n c) j) in
      let comp : ℕ → ℕ = λ c. one_if (holds c j) in
      let each : over_pieces h.n (links h) w (λ c. shore c + comp c) ≡ over_pieces h.n (links h) w (λ c. 1) =
      over_ext h.n (links h) w (λ c. shore c + comp c) (λ c. 1)
      (λ a la ma e.
      let c = piece h.n (links h) w a in
      ap (λ (b : Bool). one_if b + comp c) (outside-holds h.n c j l m) ∙ one_not (holds c j)) in
      let held : over_pieces h.n (links h) w comp ≡ one_if (holds w j) = over_held h.n (links h) (links_mutual h) w (outside_lt h.n k) j l m in
      let rest : one_if (holds w j) + one_if (holds k j) ≡ 1 = ap (λ (b : Bool). one_if b + one_if (holds k j)) (outside-holds h.n k j l m) ∙ one_not (holds k j) in
      omega (arith, over_add h.n (links h) w shore comp)

  -- how many classes, and how many components without them
  classes : ℕ
  classes = over_pieces h.n (mates h x) u (λ k. 1)

  components : ℕ
  components = over_pieces h.n (mates h x) u (λ k. over_pieces h.n (links h) (outside h.n k) (λ c. 1))

  -- how many shores hold j
  shores_held : u < 2 ^ h.n → (j : ℕ) → 1 ≤ j → j ≤ h.n → over_shores h x u (λ s. one_if (holds s j)) + classes ≡ one_if (holds u j) + components
  unfolding over_shores classes components
  shores_held low j l m =
      let inner : ℕ → ℕ = λ k. over_pieces h.n (links h) (outside h.n k) (λ c. one_if (holds (outside h.n c) j)) in
      let parts : ℕ → ℕ = λ k. over_pieces h.n (links h) (outside h.n k) (λ c. 1) in
      let held : ℕ → ℕ = λ k. one_if (holds k j) in
      let each : over_pieces h.n (mates h x) u (λ k. inner k + 1) ≡ over_pieces h.n (mates h x) u (λ k. held k + parts k) =
      over_ext h.n (mates h x) u (λ k. inner k + 1) (λ k. held k + parts k) (λ a la ma e. class_held (piece h.n (mates h x) u a) j l m) in
      omega (
        arith,
        over_add h.n (mates h x) u inner (λ k. 1),
        over_add h.n (mates h x) u held parts,
        over_held h.n (mates h x) (mates_mutual h x) u low j l m,
      )

module _ (h : Hall) (x p : ℕ → ℕ) (top : ℕ) where
  at_least : ℕ → ℕ
  at_least q = upper h.n p (suc q)

  -- a sum over the shores of all thresholds, as a sum over weights
  pub weights-spread : (t : ℕ → Bool) → sum_below (2 ^ h.n) (λ s. cond (t s) (weight h x p top s) 0) ≡ over_levels h x p top (λ s. one_if (t s))
  unfolding weight over_levels at_least
  weights-spread t =
      let same : ℕ → ℕ → ℕ = λ s r. one_if (eqb s r) in
      let picked : ℕ → ℕ → ℕ = λ s r. cond (t s) (same s r) 0 in
      let levels : (ℕ → ℕ) → ℕ = λ f. sum_below top (λ q. over_shores h x (at_least q) f) in
      let inward : (s : ℕ) → cond (t s) (levels (same s)) 0 ≡ levels (picked s) =
      λ s. sum-cond (t s) top (λ q. over_shores h x (at_least q) (same s))
      ∙ sum_ext top (λ q. cond (t s) (over_shores h x (at_least q) (same s)) 0) (λ q. over_shores h x (at_least q) (picked s)) (λ q l. shores-cond h x (at_least q) (t s) (same s)) in
      let one : (r : ℕ) → r < 2 ^ h.n → sum_below (2 ^ h.n) (λ s. picked s r) ≡ one_if (t r) =
      λ r l. sum_ext (2 ^ h.n) (λ s. picked s r) (λ s. cond (eqb s r) (one_if (t s)) 0) (λ s ls. both_ways (t s) (eqb s r)) ∙ sum_one (2 ^ h.n) (λ s. one_if (t s)) r l in
      sum_ext (2 ^ h.n) (λ s. cond (t s) (levels (same s)) 0) (λ s. levels (picked s)) (λ s l. inward s)
      ∙ sum_swap (2 ^ h.n) top (λ s q. over_shores h x (at_least q) (picked s))
      ∙ sum_ext top (λ q. sum_below (2 ^ h.n) (λ s. over_shores h x (at_least q) (picked s))) (λ q. over_shores h x (at_least q) (λ r. one_if (t r)))
      (λ q l. sym (shores_swap h x (at_least q) (2 ^ h.n) picked) ∙ shores_ext h x (at_least q) (λ r. sum_below (2 ^ h.n) (λ s. picked s r)) (λ r. one_if (t r)) one)

  -- a shore with a weight over 0 is a shore of some threshold
  pub weight_found : (s : ℕ) → 0 < weight h x p top s → (q : ℕ) × (q < top) × ShoreOf h x (upper h.n p (suc q)) s
  unfolding weight over_levels
  weight_found s pos =
      let q = sum_found top (λ q. over_shores h x (upper h.n p (suc q)) (λ t. one_if (eqb s t))) pos in
      let found = shores_found h x (upper h.n p (suc q.0)) (λ t. one_if (eqb s t)) q.2 in
      let same : s ≡ found.0 =
      by_bool (eqb s found.0) (λ e. eqb-true s found.0 e) (λ e. absurd (omega (arith, found.2, one_false (eqb s found.0) e))) in
      (q.0, q.1, subst (λ (r : ℕ). ShoreOf h x (upper h.n p (suc q.0)) r) (sym same) found.1)

  -- what the weights of the shores that hold a junction are over its potential is the same for all junctions
  counts : ℕ
  counts = sum_below top (λ q. classes h x (at_least q))

  parts : ℕ
  parts = sum_below top (λ q. components h x (at_least q))

  levels_held : (j : ℕ) → 1 ≤ j → j ≤ h.n → p j ≤ top → over_levels h x p top (λ s. one_if (holds s j)) + counts ≡ p j + parts
  unfolding over_levels at_least counts parts
  levels_held j l m t =
      let shores : ℕ → ℕ = λ q. over_shores h x (at_least q) (λ s. one_if (holds s j)) in
      let in_it : ℕ → ℕ = λ q. one_if (holds (at_least q) j) in
      let each : sum_below top (λ q. shores q + classes h x (at_least q)) ≡ sum_below top (λ q. in_it q + components h x (at_least q)) =
      sum_ext top (λ q. shores q + classes h x (at_least q)) (λ q. in_it q + components h x (at_least q))
      (λ q lq. shores_held h x (at_least q) (upper_lt h.n p (suc q)) j l m) in
      let reached : sum_below top in_it ≡ min top (p j) =
      sum_ext top in_it (λ q. one_if (leb (suc q) (p j))) (λ q lq. ap one_if (upper-holds h.n p (suc q) j l m)) ∙ one_up_to (p j) top in
      omega (
        arith,
        sum_add top shores (λ q. classes h x (at_least q)),
        sum_add top in_it (λ q. components h x (at_least q)),
      )

  pub levels_differ : (i j : ℕ) → 1 ≤ i → i ≤ h.n → 1 ≤ j → j ≤ h.n → p i ≤ top → p j ≤ top
      → over_levels h x p top (λ s. one_if (holds s i)) + p j ≡ over_levels h x p top (λ s. one_if (holds s j)) + p i
  levels_differ i j li mi lj mj ti tj = omega (arith, levels_held i li mi ti, levels_held j lj mj tj)
