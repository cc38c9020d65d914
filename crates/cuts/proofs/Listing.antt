-- Listed places that weigh as given weights do are the listing of these weights. Assumes nothing.
use mathlib.Core.Path.{◌≡◌, refl, sym, ap, ap₂, ◌∙◌}
use mathlib.Core.List.{List, ◌∷◌}
use mathlib.Core.Logic.{◌⊎◌, ⊎_elim}
use Prim.Native.Nat.{ℕ, zero, suc, ◌+◌, ◌≤◌, ◌<◌}
use native.Mathlib.Omega.{arith}
use lib.Dec.{eqb, ltb}
use lib.ListN.{length}
use borrow.Author.Tests.{eqb-true, eqb-false, ltb-true, ltb-false}
use Rattle.laws.specs.Finite.{sum_below, count_below, one_if}
use Rattle.laws.proofs.Booleans.{by_bool}
use Rattle.laws.proofs.Connectives.{one_true, one_false}
use Rattle.laws.proofs.Counts.{sum_head}
use Rattle.laws.proofs.Finite.{sum_ext}
use Rattle.laws.proofs.Numbers.{compare-numbers}
use Rattle.hall.specs.Plan.{Cut, cut}
use Rattle.certificates.specs.Cuts.{listing}
use Rattle.shorelist.specs.Listed.{weight_in, Listed}
use Rattle.shorelist.proofs.Found.{weight_there, place_found}
use Rattle.levels.specs.Levels.{cuts_in}

-- a listing has as many cuts as there are weights over 0
pub listing-length : (w : ℕ → ℕ) (k s : ℕ) → length (listing k s w) ≡ count_below k (λ i. ltb 0 (w (s + i)))
unfolding listing count_below sum_below
listing-length w zero s = refl
listing-length w (suc k) s =
    let f : ℕ → ℕ = λ i. one_if (ltb 0 (w i)) in
    let later : sum_below k (λ i. f (s + suc i)) ≡ sum_below k (λ i. f (suc s + i)) =
    sum_ext k (λ i. f (s + suc i)) (λ i. f (suc s + i)) (λ i l. let e : s + suc i ≡ suc s + i = omega arith in ap f e) in
    let here : f (s + 0) ≡ f s = let e : s + 0 ≡ s = omega arith in ap f e in
    by_bool (ltb 0 (w s))
    (λ e. rw e (omega (arith, listing-length w k (suc s), sum_head k (λ i. f (s + i)), later, here, one_true (ltb 0 (w s)) e)))
    (λ e. rw e (omega (arith, listing-length w k (suc s), sum_head k (λ i. f (s + i)), later, here, one_false (ltb 0 (w s)) e)))

module _ (count : ℕ) (shores weights : ℕ → ℕ) (listed : Listed count shores weights) where
  module _ (w : ℕ → ℕ) (bound : ℕ) (weighs : (s : ℕ) → weight_in count shores weights s ≡ w s) (low : (s : ℕ) → 0 < w s → s < bound) where
    some_there : (i : ℕ) → i < count → 0 < w (shores i)
    some_there i l = omega (arith, weighs (shores i), weight_there count shores weights listed i l, listed.some i l)

    -- the first place whose shore is not under t has shore t, if any place has
    first_there : (t i j : ℕ) → ((j : ℕ) → j < i → shores j < t) → ((j : ℕ) → i ≤ j → j < count → t ≤ shores j) → j < count → shores j ≡ t → shores i ≡ t
    first_there t i j before from l is =
        ⊎_elim (λ (e : j ≡ i). ap shores (sym e) ∙ is)
        (λ (o : (j < i) ⊎ (i < j)).
        ⊎_elim (λ (b : j < i). absurd (omega (arith, before j b)))
        (λ (b : i < j). absurd (omega (arith, listed.ascending i j b l, from i (omega arith) (omega arith)))) o)
        (compare-numbers j i)

    -- from shore t and place i on
    rest_listed : (k t m i : ℕ) → k + t ≡ bound → m + i ≡ count → ((j : ℕ) → j < i → shores j < t) → ((j : ℕ) → i ≤ j → j < count → t ≤ shores j)
        → cuts_in m i shores weights ≡ listing k t w
    unfolding cuts_in listing
    rest_listed zero t zero i b c before from = refl
    rest_listed zero t (suc m) i b c before from = absurd (omega (arith, low (shores i) (some_there i (omega arith)), from i (omega arith) (omega arith)))
    rest_listed (suc k) t zero i b c before from =
        by_bool (ltb 0 (w t))
        (λ e. let f = place_found count shores weights listed t (omega (arith, weighs t, ltb-true 0 (w t) e)) in absurd (omega (arith, before f.0 (omega (arith, f.1)), f.2)))
        (λ e. rw e (rest_listed k (suc t) zero i (omega arith) c (λ j l. omega (arith, before j l)) (λ j l o. absurd (omega arith))))
    rest_listed (suc k) t (suc m) i b c before from =
        by_bool (ltb 0 (w t))
        (λ e.
        let f = place_found count shores weights listed t (omega (arith, weighs t, ltb-true 0 (w t) e)) in
        let is : shores i ≡ t = first_there t i f.0 before from f.1 f.2 in
        let weight_is : weights i ≡ w t = sym (weight_there count shores weights listed i (omega arith)) ∙ weighs (shores i) ∙ ap w is in
        let rest : cuts_in m (suc i) shores weights ≡ listing k (suc t) w =
        rest_listed k (suc t) m (suc i) (omega arith) (omega arith)
        (λ j l. by_bool (eqb j i) (λ q. omega (arith, ap shores (eqb-true j i q), is)) (λ q. let ne = eqb-false j i q in omega (arith, before j (omega arith))))
        (λ j l o. omega (arith, listed.ascending i j (omega arith) o, is)) in
        rw e (ap₂ (λ (c : Cut) (cs : List Cut). c ∷ cs) (ap₂ cut is weight_is) rest))
        (λ e.
        let none : w t ≡ 0 = let z = ltb-false 0 (w t) e in omega arith in
        rw e
        (rest_listed k (suc t) (suc m) i (omega arith) c (λ j l. omega (arith, before j l))
        (λ j l o.
        let le = from j l o in
        by_bool (eqb (shores j) t)
        (λ q. absurd (omega (arith, some_there j o, ap w (eqb-true (shores j) t q), none)))
        (λ q. let ne = eqb-false (shores j) t q in omega arith))))

    pub listed-listing : cuts_in count 0 shores weights ≡ listing bound 0 w
    listed-listing = rest_listed bound 0 count 0 (omega arith) (omega arith) (λ j l. absurd (omega arith)) (λ j l o. omega arith)
