-- Shores of saturated sets, one of which contains the other, are tight and do not cross. Assumes nothing.
-- Classes are nested or apart. Nested: a component without the larger lies in one without the smaller. Apart: each lies in one component
-- without the other, and these two components cover the hall.
use mathlib.Core.Path.{◌≡◌, sym, ap, ◌∙◌}
use mathlib.Core.Bool.{true, false, ◌&&◌}
use Prim.Native.Nat.{ℕ, suc, ◌-◌, ◌^◌, ◌≤◌, ◌<◌}
use native.Mathlib.Omega.{arith}
use Rattle.laws.proofs.Booleans.{by_bool, clash, and_l, and_r, and_i, not_true_false}
use Rattle.laws.proofs.Finite.{decide_below}
use Rattle.junctions.specs.Sets.{holds}
use Rattle.junctions.proofs.Bounds.{junction_le}
use Rattle.hall.specs.Hall.{Hall}
use Rattle.dicuts.specs.Shores.{Ranged, Joining, Tight}
use Rattle.laminar.specs.Families.{Crossing}
use Rattle.certificates.specs.Cuts.{outside, component, Good, Saturated, class, ShoreOf}
use Rattle.certificates.proofs.Components.{outside_has, has_outside, lacks_outside, component_self, component_avoids, component_same, component_meet, component_mono}
use Rattle.certificates.proofs.Good.{tight_in_component}
use Rattle.certificates.proofs.Classes.{class_lt, class_self, class_nested, class_good, class_in_component}

module _ (h : Hall) (k l b d : ℕ) (lb : 1 ≤ b) (mb : b ≤ h.n) (ld : 1 ≤ d) (md : d ≤ h.n) (kb : holds k b ≡ false) (l_d : holds l d ≡ false)
    (c : Crossing h.n (outside h.n (component h k b)) (outside h.n (component h l d))) where
  -- where the larger set contains the smaller, a component without it lies in one without the smaller
  nested_cross : ((j : ℕ) → 1 ≤ j → j ≤ h.n → holds k j ≡ true → holds l j ≡ true) → ⊥
  nested_cross sub =
      let m = c.missed in
      let i = c.overlap.left in
      let in_k = lacks_outside h.n (component h k b) m.at m.low m.high m.first in
      let in_l = lacks_outside h.n (component h l d) m.at m.low m.high m.second in
      let i_l = lacks_outside h.n (component h l d) i.at i.low i.high i.second in
      let from_l : holds (component h l m.at) i.at ≡ true = ap (λ (s : ℕ). holds s i.at) (component_same h l d m.at ld md m.low l_d in_l) ∙ i_l in
      let to_k : holds (component h k m.at) i.at ≡ true =
      component_mono h l k sub m.at m.low m.high (component_avoids h l d ld md l_d m.at m.low in_l) i.at i.low from_l in
      clash (ap (λ (s : ℕ). holds s i.at) (sym (component_same h k b m.at lb mb m.low kb in_k)) ∙ to_k) (has_outside h.n (component h k b) i.at i.low i.first)

  -- where a is in k and e in l, and the component of a without l and that of e without k cover the hall
  covering_cross : (a e : ℕ) → 1 ≤ a → a ≤ h.n → 1 ≤ e → e ≤ h.n → holds l a ≡ false → holds k e ≡ false
      → ((j : ℕ) → 1 ≤ j → j ≤ h.n → holds (component h l a) j ≡ false → holds (component h k e) j ≡ true) → ⊥
  covering_cross a e la ma le me l_a ke cover =
      by_bool (holds (component h l d) a)
      (λ p.
      let one_l : component h l a ≡ component h l d = component_same h l d a ld md la l_d p in
      let in_e : (j : ℕ) → 1 ≤ j → j ≤ h.n → holds (component h l d) j ≡ false → holds (component h k e) j ≡ true = λ j lj mj q. cover j lj mj (ap (λ (s : ℕ). holds s j) one_l ∙ q) in
      by_bool (holds (component h k b) e)
      (λ q.
      let s = c.overlap.shared in
      clash (ap (λ (r : ℕ). holds r s.at) (sym (component_same h k b e lb mb le kb q)) ∙ in_e s.at s.low s.high (has_outside h.n (component h l d) s.at s.low s.second))
      (has_outside h.n (component h k b) s.at s.low s.first))
      (λ q.
      let r = c.overlap.right in
      let both = component_meet h k b e r.at lb mb le me r.low kb ke (lacks_outside h.n (component h k b) r.at r.low r.high r.first)
      (in_e r.at r.low r.high (has_outside h.n (component h l d) r.at r.low r.second)) in
      clash (ap (λ (s : ℕ). holds s e) both ∙ component_self h k e le me) q))
      (λ p.
      let in_e : (j : ℕ) → 1 ≤ j → j ≤ h.n → holds (component h l d) j ≡ true → holds (component h k e) j ≡ true =
      λ j lj mj q. cover j lj mj (not_true_false (holds (component h l a) j) (λ z.
      clash (ap (λ (s : ℕ). holds s a) (component_meet h l d a j ld md la ma lj l_d l_a q z) ∙ component_self h l a la ma) p)) in
      let i = c.overlap.left in
      let m = c.missed in
      let i_e = in_e i.at i.low i.high (lacks_outside h.n (component h l d) i.at i.low i.high i.second) in
      let m_e = in_e m.at m.low m.high (lacks_outside h.n (component h l d) m.at m.low m.high m.second) in
      let both = component_meet h k b e m.at lb mb le me m.low kb ke (lacks_outside h.n (component h k b) m.at m.low m.high m.first) m_e in
      clash (ap (λ (s : ℕ). holds s i.at) both ∙ i_e) (has_outside h.n (component h k b) i.at i.low i.first))

module _ (h : Hall) (ranged : Ranged h) (x : ℕ → ℕ) (joins : Joining h x) where
  pub shore_tight : (u s : ℕ) → u < 2 ^ h.n → Saturated h x u → ShoreOf h x u s → Tight h x s
  unfolding Good
  shore_tight u s low sat o =
      rw o.is (class_good h ranged x joins u low sat o.seed o.seed_low o.seed_in o.at o.at_low o.at_high o.at_out)

  module _ (u t : ℕ) (u_lt : u < 2 ^ h.n) (t_lt : t < 2 ^ h.n) (u_sat : Saturated h x u) (t_sat : Saturated h x t)
      (sub : (j : ℕ) → 1 ≤ j → holds u j ≡ true → holds t j ≡ true) (s r : ℕ) (o : ShoreOf h x u s) (i : ShoreOf h x t r) where
    k : ℕ
    k = class h x u o.seed

    l : ℕ
    l = class h x t i.seed

    seed_high : o.seed ≤ h.n
    seed_high = junction_le h.n u o.seed u_lt o.seed_in

    other_high : i.seed ≤ h.n
    other_high = junction_le h.n t i.seed t_lt i.seed_in

    l_good : Good h x l
    unfolding l
    l_good = class_good h ranged x joins t t_lt t_sat i.seed i.seed_low i.seed_in

    module _ (apart : (j : ℕ) → 1 ≤ j → j ≤ h.n → holds k j ≡ true → holds l j ≡ false) where
      seed_apart : holds l o.seed ≡ false
      unfolding k
      seed_apart = apart o.seed o.seed_low seed_high (class_self h x u u_lt o.seed o.seed_low seed_high)

      other_apart : holds k i.seed ≡ false
      unfolding l
      other_apart = not_true_false (holds k i.seed) (λ q. clash (class_self h x t t_lt i.seed i.seed_low other_high) (apart i.seed i.seed_low other_high q))

      k_in_component : (j : ℕ) → 1 ≤ j → holds k j ≡ true → holds (component h l o.seed) j ≡ true
      unfolding k
      k_in_component =
          class_in_component h ranged x joins u u_lt u_sat o.seed o.seed_low o.seed_in l l_good
          (λ j lj e. apart j lj (junction_le h.n k j (class_lt h x u u_lt o.seed o.seed_low seed_high) e) e)

      apart-cover : (j : ℕ) → 1 ≤ j → j ≤ h.n → holds (component h l o.seed) j ≡ false → holds (component h k i.seed) j ≡ true
      unfolding l Good
      apart-cover j lj mj e =
          let c = component h l o.seed in
          tight_in_component h ranged x joins (outside h.n c) k (l_good o.seed o.seed_low seed_high seed_apart)
          (λ g lg mg q. not_true_false (holds k g) (λ z. clash (k_in_component g lg z) (has_outside h.n c g lg q)))
          i.seed i.seed_low other_high
          (outside_has h.n c i.seed i.seed_low other_high
          (not_true_false (holds c i.seed) (λ z.
          clash (class_self h x t t_lt i.seed i.seed_low other_high) (component_avoids h l o.seed o.seed_low seed_high seed_apart i.seed i.seed_low z))))
          j lj (outside_has h.n c j lj mj e)

    pub shores_uncross : Crossing h.n s r → ⊥
    unfolding k l
    shores_uncross c =
        let c' : Crossing h.n (outside h.n (component h k o.at)) (outside h.n (component h l i.at)) = rw (o.is, i.is) at c in
        decide_below h.n (λ j. holds k (suc j) && holds l (suc j))
        (λ z lz e.
        nested_cross h k l o.at i.at o.at_low o.at_high i.at_low i.at_high o.at_out i.at_out c'
        (λ j lj mj q.
        class_nested h x u t u_lt t_lt sub o.seed i.seed o.seed_low i.seed_low o.seed_in i.seed_in (suc z) (omega arith)
        (and_l (holds k (suc z)) (holds l (suc z)) e) (and_r (holds k (suc z)) (holds l (suc z)) e) j lj q))
        (λ none.
        let apart : (j : ℕ) → 1 ≤ j → j ≤ h.n → holds k j ≡ true → holds l j ≡ false =
        λ j lj mj q. not_true_false (holds l j) (λ z.
        let e : suc (j - 1) ≡ j = omega arith in
        clash (and_i (holds k j) (holds l j) q z) (rw e at (none (j - 1) (omega arith)))) in
        covering_cross h k l o.at i.at o.at_low o.at_high i.at_low i.at_high o.at_out i.at_out c'
        o.seed i.seed o.seed_low seed_high i.seed_low other_high (seed_apart apart) (other_apart apart) (apart-cover apart))
