-- Tight neighbourhoods are good, and good sets that share a junction have a good union. Assumes nothing.
-- For a neighbourhood of v: among the tight shores that hold v and lack some junction of the component, a least one lacks all of it.
use mathlib.Core.Path.{◌≡◌, sym, ap, ◌∙◌}
use mathlib.Core.Bool.{Bool, true, false, ◌&&◌, not}
use mathlib.Core.Logic.{⊎_elim}
use Prim.Native.Nat.{ℕ, suc, ◌-◌, ◌≤◌, ◌<◌}
use native.Mathlib.Omega.{arith}
use lib.Bits.{bit_and, bit_or, and_le_l, or_lt}
use borrow.Author.Tests.{not-true, not-false}
use Rattle.laws.proofs.Booleans.{clash, and_l, and_r, and_i, or_cases, or_l, or_r, or_false_l, or_false_r, not_true_false, not_false_true, bool_ext}
use Rattle.laws.proofs.Connectives.{and_false_r, or_false_i}
use Rattle.laws.proofs.Finite.{decide_below, strong}
use Rattle.junctions.specs.Sets.{holds, Within}
use Rattle.junctions.proofs.Members.{holds_some}
use Rattle.junctions.proofs.Sets.{and_holds, or_holds}
use Rattle.hall.specs.Hall.{Hall, row, count}
use Rattle.dicuts.specs.Shores.{Ranged, Joining, Tight, Sep, sep, around}
use Rattle.dicuts.specs.Crossing.{Crossed, Inside}
use Rattle.dicuts.specs.Parts.{Part}
use Rattle.dicuts.proofs.Shores.{shore_lt, sep_true, true_sep, around-holds}
use Rattle.dicuts.proofs.Tight.{tight_inter, tight_union, tight-connected, tight-outside-connected}
use Rattle.certificates.specs.Cuts.{outside, component, Good}
use Rattle.certificates.proofs.Components.{outside-holds, outside_lt, outside_has, outside_lacks, has_outside, outside_is, component_self, component_avoids, component_whole, component-row, component_mono}

module _ (h : Hall) (x : ℕ → ℕ) (v u : ℕ) (l : 1 ≤ u) (m : u ≤ h.n) where
  pub lacks_sep : holds (around h x v) u ≡ false → Sep h x v u
  lacks_sep e = sep_true h x v u (not-false (sep h x v u) (sym (around-holds h x v u l m) ∙ e))

  pub sep_lacks : Sep h x v u → holds (around h x v) u ≡ false
  sep_lacks s = around-holds h x v u l m ∙ ap not (true_sep h x v u s)

  -- a tight shore that holds v holds its neighbourhood
  pub tight_around : (s : ℕ) → Tight h x s → holds s v ≡ true → holds (around h x v) u ≡ true → holds s u ≡ true
  tight_around s t has e = not_false_true (holds s u) (λ no. clash e (sep_lacks (record { set = s; tight = t; has = has; lacks = no })))

pub around_self : (h : Hall) (x : ℕ → ℕ) (v : ℕ) → 1 ≤ v → v ≤ h.n → holds (around h x v) v ≡ true
around_self h x v l m = not_false_true (holds (around h x v) v) (λ e. let s = lacks_sep h x v v l m e in clash s.has s.lacks)

module _ (h : Hall) (ranged : Ranged h) (x : ℕ → ℕ) (joins : Joining h x) where
  -- a tight shore apart from k lies in one component
  pub tight_in_component : (s k : ℕ) → Tight h x s → ((j : ℕ) → 1 ≤ j → j ≤ h.n → holds s j ≡ true → holds k j ≡ false)
      → (b : ℕ) → 1 ≤ b → b ≤ h.n → holds s b ≡ true → (j : ℕ) → 1 ≤ j → holds s j ≡ true → holds (component h k b) j ≡ true
  unfolding Within
  tight_in_component s k t apart b l m has j lj e =
      and_r (holds s j) (holds c j) (sym (and_holds s c j) ∙ (rw (tight-connected h ranged x joins s t (bit_and s c) part) e))
    where
      c : ℕ
      c = component h k b

      part : Part h s (bit_and s c)
      part = record {
        some = holds_some (bit_and s c) b (and_holds s c b ∙ and_i (holds s b) (holds c b) has (component_self h k b l m));
        within = λ i li q. and_l (holds s i) (holds c i) (sym (and_holds s c i) ∙ q);
        alone = λ i li mi p q.
            rw (and_holds s c (row h i).from, and_holds s c (row h i).to, p, q)
            (component-row h k ranged b l m i li mi
            (apart (row h i).from (ranged.from_low i li mi) (ranged.from_high i li mi) p)
            (apart (row h i).to (ranged.to_low i li mi) (ranged.to_high i li mi) q));
      }

  -- what a tight shore around k leaves out lies in one component
  pub rest_in_component : (s k : ℕ) → Tight h x s → ((j : ℕ) → 1 ≤ j → j ≤ h.n → holds k j ≡ true → holds s j ≡ true)
      → (b : ℕ) → 1 ≤ b → b ≤ h.n → holds s b ≡ false → (j : ℕ) → 1 ≤ j → j ≤ h.n → holds s j ≡ false → holds (component h k b) j ≡ true
  unfolding Within
  rest_in_component s k t sub b l m no_b j lj mj e =
      and_r (holds r j) (holds c j)
      (sym (and_holds r c j)
      ∙ (rw (tight-outside-connected h ranged x joins s t r (outside_lt h.n s) (outside-holds h.n s) (bit_and r c) part) (outside_has h.n s j lj mj e)))
    where
      c : ℕ
      c = component h k b

      r : ℕ
      r = outside h.n s

      out_of_k : (j : ℕ) → 1 ≤ j → j ≤ h.n → holds r j ≡ true → holds k j ≡ false
      out_of_k j lj mj q = not_true_false (holds k j) (λ z. clash (sub j lj mj z) (has_outside h.n s j lj q))

      part : Part h r (bit_and r c)
      part = record {
        some = holds_some (bit_and r c) b (and_holds r c b ∙ and_i (holds r b) (holds c b) (outside_has h.n s b l m no_b) (component_self h k b l m));
        within = λ i li q. and_l (holds r i) (holds c i) (sym (and_holds r c i) ∙ q);
        alone = λ i li mi p q.
            rw (and_holds r c (row h i).from, and_holds r c (row h i).to, p, q)
            (component-row h k ranged b l m i li mi
            (out_of_k (row h i).from (ranged.from_low i li mi) (ranged.from_high i li mi) p)
            (out_of_k (row h i).to (ranged.to_low i li mi) (ranged.to_high i li mi) q));
      }

  -- a tight shore that holds v and lacks the component of b in the hall without v's neighbourhood
  record Beyond (v b : ℕ) : Type 0 where
    set : ℕ
    tight : Tight h x set
    has : holds set v ≡ true
    lacks : (j : ℕ) → 1 ≤ j → holds (component h (around h x v) b) j ≡ true → holds set j ≡ false

  module _ (v : ℕ) (lv : 1 ≤ v) (mv : v ≤ h.n) (b : ℕ) (lb : 1 ≤ b) (mb : b ≤ h.n) (far : holds (around h x v) b ≡ false) where
    c : ℕ
    c = component h (around h x v) b

    -- row i comes into s inside the component
    comes_in : (s i : ℕ) → Bool
    comes_in s i = (holds c (row h i).from && holds c (row h i).to) && (not (holds s (row h i).from) && holds s (row h i).to)

    smaller : (s : ℕ) → Tight h x s → holds s v ≡ true → (i : ℕ) → 1 ≤ i → i ≤ count h → comes_in s i ≡ true
        → (t : ℕ) × (t < s) × Tight h x t × (holds t v ≡ true) × (holds t (row h i).from ≡ false) × (holds c (row h i).from ≡ true)
    unfolding comes_in c
    smaller s tight has i li mi e =
        let u = (row h i).from in
        let w = (row h i).to in
        let cc = and_l (holds c u && holds c w) (not (holds s u) && holds s w) e in
        let ss = and_r (holds c u && holds c w) (not (holds s u) && holds s w) e in
        let c_u = and_l (holds c u) (holds c w) cc in
        let c_w = and_r (holds c u) (holds c w) cc in
        let s_u = not-true (holds s u) (and_l (not (holds s u)) (holds s w) ss) in
        let s_w = and_r (not (holds s u)) (holds s w) ss in
        let y : Sep h x v w = lacks_sep h x v w (ranged.to_low i li mi) (ranged.to_high i li mi) (component_avoids h (around h x v) b lb mb far w (ranged.to_low i li mi) c_w) in
        let y_u : holds y.set u ≡ false = not_true_false (holds y.set u) (λ q. clash (y.tight.shore.kept i li mi q) y.lacks) in
        let both : Crossed holds (Inside h) s y.set =
        record { shared = v; shared_in = (lv, mv); left_has = has; right_has = y.has; missed = u; missed_in = (ranged.from_low i li mi, ranged.from_high i li mi); left_lacks = s_u; right_lacks = y_u } in
        let t_w : holds (bit_and s y.set) w ≡ false = and_holds s y.set w ∙ and_false_r (holds s w) (holds y.set w) y.lacks in
        let ne : bit_and s y.set ≡ s → ⊥ = λ q. clash (ap (λ (r : ℕ). holds r w) q ∙ s_w) t_w in (
          bit_and s y.set,
          omega (arith, and_le_l s y.set),
          tight_inter h x joins s y.set tight y.tight both,
          and_holds s y.set v ∙ and_i (holds s v) (holds y.set v) has y.has,
          and_holds s y.set u ∙ and_false_r (holds s u) (holds y.set u) y_u,
          c_u,
        )

    -- no row comes in: the component is in or out as a whole
    none_in : (s : ℕ) → Tight h x s → ((i : ℕ) → 1 ≤ i → i ≤ count h → comes_in s i ≡ false)
        → (a : ℕ) → 1 ≤ a → holds c a ≡ true → holds s a ≡ false → (j : ℕ) → 1 ≤ j → holds c j ≡ true → holds s j ≡ false
    unfolding comes_in c
    none_in s tight none a la ca sa j lj cj =
        not-true (holds s j)
        (component_whole h (around h x v) b lb mb far (λ i. not (holds s i)) a la ca (ap not sa)
        (λ i li mi p q.
        let u = (row h i).from in
        let w = (row h i).to in
        bool_ext (not (holds s u)) (not (holds s w))
        (λ e. ap not (not_true_false (holds s w) (λ z. clash (and_i (holds c u && holds c w) (not (holds s u) && holds s w) (and_i (holds c u) (holds c w) p q) (and_i (not (holds s u)) (holds s w) e z)) (none i li mi))))
        (λ e. ap not (not_true_false (holds s u) (λ z. clash (tight.shore.kept i li mi z) (not-true (holds s w) e)))))
        j lj cj)

    descend : (s : ℕ) → Tight h x s → holds s v ≡ true → (a : ℕ) → 1 ≤ a → holds c a ≡ true → holds s a ≡ false → Beyond v b
    unfolding c
    descend =
        strong (λ s. Tight h x s → holds s v ≡ true → (a : ℕ) → 1 ≤ a → holds c a ≡ true → holds s a ≡ false → Beyond v b)
        (λ s below tight has a la ca sa.
        decide_below (count h) (λ k. comes_in s (suc k))
        (λ k l e.
        let t = smaller s tight has (suc k) (omega arith) (omega arith) e in
        below t.0 t.1 t.2 t.3 (row h (suc k)).from (ranged.from_low (suc k) (omega arith) (omega arith)) t.5 t.4)
        (λ none.
        record {
          set = s;
          tight = tight;
          has = has;
          lacks = none_in s tight (λ i li mi. let e : suc (i - 1) ≡ i = omega arith in rw e at (none (i - 1) (omega arith))) a la ca sa;
        }))

    around_good_at : Tight h x (outside h.n c)
    unfolding c
    around_good_at =
        let s = lacks_sep h x v b lb mb far in
        let y = descend s.set s.tight s.has b lb (component_self h (around h x v) b lb mb) s.lacks in
        rw (outside_is h.n c y.set (shore_lt h y.set y.tight.shore) (λ j l m e. y.lacks j l e)
        (rest_in_component y.set (around h x v) y.tight (λ j l m e. tight_around h x v j l m y.set y.tight y.has e) b lb mb
        (y.lacks b lb (component_self h (around h x v) b lb mb))))
        y.tight

  pub around_good : (v : ℕ) → 1 ≤ v → v ≤ h.n → Good h x (around h x v)
  unfolding Good c
  around_good v lv mv b lb mb far = around_good_at v lv mv b lb mb far

  pub good_union : (k l z : ℕ) → 1 ≤ z → z ≤ h.n → holds k z ≡ true → holds l z ≡ true → Good h x k → Good h x l → Good h x (bit_or k l)
  unfolding Good
  good_union k l z lz mz kz lz' gk gl b lb mb e =
      rw (outside_is h.n (component h (bit_or k l) b) (bit_or s t) (or_lt h.n s t (outside_lt h.n (component h k b)) (outside_lt h.n (component h l b))) leaves fills)
      (tight_union h x joins s t (gk b lb mb kb) (gl b lb mb l_b) both)
    where
      s : ℕ
      s = outside h.n (component h k b)

      t : ℕ
      t = outside h.n (component h l b)

      kb : holds k b ≡ false
      kb = or_false_l (holds k b) (holds l b) (sym (or_holds k l b) ∙ e)

      l_b : holds l b ≡ false
      l_b = or_false_r (holds k b) (holds l b) (sym (or_holds k l b) ∙ e)

      -- what k holds no component without k holds
      keeps : (k j : ℕ) → 1 ≤ j → j ≤ h.n → holds k b ≡ false → holds k j ≡ true → holds (outside h.n (component h k b)) j ≡ true
      keeps k j lj mj kb q = outside_has h.n (component h k b) j lj mj (not_true_false (holds (component h k b) j) (λ z. clash q (component_avoids h k b lb mb kb j lj z)))

      s_b : holds s b ≡ false
      s_b = outside_lacks h.n (component h k b) b lb mb (component_self h k b lb mb)

      t_b : holds t b ≡ false
      t_b = outside_lacks h.n (component h l b) b lb mb (component_self h l b lb mb)

      both : Crossed holds (Inside h) s t
      both = record { shared = z; shared_in = (lz, mz); left_has = keeps k z lz mz kb kz; right_has = keeps l z lz mz l_b lz'; missed = b; missed_in = (lb, mb); left_lacks = s_b; right_lacks = t_b }

      leaves : (j : ℕ) → 1 ≤ j → j ≤ h.n → holds (component h (bit_or k l) b) j ≡ true → holds (bit_or s t) j ≡ false
      leaves j lj mj q =
          or_holds s t j
          ∙ or_false_i (holds s j) (holds t j)
          (outside_lacks h.n (component h k b) j lj mj (component_mono h (bit_or k l) k (λ i li mi p. or_holds k l i ∙ or_l (holds k i) (holds l i) p) b lb mb e j lj q))
          (outside_lacks h.n (component h l b) j lj mj (component_mono h (bit_or k l) l (λ i li mi p. or_holds k l i ∙ or_r (holds k i) (holds l i) p) b lb mb e j lj q))

      fills : (j : ℕ) → 1 ≤ j → j ≤ h.n → holds (bit_or s t) j ≡ false → holds (component h (bit_or k l) b) j ≡ true
      fills =
          rest_in_component (bit_or s t) (bit_or k l) (tight_union h x joins s t (gk b lb mb kb) (gl b lb mb l_b) both)
          (λ j lj mj q.
          or_holds s t j
          ∙ ⊎_elim (λ (p : holds k j ≡ true). or_l (holds s j) (holds t j) (keeps k j lj mj kb p)) (λ (p : holds l j ≡ true). or_r (holds s j) (holds t j) (keeps l j lj mj l_b p))
          (or_cases (holds k j) (holds l j) (sym (or_holds k l j) ∙ q)))
          b lb mb (or_holds s t b ∙ or_false_i (holds s b) (holds t b) s_b t_b)
