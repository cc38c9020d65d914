-- The check of a choice: it joins exactly if it meets every directed cut, and a missed shore is a directed cut that it does not meet. Assumes nothing.
use mathlib.Core.Path.{◌≡◌, refl, sym, ap, ◌∙◌}
use mathlib.Core.Bool.{Bool, true, ◌||◌, not}
use mathlib.Core.List.{List}
use mathlib.Core.Logic.{⊎_elim}
use mathlib.Core.Option.{Option, none, some}
use Prim.Native.Nat.{ℕ, zero, suc, ◌+◌, ◌-◌, ◌^◌, ◌≤◌, ◌<◌}
use native.Mathlib.Omega.{arith}
use lib.Dec.{eqb, ltb}
use borrow.Author.Tests.{eq-eqb, eqb-true, eqb-false, ltb-true, ltb-false, lt-ltb, not-true}
use Rattle.laws.proofs.Booleans.{by_bool, clash, bool_ext, and_l, and_r, and_i, or_cases, or_l, or_r, cond_true, cond_false}
use Rattle.junctions.specs.Sets.{holds, full, Within}
use Rattle.junctions.proofs.Sets.{full_lt}
use Rattle.junctions.proofs.Single.{one_self}
use Rattle.junctions.proofs.Members.{holds_some}
use Rattle.digraph.proofs.Closure.{reach_unique}
use Rattle.hall.specs.Hall.{Hall, is_cut, is_choice, entering, meets_from, meets_all, member, reached, first_short, missed, is_none, joins}
use Rattle.dicuts.specs.Shores.{Ranged, Shore, cover, once, Joining}
use Rattle.dicuts.specs.Listed.{listed}
use Rattle.dicuts.specs.Arcs.{arcs}
use Rattle.dicuts.proofs.Shores.{cut_shore, shore_cut, shore_lt}
use Rattle.dicuts.proofs.Choices.{entering-cover}
use Rattle.dicuts.proofs.Listed.{listed-member}
use Rattle.joining.specs.Sealed.{Sealed}
use Rattle.joining.proofs.Sealed.{closed_sealed}
use Rattle.joining.proofs.Reached.{reached_is, reached_lt}
use Rattle.joining.proofs.Joining.{sealed_cover, sealed_shore, joining_mono, joining_reach, reach_joining}

none_is : (o : Option ℕ) → is_none o ≡ true → o ≡ none
unfolding is_none
none_is none e = refl
none_is (some s) e = clash e refl

-- the search for a junction that does not reach all
module _ (h : Hall) (c : List ℕ) where
  none_short : (k j : ℕ) → first_short k j h c ≡ none → (i : ℕ) → j ≤ i → i < j + k → reached h c i ≡ full h.n
  unfolding first_short full
  none_short zero j e i l m = absurd (omega arith)
  none_short (suc k) j e i l m =
      by_bool (eqb (reached h c j) (2 ^ h.n - 1))
      (λ p. by_bool (eqb i j)
      (λ q. ap (reached h c) (eqb-true i j q) ∙ eqb-true (reached h c j) (2 ^ h.n - 1) p)
      (λ q. none_short k (suc j) (sym (cond_true (eqb (reached h c j) (2 ^ h.n - 1)) (first_short k (suc j) h c) (some (reached h c j)) p) ∙ e) i (omega (arith, eqb-false i j q)) (omega arith)))
      (λ p. let clear : some (reached h c j) ≡ none = sym (cond_false (eqb (reached h c j) (2 ^ h.n - 1)) (first_short k (suc j) h c) (some (reached h c j)) p) ∙ e in
      let z : ◌≡◌ {A = ℕ} 0 1 = cc in absurd (omega arith))

  short_none : (k j : ℕ) → ((i : ℕ) → j ≤ i → i < j + k → reached h c i ≡ full h.n) → first_short k j h c ≡ none
  unfolding first_short full
  short_none zero j f = refl
  short_none (suc k) j f =
      cond_true (eqb (reached h c j) (2 ^ h.n - 1)) (first_short k (suc j) h c) (some (reached h c j)) (eq-eqb (reached h c j) (2 ^ h.n - 1) (f j (omega arith) (omega arith)))
      ∙ short_none k (suc j) (λ i l m. f i (omega arith) (omega arith))

  some_short : (k j s : ℕ) → first_short k j h c ≡ some s → (i : ℕ) × (j ≤ i) × (i < j + k) × (s ≡ reached h c i) × (s ≡ full h.n → ⊥)
  unfolding first_short full
  some_short zero j s e = let z : ◌≡◌ {A = ℕ} 0 1 = cc in absurd (omega arith)
  some_short (suc k) j s e =
      by_bool (eqb (reached h c j) (2 ^ h.n - 1))
      (λ p.
      let w = some_short k (suc j) s (sym (cond_true (eqb (reached h c j) (2 ^ h.n - 1)) (first_short k (suc j) h c) (some (reached h c j)) p) ∙ e) in
      (w.0, omega (arith, w.1), omega (arith, w.2), w.3, w.4))
      (λ p. let found : some (reached h c j) ≡ some s = sym (cond_false (eqb (reached h c j) (2 ^ h.n - 1)) (first_short k (suc j) h c) (some (reached h c j)) p) ∙ e in
      let same : s ≡ reached h c j = cc in
      (j, omega arith, omega arith, same, λ q. eqb-false (reached h c j) (2 ^ h.n - 1) p (sym same ∙ q)))

  pub joins-reached : joins h c ≡ true → (j : ℕ) → 1 ≤ j → j ≤ h.n → reached h c j ≡ full h.n
  unfolding joins missed
  joins-reached e j l m = none_short h.n 1 (none_is (first_short h.n 1 h c) e) j l (omega arith)

  pub reached-joins : ((j : ℕ) → 1 ≤ j → j ≤ h.n → reached h c j ≡ full h.n) → joins h c ≡ true
  unfolding joins missed is_none
  reached-joins f = ap is_none (short_none h.n 1 (λ i l m. f i l (omega arith)))

  -- every directed cut among the shores tried is met
  met_at : (k s : ℕ) → meets_from k s h c ≡ true → (t : ℕ) → s ≤ t → t < s + k → is_cut h t ≡ true → 0 < entering h t c
  unfolding meets_from
  met_at zero s e t l m i = absurd (omega arith)
  met_at (suc k) s e t l m i =
      let here = not (is_cut h s) || ltb 0 (entering h s c) in
      by_bool (eqb t s)
      (λ q.
      let same : t ≡ s = eqb-true t s q in
      ⊎_elim
      (λ (no : not (is_cut h s) ≡ true). clash i (ap (is_cut h) same ∙ not-true (is_cut h s) no))
      (λ (yes : ltb 0 (entering h s c) ≡ true). omega (arith, ltb-true 0 (entering h s c) yes, ap (λ (x : ℕ). entering h x c) same))
      (or_cases (not (is_cut h s)) (ltb 0 (entering h s c)) (and_l here (meets_from k (suc s) h c) e)))
      (λ q. met_at k (suc s) (and_r here (meets_from k (suc s) h c) e) t (omega (arith, eqb-false t s q)) (omega arith) i)

  all_met : (k s : ℕ) → ((t : ℕ) → is_cut h t ≡ true → 0 < entering h t c) → meets_from k s h c ≡ true
  unfolding meets_from
  all_met zero s f = refl
  all_met (suc k) s f =
      and_i (not (is_cut h s) || ltb 0 (entering h s c)) (meets_from k (suc s) h c)
      (by_bool (is_cut h s) (λ e. or_r (not (is_cut h s)) (ltb 0 (entering h s c)) (lt-ltb 0 (entering h s c) (f s e))) (λ e. or_l (not (is_cut h s)) (ltb 0 (entering h s c)) (ap not e)))
      (all_met k (suc s) f)

  -- a choice meets every directed cut exactly if its set of rows joins
  pub meets_joining : is_choice h c ≡ true → meets_all h c ≡ true → Joining h (once (λ i. member i c))
  unfolding meets_all Joining
  meets_joining ch e s sh =
      omega (arith, entering-cover h s c ch, met_at (2 ^ h.n) 0 e s (omega arith) (omega (arith, shore_lt h s sh)) (shore_cut h s sh))

  pub joining_meets : is_choice h c ≡ true → Joining h (once (λ i. member i c)) → meets_all h c ≡ true
  unfolding meets_all Joining
  joining_meets ch jn = all_met (2 ^ h.n) 0 (λ t i. omega (arith, entering-cover h t c ch, jn t (cut_shore h t i)))

module _ (h : Hall) (rg : Ranged h) (c : List ℕ) where
  -- the check says that a choice joins exactly if it does
  pub joins_joining : joins h c ≡ true → Joining h (once (λ i. member i c))
  joins_joining e = reach_joining h (λ i. member i c) (λ j l m. rw (joins-reached h c e j l m) at (reached_is h rg c j l m))

  pub joining_joins : Joining h (once (λ i. member i c)) → joins h c ≡ true
  joining_joins jn =
      reached-joins h c
      (λ j l m.
      reach_unique h.n (arcs h (λ i. member i c)) (2 ^ (j - 1)) (reached h c j) (full h.n) (reached_lt h rg c j l m) (full_lt h.n)
      (reached_is h rg c j l m) (joining_reach h (λ i. member i c) rg jn j l m))

  -- so the check and the test of every directed cut agree
  pub joins_meets : is_choice h c ≡ true → joins h c ≡ meets_all h c
  joins_meets ch = bool_ext (joins h c) (meets_all h c) (λ e. joining_meets h c ch (joins_joining e)) (λ e. joining_joins (meets_joining h c ch e))

  pub reached_sealed : (j : ℕ) → 1 ≤ j → j ≤ h.n → Sealed h (λ i. member i c) (reached h c j)
  reached_sealed j l m = closed_sealed h (λ i. member i c) (reached h c j) rg (reached_is h rg c j l m).closed

  pub reached_start : (j : ℕ) → 1 ≤ j → j ≤ h.n → holds (reached h c j) j ≡ true
  unfolding Within
  reached_start j l m = (reached_is h rg c j l m).contains j l (one_self j l)

  -- what is reached, if it is not all, is a shore that no chosen row enters
  pub reached_shore : (j : ℕ) → 1 ≤ j → j ≤ h.n → (reached h c j ≡ full h.n → ⊥) → Shore h (reached h c j)
  unfolding full
  reached_shore j l m short =
      let r = reached h c j in
      let proper : r < 2 ^ h.n - 1 = by_bool (ltb r (2 ^ h.n - 1)) (λ e. ltb-true r (2 ^ h.n - 1) e)
      (λ e. absurd (short (omega (arith, ltb-false r (2 ^ h.n - 1) e, reached_lt h rg c j l m)))) in
      sealed_shore h (λ i. member i c) r (holds_some r j (reached_start j l m)) proper (reached_sealed j l m)

  pub missed-reached : (s : ℕ) → missed h c ≡ some s → (j : ℕ) × (1 ≤ j) × (j ≤ h.n) × (s ≡ reached h c j) × (s ≡ full h.n → ⊥)
  unfolding missed
  missed-reached s e = let w = some_short h c h.n 1 s e in (w.0, w.1, omega (arith, w.2), w.3, w.4)

  pub missed_uncovered : (s : ℕ) → missed h c ≡ some s → Shore h s × (cover h (once (λ i. member i c)) s ≡ 0)
  missed_uncovered s e =
      let w = missed-reached s e in
      let at = w.3 in
      rw at (reached_shore w.0 w.1 w.2 (λ q. w.4 (at ∙ q)), sealed_cover h (λ i. member i c) (reached h c w.0) (reached_sealed w.0 w.1 w.2))

  pub missed_shore : (s : ℕ) → is_choice h c ≡ true → missed h c ≡ some s → (is_cut h s ≡ true) × (entering h s c ≡ 0)
  missed_shore s ch e = let w = missed_uncovered s e in (shore_cut h s w.0, entering-cover h s c ch ∙ w.1)

-- the list of a set that joins
pub listed-joins : (h : Hall) → Ranged h → (F : ℕ → Bool) → Joining h (once F) → joins h (listed h F) ≡ true
listed-joins h rg F jn = joining_joins h rg (listed h F) (joining_mono h F (λ i. member i (listed h F)) (λ i l m e. listed-member h F i l m ∙ e) jn)
