-- The search for a junction that does not reach all, step by step, and that it finds what document 03's `missed` says. Assumes nothing.
use mathlib.Core.Path.{◌≡◌, refl, sym, ap, ◌∙◌, subst}
use mathlib.Core.Bool.{Bool, true, cond}
use mathlib.Core.List.{List}
use mathlib.Core.Option.{none, some}
use Prim.Native.Nat.{ℕ, zero, suc, ◌+◌, ◌-◌, ◌^◌, ◌<◌, ◌≤◌}
use native.Mathlib.Numerals.{add-one}
use native.Mathlib.Omega.{arith}
use lib.Bits.{bit_and, and_le_r}
use lib.Dec.{eqb}
use lib.Pow.{pow-lt, pow_pos}
use borrow.Author.Tests.{eq-eqb, ne_eqb, eqb-true, eqb-false}
use Rattle.laws.specs.Lists.{at}
use Rattle.laws.proofs.Booleans.{by_bool, and_l}
use Rattle.junctions.specs.Sets.{full, holds, Within}
use Rattle.junctions.proofs.Bounds.{junction_le}
use Rattle.junctions.proofs.Sets.{and_holds, full_lt, gather_lt, some_junction, within_both, within_full}
use Rattle.junctions.proofs.Single.{one_lt, one_within}
use Rattle.digraph.specs.Reach.{Closed, Reach}
use Rattle.digraph.specs.Closure.{closure}
use Rattle.digraph.proofs.Closure.{closure_reach, closure_lt, reach_unique, start_reached, reach_narrow, reach_narrow_lt}
use Rattle.digraph.proofs.Same.{reach_same}
use Rattle.hall.specs.Hall.{Hall, member, reached, first_short, missed}
use Rattle.dicuts.specs.Shores.{Ranged}
use Rattle.dicuts.specs.Arcs.{arc, arcs}
use Rattle.columns.specs.Columns.{Arcs, flagged}
use Rattle.columns.specs.Lanes.{LanesOf}
use Rattle.columns.specs.declared.Lanes.{Lanes}
use Rattle.adjacency.proofs.Arcs.{arcs_ext}
use Rattle.joining.proofs.Reached.{reached_is, reached_lt}
use Rattle.choice.specs.Short.{ArcsInside, short_from}

module _ (all : ℕ) (f : ℕ → ℕ) (n : ℕ) where
  pub short_more : (j : ℕ) → j < n → f (suc j) ≡ all → short_from (n - j) (suc j) all f ≡ short_from (n - (j + 1)) (suc (j + 1)) all f
  unfolding short_from
  short_more j h e =
      let m : n - j ≡ suc (n - (j + 1)) = omega arith in
      rw (m, eq-eqb (f (suc j)) all e) (ap (λ (i : ℕ). short_from (n - (j + 1)) (suc i) all f) (sym (add-one j)))

  pub short_stop : (j : ℕ) → j < n → (f (suc j) ≡ all → ⊥) → short_from (n - j) (suc j) all f ≡ some (f (suc j))
  unfolding short_from
  short_stop j h e = let m : n - j ≡ suc (n - (j + 1)) = omega arith in rw (m, ne_eqb (f (suc j)) all e)

  pub short_end : (j i : ℕ) → n ≤ j → short_from (n - j) i all f ≡ none
  unfolding short_from
  short_end j i h = let m : n - j ≡ 0 = omega arith in rw m

-- what the code's reach gives is the closure among the first n junctions
pub reach_is_closure : (n : ℕ) (out : ℕ → ℕ) (j r : ℕ) → n ≤ 64 → ArcsInside n out → j < n → Reach 64 out (2 ^ (j + 1 - 1)) r → r ≡ closure n out (2 ^ (suc j - 1))
unfolding ArcsInside
reach_is_closure n out j r small inside h e =
    let q : suc j - 1 ≡ j = omega arith in
    let few : 2 ^ j < 2 ^ n = pow-lt {i = j} {j = n} h in
    let place : j + 1 - 1 ≡ j = omega arith in
    let start : Reach 64 out (2 ^ j) r = rw place at e in
    rw q
    (reach_unique n out (2 ^ j) r (closure n out (2 ^ j)) (reach_narrow_lt n out (2 ^ j) r small few inside start) (closure_lt n out (2 ^ j) few)
    (reach_narrow n out (2 ^ j) r small few inside start) (closure_reach n out (2 ^ j) few inside))

-- the junctions 1 to j reach all
abbrev pub Known : (n : ℕ) (out : ℕ → ℕ) (j : ℕ) → Type 0
Known n out j = (i : ℕ) → 1 ≤ i → i ≤ j → closure n out (2 ^ (i - 1)) ≡ full n

pub known_more : (n : ℕ) (out : ℕ → ℕ) (j : ℕ) → Known n out j → closure n out (2 ^ (suc j - 1)) ≡ full n → Known n out (j + 1)
known_more n out j known e i l m =
    by_bool (eqb i (suc j)) (λ t. ap (λ (k : ℕ). closure n out (2 ^ (k - 1))) (eqb-true i (suc j) t) ∙ e) (λ t. known i l (omega (arith, eqb-false i (suc j) t)))

module _ (n : ℕ) (out : ℕ → ℕ) (inside : ArcsInside n out) where
  -- what a junction in every closed set with the start reaches, the start reaches too
  closure_through : (start y : ℕ) → 1 ≤ start → start ≤ n → 1 ≤ y → y ≤ n → ((t : ℕ) → holds t start ≡ true → Closed 64 out t → holds t y ≡ true)
      → Within (closure n out (2 ^ (y - 1))) (closure n out (2 ^ (start - 1)))
  unfolding ArcsInside Closed
  closure_through start y p q l m led =
      let few = one_lt n start p q in
      let c = closure n out (2 ^ (start - 1)) in
      let all = closure_reach n out (2 ^ (start - 1)) few inside in
      let closed : Closed 64 out c = λ i p _ t. all.closed i p (junction_le n c i (closure_lt n out (2 ^ (start - 1)) few) t) t in
      (closure_reach n out (2 ^ (y - 1)) (one_lt n y l m) inside).least c (one_within c y l (led c (start_reached n out start c p all) closed)) all.closed

  -- a junction whose search meets one that reaches all reaches all
  pub met_full : (j start r : ℕ) → j < n → start ≡ 2 ^ j → Known n out j
      → ((y : ℕ) → 1 ≤ y → y ≤ 64 → holds r y ≡ true → (t : ℕ) → holds t (j + 1) ≡ true → Closed 64 out t → holds t y ≡ true)
      → n ≤ 64 → (bit_and r (start - 1) ≡ 0 → ⊥) → closure n out (2 ^ (suc j - 1)) ≡ full n
  unfolding Within full
  met_full j start r h e known led small met =
      let w = some_junction j (bit_and r (start - 1)) (omega (arith, met)) (omega (arith, e, pow_pos j, and_le_r r (start - 1))) in
      let y = w.0 in
      let held : holds r y ≡ true = and_l (holds r y) (holds (start - 1) y) (sym (and_holds r (start - 1) y) ∙ w.3) in
      let c = closure n out (2 ^ (suc j - 1)) in
      let few_c = closure_lt n out (2 ^ (suc j - 1)) (one_lt n (suc j) (omega arith) (omega arith)) in
      let through = closure_through (suc j) y (omega arith) (omega arith) w.1 (omega (arith, w.2)) (λ t here. led y w.1 (omega (arith, w.2)) held t (rw (add-one j) here)) in
      within_both n c (full n) few_c (full_lt n) (within_full n c few_c)
      (λ i p t. through i p (ap (λ (s : ℕ). holds s i) (known y w.1 w.2) ∙ t))

-- what is found is what document 03 calls missed
module _ (h : Hall) (rg : Ranged h) (c : List ℕ) (out : ℕ → ℕ) (same : (j : ℕ) → 1 ≤ j → j ≤ h.n → out j ≡ arcs h (λ i. member i c) j) where
  pub closure-reached : (j : ℕ) → 1 ≤ j → j ≤ h.n → closure h.n out (2 ^ (j - 1)) ≡ reached h c j
  unfolding arcs
  closure-reached j l m =
      let few : 2 ^ (j - 1) < 2 ^ h.n = pow-lt {i = j - 1} {j = h.n} (omega arith) in
      let inside : (i : ℕ) → 1 ≤ i → i ≤ h.n → out i < 2 ^ h.n = λ i p q. subst (λ (x : ℕ). x < 2 ^ h.n) (sym (same i p q)) (gather_lt h.n (arc h (λ k. member k c) i)) in
      reach_unique h.n out (2 ^ (j - 1)) (closure h.n out (2 ^ (j - 1))) (reached h c j) (closure_lt h.n out (2 ^ (j - 1)) few) (reached_lt h rg c j l m)
      (closure_reach h.n out (2 ^ (j - 1)) few inside)
      (reach_same h.n (arcs h (λ i. member i c)) out (λ i p q. sym (same i p q)) (2 ^ (j - 1)) (reached h c j) (reached_is h rg c j l m))

  found_from : (k j : ℕ) → 1 ≤ j → j + k ≤ h.n + 1 → short_from k j (full h.n) (λ i. closure h.n out (2 ^ (i - 1))) ≡ first_short k j h c
  unfolding short_from first_short full
  found_from zero j l m = refl
  found_from (suc k) j l m =
      rw (closure-reached j l (omega arith)) (ap (λ r. cond (eqb (reached h c j) (2 ^ h.n - 1)) r (some (reached h c j))) (found_from k (suc j) (omega arith) (omega arith)))

  pub found_missed : short_from h.n 1 (full h.n) (λ i. closure h.n out (2 ^ (i - 1))) ≡ missed h c
  unfolding missed
  found_missed = found_from h.n 1 (omega arith) (omega arith)

-- over arrays: the code's adjacency stays inside the hall, and what it finds is missed
module _ (h : Hall) (l : Lanes) (lanes_of : LanesOf h l) (flags : List Bool) (sets : List ℕ) (is_arcs : Arcs h (flagged flags) sets) where
  pub arcs-inside : ArcsInside l.n (at sets)
  unfolding ArcsInside Arcs arcs
  arcs-inside j u v =
      let e : at sets j ≡ arcs h (flagged flags) j = is_arcs j u (omega (arith, lanes_of.junctions)) in
      let small : arcs h (flagged flags) j < 2 ^ h.n = gather_lt h.n (arc h (flagged flags) j) in
      omega (arith, e, small, ap (λ (k : ℕ). 2 ^ k) lanes_of.junctions)

  pub arcs-missed : (c : List ℕ) → Ranged h → ((i : ℕ) → 1 ≤ i → i ≤ l.count → flagged flags i ≡ member i c)
      → short_from l.n 1 (full l.n) (λ j. closure l.n (at sets) (2 ^ (j - 1))) ≡ missed h c
  unfolding Arcs
  arcs-missed c rg same =
      ap (λ (k : ℕ). short_from k 1 (full k) (λ j. closure k (at sets) (2 ^ (j - 1)))) (sym lanes_of.junctions)
      ∙ found_missed h rg c (at sets)
      (λ j u v. is_arcs j u v ∙ arcs_ext h (flagged flags) (λ i. member i c) (λ i p q. same i p (omega (arith, lanes_of.rows))) j)
