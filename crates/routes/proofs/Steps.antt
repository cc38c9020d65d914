-- Steps are walks over the arcs of the rows, with as many arcs. Assumes nothing.
use mathlib.Core.Path.{◌≡◌, refl, sym, ap, ◌∙◌}
use mathlib.Core.Bool.{Bool, true, false, ◌&&◌, ◌||◌, not}
use mathlib.Core.List.{List, [], ◌∷◌}
use mathlib.Core.Logic.{⊎_elim}
use mathlib.Core.Option.{Option, none, some}
use Prim.Native.Nat.{ℕ, suc, ◌≤◌}
use native.Mathlib.Omega.{arith}
use lib.Dec.{leb, eqb}
use lib.ListN.{length}
use borrow.Author.Tests.{eq-eqb, eqb-true, le-leb, leb-true, not-true}
use Rattle.laws.proofs.Booleans.{by_bool, clash, and_l, and_r, and_i, or_cases, or_l, or_r, cond_true, cond_false}
use Rattle.laws.proofs.Finite.{any_found}
use Rattle.digraph.specs.Paths.{Walk, Fewest}
use Rattle.hall.specs.Hall.{Hall, row, count, member}
use Rattle.dicuts.specs.Shores.{Ranged}
use Rattle.dicuts.specs.Crossing.{Inside}
use Rattle.dicuts.specs.Arcs.{arc, arcs}
use Rattle.joining.proofs.Sealed.{arc-ahead, arc-back, arcs-arc, arc-arcs}
use Rattle.routes.specs.Route.{Step, starts, ends, may_run, runs_to}
use Rattle.routes.specs.Reached.{FewestTo}

module _ (h : Hall) where
  -- where a step starts and ends, by its direction
  pub starts-ahead : (s : Step) → s.back ≡ false → starts h s ≡ (row h s.number).from
  unfolding starts
  starts-ahead s e = cond_false s.back (row h s.number).to (row h s.number).from e

  pub starts-back : (s : Step) → s.back ≡ true → starts h s ≡ (row h s.number).to
  unfolding starts
  starts-back s e = cond_true s.back (row h s.number).to (row h s.number).from e

  pub ends-ahead : (s : Step) → s.back ≡ false → ends h s ≡ (row h s.number).to
  unfolding ends
  ends-ahead s e = cond_false s.back (row h s.number).from (row h s.number).to e

  pub ends-back : (s : Step) → s.back ≡ true → ends h s ≡ (row h s.number).from
  unfolding ends
  ends-back s e = cond_true s.back (row h s.number).from (row h s.number).to e

module _ (h : Hall) (c : List ℕ) where
  abbrev chosen : ℕ → Bool
  chosen i = member i c

  -- a step that may be run, from its parts and into them
  pub may_intro : (s : Step) → 1 ≤ s.number → s.number ≤ count h → (s.back ≡ true → member s.number c ≡ true) → may_run h c s ≡ true
  unfolding may_run
  may_intro s l m f =
      and_i (leb 1 s.number && leb s.number (count h)) (not s.back || chosen s.number)
      (and_i (leb 1 s.number) (leb s.number (count h)) (le-leb 1 s.number l) (le-leb s.number (count h) m))
      (by_bool s.back (λ e. or_r (not s.back) (chosen s.number) (f e)) (λ e. or_l (not s.back) (chosen s.number) (ap not e)))

  pub may_low : (s : Step) → may_run h c s ≡ true → 1 ≤ s.number
  unfolding may_run
  may_low s e =
      leb-true 1 s.number
      (and_l (leb 1 s.number) (leb s.number (count h))
      (and_l (leb 1 s.number && leb s.number (count h)) (not s.back || chosen s.number) e))

  pub may_high : (s : Step) → may_run h c s ≡ true → s.number ≤ count h
  unfolding may_run
  may_high s e =
      leb-true s.number (count h)
      (and_r (leb 1 s.number) (leb s.number (count h))
      (and_l (leb 1 s.number && leb s.number (count h)) (not s.back || chosen s.number) e))

  pub may_back : (s : Step) → may_run h c s ≡ true → s.back ≡ true → member s.number c ≡ true
  unfolding may_run
  may_back s e b =
      ⊎_elim (λ (f : not s.back ≡ true). clash b (not-true s.back f)) (λ (f : chosen s.number ≡ true). f)
      (or_cases (not s.back) (chosen s.number)
      (and_r (leb 1 s.number && leb s.number (count h)) (not s.back || chosen s.number) e))

  -- steps from a first one and the rest, and into them
  pub runs_more : (a : ℕ) (s : Step) (ss : List Step) (b : ℕ) → may_run h c s ≡ true → starts h s ≡ a → runs_to h c (ends h s) ss b ≡ true
      → runs_to h c a (s ∷ ss) b ≡ true
  unfolding runs_to
  runs_more a s ss b m e r =
      and_i (may_run h c s && eqb (starts h s) a) (runs_to h c (ends h s) ss b)
      (and_i (may_run h c s) (eqb (starts h s) a) m (eq-eqb (starts h s) a e)) r

  pub runs_first : (a : ℕ) (s : Step) (ss : List Step) (b : ℕ) → runs_to h c a (s ∷ ss) b ≡ true
      → (may_run h c s ≡ true) × (starts h s ≡ a) × (runs_to h c (ends h s) ss b ≡ true)
  unfolding runs_to
  runs_first a s ss b t =
      let first = and_l (may_run h c s && eqb (starts h s) a) (runs_to h c (ends h s) ss b) t in (
        and_l (may_run h c s) (eqb (starts h s) a) first,
        eqb-true (starts h s) a (and_r (may_run h c s) (eqb (starts h s) a) first),
        and_r (may_run h c s && eqb (starts h s) a) (runs_to h c (ends h s) ss b) t,
      )

  -- a step is an arc, and an arc a step
  pub step_arc : (s : Step) → may_run h c s ≡ true → arc h (λ i. member i c) (starts h s) (ends h s) ≡ true
  step_arc s t =
      by_bool s.back
      (λ e. rw (starts-back h s e, ends-back h s e) (arc-back h chosen s.number (may_low s t) (may_high s t) (may_back s t e)))
      (λ e. rw (starts-ahead h s e, ends-ahead h s e) (arc-ahead h chosen s.number (may_low s t) (may_high s t)))

  pub arc_step : (x y : ℕ) → arc h (λ i. member i c) x y ≡ true → (s : Step) × (may_run h c s ≡ true) × (starts h s ≡ x) × (ends h s ≡ y)
  unfolding arc starts ends
  arc_step x y a =
      let ahead : ℕ → Bool = λ k. eqb (row h (suc k)).from x && eqb (row h (suc k)).to y in
      let against : ℕ → Bool = λ k. eqb (row h (suc k)).to x && eqb (row h (suc k)).from y in
      let w = any_found (count h) (λ k. ahead k || (chosen (suc k) && against k)) a in
      let i = suc w.0 in
      let u = (row h i).from in
      let v = (row h i).to in
      ⊎_elim
      (λ (p : ahead w.0 ≡ true).
      let s : Step = record { number = i; back = false } in
      (s, may_intro s (omega arith) (omega (arith, w.1)) (λ e. clash e refl), eqb-true u x (and_l (eqb u x) (eqb v y) p), eqb-true v y (and_r (eqb u x) (eqb v y) p)))
      (λ (p : (chosen i && against w.0) ≡ true).
      let s : Step = record { number = i; back = true } in
      let q = and_r (chosen i) (against w.0) p in
      (s, may_intro s (omega arith) (omega (arith, w.1)) (λ e. and_l (chosen i) (against w.0) p), eqb-true v x (and_l (eqb v x) (eqb u y) q), eqb-true u y (and_r (eqb v x) (eqb u y) q)))
      (or_cases (ahead w.0) (chosen i && against w.0) w.2)

module _ (h : Hall) (rg : Ranged h) (c : List ℕ) where
  -- a step ends at a junction of the hall
  pub ends-inside : (s : Step) → may_run h c s ≡ true → Inside h (ends h s)
  ends-inside s t =
      let l = may_low h c s t in
      let m = may_high h c s t in
      by_bool s.back (λ e. rw (ends-back h s e) (rg.from_low s.number l m, rg.from_high s.number l m))
      (λ e. rw (ends-ahead h s e) (rg.to_low s.number l m, rg.to_high s.number l m))

  -- steps give a walk with as many arcs, and a walk such steps
  pub steps_walk : (a : ℕ) (ss : List Step) (b : ℕ) → runs_to h c a ss b ≡ true
      → (ws : List ℕ) × Walk h.n (arcs h (λ i. member i c)) a ws b × (length ws ≡ length ss)
  unfolding runs_to Walk
  steps_walk a [] b t = ([], eqb-true a b t, refl)
  steps_walk a (s ∷ ss) b t =
      let first = runs_first h c a s ss b t in
      let y = ends h s in
      let at = ends-inside s first.0 in
      let w = steps_walk y ss b first.2 in (
        y ∷ w.0,
        (at.0, at.1, arc-arcs h (λ i. member i c) a y at.0 at.1 (ap (λ (x : ℕ). arc h (λ i. member i c) x y) (sym first.1) ∙ step_arc h c s first.0), w.1),
        ap suc w.2,
      )

  pub walk_steps : (a : ℕ) (ws : List ℕ) (b : ℕ) → Walk h.n (arcs h (λ i. member i c)) a ws b
      → (ss : List Step) × (runs_to h c a ss b ≡ true) × (length ss ≡ length ws)
  unfolding runs_to Walk
  walk_steps a [] b w = ([], eq-eqb a b w, refl)
  walk_steps a (y ∷ ws) b w =
      let first = arc_step h c a y (arcs-arc h (λ i. member i c) a y w.0 w.2) in
      let s = first.0 in
      let rest = walk_steps y ws b w.3 in
      (s ∷ rest.0, runs_more h c a s rest.0 b first.1 first.2 (ap (λ (x : ℕ). runs_to h c x rest.0 b) first.3 ∙ rest.1), ap suc rest.2)

  -- the fewest arcs are the fewest rows
  pub fewest_steps : (a b : ℕ) (k : Option ℕ) → Fewest h.n (arcs h (λ i. member i c)) a b k → FewestTo h c a b k
  unfolding Fewest FewestTo
  fewest_steps a b none f = λ ss t. let w = steps_walk a ss b t in f w.0 w.1
  fewest_steps a b (some k) f =
      let s = walk_steps a f.0.0 b f.0.1 in
      ((s.0, s.1, s.2 ∙ f.0.2), λ ts t. let w = steps_walk a ts b t in omega (arith, f.1 w.0 w.1, w.2))
