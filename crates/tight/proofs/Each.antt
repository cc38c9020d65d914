-- One robust set after another, and that they are the tight neighbourhoods of a choice that joins. Assumes nothing.
use mathlib.Core.Path.{◌≡◌, refl, sym, ap, subst, ◌∙◌}
use mathlib.Core.Bool.{Bool}
use mathlib.Core.List.{List}
use Prim.Native.Nat.{ℕ, suc, ◌-◌, ◌≤◌, ◌<◌}
use native.Mathlib.Omega.{arith}
use lib.Dec.{eqb, ltb}
use lib.ListN.{length, get_or, set, replicate, length-set, get_or-replicate}
use lib.Seq.{get_or-set_same, get_or-set_other}
use borrow.Author.Tests.{eqb-true, eqb-false, ltb-true, ltb-false}
use Rattle.laws.specs.Lists.{at}
use Rattle.laws.proofs.Booleans.{by_bool, clash}
use Rattle.junctions.specs.Sets.{holds}
use Rattle.junctions.proofs.Sets.{none_holds}
use Rattle.growth.specs.Robust.{Robust, RobustSet}
use Rattle.growth.specs.Growth.{Known}
use Rattle.hall.specs.Hall.{Hall}
use Rattle.dicuts.specs.Shores.{Ranged, once, Joining, around}
use Rattle.columns.specs.Columns.{Arcs, Neighbourhoods}
use Rattle.columns.specs.Lanes.{LanesOf}
use Rattle.columns.specs.declared.Lanes.{Lanes}
use Rattle.tight.specs.Solid.{SolidArcs}
use Rattle.tight.proofs.Around.{robust_set-around}

-- of n places those from k on have the robust sets of their junctions, the others are empty
pub record RobustFrom (arcs solid sets : List ℕ) (n k : ℕ) : Type 0 where
  pub size : length sets ≡ 64
  pub each : (i : ℕ) → k ≤ i → i < n → RobustSet (at arcs) (at solid) (suc i) (get_or sets i 0)
  pub before : (i : ℕ) → i < k → get_or sets i 0 ≡ 0
  pub after : (i : ℕ) → n ≤ i → i < 64 → get_or sets i 0 ≡ 0

pub found_none : (arcs solid : List ℕ) (n : ℕ) → n ≤ 64 → RobustFrom arcs solid (replicate 64 0) n n
found_none arcs solid n small =
    record {
      size = refl;
      each = λ i l m. absurd (omega arith);
      before = λ i l. get_or-replicate {A = ℕ} 64 i 0 0 (omega arith);
      after = λ i l m. get_or-replicate {A = ℕ} 64 i 0 0 m;
    }

-- the set of the junction before the sets that are found
pub found_more :
    (arcs solid sets : List ℕ) (n k more : ℕ) → 1 ≤ k → k ≤ n → n ≤ 64 → RobustFrom arcs solid sets n k →
    RobustSet (at arcs) (at solid) k more → RobustFrom arcs solid (set sets (k - 1) more) n (k - 1)
found_more arcs solid sets n k more low high small so_far r =
    let other : (i : ℕ) → (i ≡ k - 1 → ⊥) → get_or (set sets (k - 1) more) i 0 ≡ get_or sets i 0 =
    λ i differ. get_or-set_other sets (k - 1) i more 0 differ in
    record {
      size = length-set sets (k - 1) more ∙ so_far.size;
      each = λ i l m.
          by_bool (eqb i (k - 1))
          (λ e.
          let at : i ≡ k - 1 = eqb-true i (k - 1) e in
          let place : suc (k - 1) ≡ k = omega arith in
          rw (at, get_or-set_same sets (k - 1) more 0 (omega (arith, so_far.size)), place) r)
          (λ e.
          let differ : i ≡ k - 1 → ⊥ = eqb-false i (k - 1) e in
          subst (RobustSet (at arcs) (at solid) (suc i)) (sym (other i differ)) (so_far.each i (omega (arith, differ)) m));
      before = λ i l. other i (λ e. omega arith) ∙ so_far.before i (omega arith);
      after = λ i l m. other i (λ e. omega arith) ∙ so_far.after i l m;
    }

-- what is found so far holds robust junctions only
pub found_known :
    (arcs solid sets : List ℕ) (n k : ℕ) → RobustFrom arcs solid sets n k → Known (at arcs) (at solid) (at sets)
found_known arcs solid sets n k found x l m u lu t =
    let i = x - 1 in
    let place : suc i ≡ x = omega arith in
    let empty : get_or sets i 0 ≡ 0 → Robust (at arcs) (at solid) x u = λ e. clash t (ap (λ (s : ℕ). holds s u) e ∙ none_holds u) in
    by_bool (ltb i k) (λ e. empty (found.before i (ltb-true i k e)))
    (λ e.
    by_bool (ltb i n)
    (λ f. (rw place at (found.each i (omega (arith, ltb-false i k e)) (ltb-true i n f))).holds_robust u lu t)
    (λ f. empty (found.after i (omega (arith, ltb-false i n f)) (omega arith))))

-- what `neighbourhood` finds in the lanes of a hall
pub robust_neighbourhood :
    (h : Hall) → Ranged h → (F : ℕ → Bool) → Joining h (once F) → h.n ≤ 64 → (arcs solid : List ℕ) → Arcs h F arcs → SolidArcs h F solid →
    (v : ℕ) → 1 ≤ v → v ≤ h.n → (set : ℕ) → RobustSet (at arcs) (at solid) v set → set ≡ around h (once F) v
unfolding Arcs SolidArcs
robust_neighbourhood h ranged F joins small arcs solid arcs_are solid_are =
    robust_set-around h ranged F joins small (at arcs) (at solid) arcs_are solid_are

pub found_all :
    (l : Lanes) (arcs solid sets : List ℕ) → RobustFrom arcs solid sets l.n 0 → (h : Hall) → LanesOf h l → Ranged h →
    (F : ℕ → Bool) → Joining h (once F) → Arcs h F arcs → SolidArcs h F solid → Neighbourhoods h F sets
unfolding Neighbourhoods
found_all l arcs solid sets found h lanes_of ranged F joins arcs_are solid_are v low high =
    let e : suc (v - 1) ≡ v = omega arith in
    robust_neighbourhood h ranged F joins (omega (arith, lanes_of.junctions, l.ends.size)) arcs solid arcs_are solid_are v low high (get_or sets (v - 1) 0)
    (rw e at (found.each (v - 1) (omega arith) (omega (arith, lanes_of.junctions))))
