-- A row's figures, from choices of least cost: at the charges, or where the row costs nothing or more than any choice. Assumes nothing.
use mathlib.Core.Path.{◌≡◌, refl, sym, ap, ◌∙◌}
use mathlib.Core.Bool.{Bool, true, false, ◌||◌, not}
use mathlib.Core.Logic.{⊎_elim}
use Prim.Native.Nat.{ℕ, ◌+◌, ◌≤◌}
use native.Mathlib.Omega.{arith}
use lib.Dec.{eqb}
use borrow.Author.Tests.{eqb-true, eqb-false}
use Rattle.std.specs.Prelude.{Some, None}
use Rattle.laws.proofs.Booleans.{by_bool, clash, or_cases, cond_true, cond_false, cond-zero}
use Rattle.hall.specs.Hall.{Hall, row, count, member}
use Rattle.hall.specs.Plan.{total}
use Rattle.dicuts.specs.Shores.{Ranged, once, unfixed_row, Joining}
use Rattle.dicuts.specs.Listed.{listed, NoneFixed}
use Rattle.dicuts.proofs.Listed.{listed_choice, listed-member}
use Rattle.joining.proofs.Joining.{joining_mono}
use Rattle.joining.proofs.Joins.{joins_joining, listed-joins}
use Rattle.potentials.specs.Potential.{cost}
use Rattle.potentials.specs.Flip.{put}
use Rattle.potentials.specs.Repair.{Repaired}
use Rattle.potentials.proofs.Starts.{cost_row, cost_change}
use Rattle.potentials.proofs.Weights.{put_same, put_other, put_more}
use Rattle.order.specs.Ranked.{charge, Plannable}
use Rattle.order.proofs.Ranked.{charge-fixed}
use Rattle.certificates.proofs.Charges.{cheap_unfixed, choice_charges, listed_charges, choice_cheap, rest_cheap}
use Rattle.certificates.proofs.Weighing.{repaired_least}
use Rattle.forcing.specs.Figures.{LeastTotal}

module _ (h : Hall) (able : Plannable h) (rg : Ranged h) (i : ℕ) (low : 1 ≤ i) (high : i ≤ count h) where
  -- a set without fixed rows that is charged least, of those that join and have row i, or have it not: its total is the least
  least_total :
      (b : Bool) (G : ℕ → Bool) → NoneFixed h G → Joining h (once G) → G i ≡ b →
      ((D : ℕ → Bool) → Joining h (once D) → D i ≡ b → cost h (charge h) G ≤ cost h (charge h) D) → LeastTotal h i b (Some (total h (listed h G)))
  unfolding LeastTotal
  least_total b G unfixed joining here least = (
    (
      listed h G,
      record { choice = listed_choice h G unfixed; joining = listed-joins h rg G joining; here = listed-member h G i low high ∙ here },
      refl,
    ),
    λ d of.
        omega (
          arith,
          listed_charges h G unfixed,
          choice_charges h d of.choice,
          least (λ k. member k d) (joins_joining h rg d of.joining) of.here,
        ),
  )

  -- a set that is charged no more than the rows that are not fixed has no fixed row
  below_rest : (G : ℕ → Bool) → cost h (charge h) G ≤ cost h (charge h) (unfixed_row h) → NoneFixed h G
  below_rest G most = cheap_unfixed h G (omega (arith, most, rest_cheap h able))

  -- row i at cost e, and a set without it; at cost 0, and two sets that differ at most in it, where the second has it
  cost_without : (e : ℕ) (D : ℕ → Bool) → D i ≡ false → cost h (put i e (charge h)) D ≡ cost h (charge h) D
  cost_without e D out =
      omega (
        arith,
        cost_change h (put i e (charge h)) (charge h) D D i low high (put_other i e (charge h)) (λ k d. refl),
        cond_false (D i) (charge h i) 0 out,
        cond_false (D i) (put i e (charge h) i) 0 out,
      )

  cost_with : (D G : ℕ → Bool) → G i ≡ true → ((k : ℕ) → (k ≡ i → ⊥) → D k ≡ G k) → cost h (put i 0 (charge h)) D + charge h i ≡ cost h (charge h) G
  cost_with D G has same =
      omega (
        arith,
        cost_change h (put i 0 (charge h)) (charge h) D G i low high (put_other i 0 (charge h)) same,
        cond_true (G i) (charge h i) 0 has,
        cond-zero (D i) (put i 0 (charge h) i) (put_same i 0 (charge h)),
      )

  dear_row : (k : ℕ) → ((row h k).fixed || eqb k i) ≡ true → put i 256000001 (charge h) k ≡ 256000001
  dear_row k dear =
      by_bool (eqb k i) (λ t. let same : k ≡ i = eqb-true k i t in rw same (put_same i 256000001 (charge h)))
      (λ t.
      ⊎_elim (λ (fixed : (row h k).fixed ≡ true). put_other i 256000001 (charge h) k (eqb-false k i t) ∙ charge-fixed h k fixed)
      (λ (at : eqb k i ≡ true). clash at t) (or_cases (row h k).fixed (eqb k i) dear))

  module _ (p : ℕ → ℕ) (F : ℕ → Bool) where
    -- where the choice of least total has row i, or has it not
    pub least_same : (b : Bool) → Repaired h (charge h) p F → F i ≡ b → LeastTotal h i b (Some (total h (listed h F)))
    least_same b done e =
        let least = repaired_least h rg (charge h) p F done in
        least_total b F (below_rest F (least (unfixed_row h) able.joining)) done.joining e (λ D joined same. least D joined)

    pub forced_in : (row h i).fixed ≡ false → Repaired h (put i 0 (charge h)) p F → LeastTotal h i true (Some (total h (listed h (put i true F))))
    forced_in free done =
        let G = put i true F in
        let charged = cost_with F G (put_same i true F) (λ k d. sym (put_other i true F k d)) in
        let joining : Joining h (once G) = joining_mono h F G (λ k l u t. put_more i F k t) done.joining in
        let least : (D : ℕ → Bool) → Joining h (once D) → D i ≡ true → cost h (charge h) G ≤ cost h (charge h) D =
        λ D joined e. omega (arith, charged, repaired_least h rg (put i 0 (charge h)) p F done D joined, cost_with D D e (λ k d. refl)) in
        least_total true G (below_rest G (least (unfixed_row h) able.joining (ap not free))) joining (put_same i true F) least

    pub forced_out : Repaired h (put i 256000001 (charge h)) p F → F i ≡ false → NoneFixed h F → LeastTotal h i false (Some (total h (listed h F)))
    forced_out done out unfixed =
        least_total false F unfixed done.joining out
        (λ D joined e.
        omega (
          arith,
          repaired_least h rg (put i 256000001 (charge h)) p F done D joined,
          cost_without 256000001 F out,
          cost_without 256000001 D e,
        ))

    pub forced_none :
        Repaired h (put i 256000001 (charge h)) p F → (k : ℕ) → 1 ≤ k → k ≤ count h → F k ≡ true → ((row h k).fixed || eqb k i) ≡ true →
        LeastTotal h i false None
    unfolding LeastTotal
    forced_none done k lk uk t dear d of =
        let D : ℕ → Bool = λ j. member j d in
        omega (
          arith,
          dear_row k dear,
          cost_row h (put i 256000001 (charge h)) F k lk uk t,
          repaired_least h rg (put i 256000001 (charge h)) p F done D (joins_joining h rg d of.joining),
          cost_without 256000001 D of.here,
          choice_charges h d of.choice,
          choice_cheap h able d of.choice,
        )
