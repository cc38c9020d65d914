-- What a row's figures start from, and what the searches for them give. Assumes nothing.
use mathlib.Core.Path.{◌≡◌, refl, sym, ap, ◌∙◌}
use mathlib.Core.Bool.{Bool, true, false, ◌||◌, cond}
use mathlib.Core.List.{List}
use Prim.Native.Nat.{ℕ, suc, ◌-◌, ◌≤◌, ◌<◌}
use native.Mathlib.Nat.{mul-le-mul_right}
use native.Mathlib.Omega.{arith}
use lib.Dec.{eqb, eqb-suc-suc}
use lib.ListN.{get_or, length, set}
use borrow.Author.Tests.{eqb-true, eqb-false, eq-eqb}
use Rattle.std.specs.Prelude.{Some, None}
use Rattle.laws.specs.Lists.{at}
use Rattle.laws.specs.Finite.{any_below}
use Rattle.laws.proofs.Booleans.{by_bool, clash, and_l, and_r, and_i, or_l, or_r}
use Rattle.laws.proofs.Finite.{any_found, any_intro, sum_ext}
use Rattle.hall.specs.Hall.{Hall, row, count}
use Rattle.hall.specs.Plan.{total}
use Rattle.dicuts.specs.Listed.{listed, NoneFixed}
use Rattle.potentials.specs.Flip.{put}
use Rattle.potentials.specs.Repair.{Repaired}
use Rattle.potentials.proofs.Same.{repaired_same}
use Rattle.potentials.proofs.Starts.{cost_most}
use Rattle.potentials.proofs.Weights.{put_same, put_other}
use Rattle.order.specs.Ranked.{charge}
use Rattle.order.proofs.Ranked.{charge_most}
use Rattle.choicelists.proofs.Totals.{listed-total}
use Rattle.forcing.specs.Figures.{LeastTotal}
use Rattle.forcing.proofs.Least.{least_same, forced_in, forced_out, forced_none}
use Rattle.columns.specs.Columns.{flagged}
use Rattle.flip.proofs.Flips.{set_puts}
use Rattle.ledger.proofs.Choices.{flag_at}
use Rattle.reprice.specs.Reprice.{Repriceable}
use Rattle.withwithout.specs.declared.LeastPlan.{LeastPlan}
use Rattle.withwithout.specs.Least.{LeastPlanOf, barred}

module _ (h : Hall) (p : LeastPlan) (of : LeastPlanOf h p) where
  abbrev charges : ℕ → ℕ
  charges = at p.charges.rows

  charge_low : (i : ℕ) → 1 ≤ i → i ≤ count h → charge h i ≤ 256000001
  unfolding charge
  charge_low i l u = charge_most (row h i).fixed (row h i).price (of.accepted.able.low i l u)

  mark : (i : ℕ) → i < count h → get_or p.hall.now.fixed i false ≡ (row h (suc i)).fixed
  mark i l = sym (flag_at p.hall.now.fixed i) ∙ of.accepted.marks (suc i) (omega arith) l

  -- the row at place k of the lanes
  module _ (k : ℕ) (inside : k < p.hall.now.lanes.count) where
    row_high : suc k ≤ count h
    row_high = omega (arith, of.accepted.columns.rows, inside)

    pub mark_here : get_or p.hall.now.fixed k false ≡ (row h (suc k)).fixed
    mark_here = mark k row_high

    module _ (e : ℕ) where
      same_costs : (i : ℕ) → 1 ≤ i → i ≤ count h → put (suc k) e charges i ≡ put (suc k) e (charge h) i
      unfolding put
      same_costs i l u = rw (of.charges i l u) refl

      costs_most : e ≤ 256000001 → (i : ℕ) → 1 ≤ i → i ≤ count h → put (suc k) e charges i ≤ 256000001
      costs_most most i l u =
          by_bool (eqb i (suc k)) (λ t. let same : i ≡ suc k = eqb-true i (suc k) t in rw same (omega (arith, most, put_same (suc k) e charges)))
          (λ t. omega (arith, put_other (suc k) e charges i (eqb-false i (suc k) t), of.charges i l u, charge_low i l u))

      pub repriceable : e ≤ 256000001 → Repriceable h p.hall.now.lanes p.charges.rows p.state (suc k) e
      repriceable most =
          let F = flagged p.state.chosen in
          record {
            columns = of.accepted.columns;
            ranged = of.accepted.ranged;
            repaired =
                repaired_same h of.accepted.ranged (charge h) charges (λ i l u. sym (of.charges i l u)) (at p.state.potential) (at p.state.potential) (λ j l u. refl) F F
                (λ i l u. refl) of.least.repaired;
            around = of.least.around;
            low = λ j l u.
                omega (
                  arith,
                  of.least.low j l u,
                  cost_most h (put (suc k) e charges) F 256000001 (λ i li ui t. costs_most most i li ui),
                  mul-le-mul_right {m = count h} {n = 256} 256000001 of.accepted.able.few,
                );
            cheap = omega (arith, most);
          }

      -- at the charges, as at the numbers that stand for them
      pub repriced_charges : (q : ℕ → ℕ) (G : ℕ → Bool) → Repaired h (put (suc k) e charges) q G → Repaired h (put (suc k) e (charge h)) q G
      repriced_charges q G =
          repaired_same h of.accepted.ranged (put (suc k) e charges) (put (suc k) e (charge h)) same_costs q q (λ j l u. refl) G G (λ i l u. refl)

    -- a choice of least total has the least of those with the row, or of those without it
    pub total_here : (b : Bool) → get_or p.state.chosen k false ≡ b → LeastTotal h (suc k) b (Some p.total)
    total_here b e =
        rw of.total
        (least_same h of.accepted.able of.accepted.ranged (suc k) (omega arith) row_high (at p.state.potential) (flagged p.state.chosen) b of.least.repaired
        (flag_at p.state.chosen k ∙ e))

    module _ (q : ℕ → ℕ) (chosen : List Bool) where
      -- where it costs nothing, the row put in
      pub total_in : Repaired h (put (suc k) 0 (charge h)) q (flagged chosen) → k < length chosen → (row h (suc k)).fixed ≡ false →
          LeastTotal h (suc k) true (Some (total h (listed h (flagged (set chosen k true)))))
      total_in done fits free =
          let F = flagged (set chosen k true) in let G = put (suc k) true (flagged chosen) in
          let same : total h (listed h F) ≡ total h (listed h G) =
          listed-total h F
          ∙ sum_ext (count h) (λ i. cond (F (suc i)) (row h (suc i)).price 0) (λ i. cond (G (suc i)) (row h (suc i)).price 0)
          (λ i l. ap (λ (b : Bool). cond b (row h (suc i)).price 0) (set_puts false chosen k true fits (suc i) (omega arith)))
          ∙ sym (listed-total h G) in
          rw same (forced_in h of.accepted.able of.accepted.ranged (suc k) (omega arith) row_high q (flagged chosen) free done)

      abbrev is_barred : ℕ → Bool
      is_barred = barred chosen p.hall.now.fixed k

      module _ (done : Repaired h (put (suc k) 256000001 (charge h)) q (flagged chosen)) where
        pub total_none : any_below p.hall.now.lanes.count is_barred ≡ true → LeastTotal h (suc k) false None
        total_none t =
            let w = any_found p.hall.now.lanes.count is_barred t in
            let i = w.0 in
            let there : i < count h = omega (arith, w.1, of.accepted.columns.rows) in
            let dear = and_r (get_or chosen i false) (get_or p.hall.now.fixed i false || eqb i k) w.2 in
            forced_none h of.accepted.able of.accepted.ranged (suc k) (omega arith) row_high q (flagged chosen) done (suc i) (omega arith) there
            (flag_at chosen i ∙ and_l (get_or chosen i false) (get_or p.hall.now.fixed i false || eqb i k) w.2)
            (rw (sym (mark i there), eqb-suc-suc i k) dear)

        pub total_out : any_below p.hall.now.lanes.count is_barred ≡ false → LeastTotal h (suc k) false (Some (total h (listed h (flagged chosen))))
        total_out f =
            forced_out h of.accepted.able of.accepted.ranged (suc k) (omega arith) row_high q (flagged chosen) done out unfixed
          where
            left : (i : ℕ) → i < count h → flagged chosen (suc i) ≡ true → (get_or p.hall.now.fixed i false || eqb i k) ≡ true → ⊥
            left i l t d =
                clash
                (any_intro p.hall.now.lanes.count is_barred i (omega (arith, l, of.accepted.columns.rows))
                (and_i (get_or chosen i false) (get_or p.hall.now.fixed i false || eqb i k) (sym (flag_at chosen i) ∙ t) d)) f

            out : flagged chosen (suc k) ≡ false
            out = by_bool (flagged chosen (suc k)) (λ t. absurd (left k row_high t (or_r (get_or p.hall.now.fixed k false) (eqb k k) (eq-eqb k k refl)))) (λ t. t)

            unfixed : NoneFixed h (flagged chosen)
            unfixed i l u t =
                let here : suc (i - 1) ≡ i = omega arith in
                by_bool (row h i).fixed
                (λ e.
                absurd (left (i - 1) (omega arith) (ap (flagged chosen) here ∙ t)
                (or_l (get_or p.hall.now.fixed (i - 1) false) (eqb (i - 1) k) (of.accepted.marks i l u ∙ e))))
                (λ e. e)
