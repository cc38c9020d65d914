-- From a choice of least cost to where repair starts once a row costs otherwise, and back from where it ends. Assumes nothing.
use mathlib.Core.Path.{◌≡◌, refl, sym}
use mathlib.Core.Bool.{Bool}
use mathlib.Core.List.{List}
use Prim.Native.Nat.{ℕ, suc, ◌+◌, ◌-◌, ◌≤◌, ◌<◌}
use native.Mathlib.Omega.{arith}
use lib.ListN.{get_or, length, set}
use Rattle.laws.specs.Lists.{at}
use Rattle.hall.specs.Hall.{Hall, row, count}
use Rattle.columns.specs.Columns.{flagged, Neighbourhoods}
use Rattle.columns.specs.declared.Lanes.{Lanes}
use Rattle.columns.proofs.Places.{lane_tail, lane_head}
use Rattle.potentials.specs.Potential.{slack, cost}
use Rattle.potentials.specs.Flip.{put}
use Rattle.potentials.specs.Repair.{Repairable, Repaired}
use Rattle.potentials.proofs.Same.{slack_same, repairable_same, repaired_same}
use Rattle.forcing.specs.Shut.{shut}
use Rattle.forcing.proofs.Shut.{shut_low, shut_repairable, shut_slack}
use Rattle.flip.proofs.Flips.{set_puts}
use Rattle.repair.specs.declared.State.{State}
use Rattle.repair.specs.Repairs.{RepairStart, RepairEnd}
use Rattle.reprice.specs.Reprice.{Repriceable}

-- a choice of least cost where the row at place k costs e, with its neighbourhoods
pub record Repriced (h : Hall) (costs : List ℕ) (k e : ℕ) (s : State) : Type 0 where
  pub repaired : Repaired h (put (suc k) e (at costs)) (at s.potential) (flagged s.chosen)
  pub around : Neighbourhoods h (flagged s.chosen) s.around

-- the choice at these levels can be repaired at the costs with one of them changed, and what is repaired then is so at the new costs
pub record Repricing (h : Hall) (l : Lanes) (costs : List ℕ) (s : State) (k e : ℕ) (levels : List ℕ) : Type 0 where
  pub can : Repairable h (at (set costs k e)) (at levels) (flagged s.chosen)
  pub start : RepairStart l (set costs k e) (record { chosen = s.chosen; potential = levels; around = s.around })
  pub end : (end : State) → RepairEnd h (at (set costs k e)) (record { chosen = s.chosen; potential = levels; around = s.around }) end →
      Repriced h costs k e end

module _ (h : Hall) (l : Lanes) (costs : List ℕ) (s : State) (k e : ℕ) (inside : k < l.count) (ready : Repriceable h l costs s (suc k) e)
    (long : length costs ≡ 256) where
  abbrev changed : ℕ → ℕ
  changed = put (suc k) e (at costs)

  changed_costs : (i : ℕ) → 1 ≤ i → i ≤ count h → changed i ≡ at (set costs k e) i
  changed_costs i low high = sym (set_puts 0 costs k e (omega (arith, long, inside, l.ends.few)) i low)

  -- the levels of the row's ends, and the potential shut between them
  module _ (t d a b : ℕ) (tail : suc t ≡ get_or l.tails k 0) (head : suc d ≡ get_or l.heads k 0)
      (a_is : a ≡ get_or s.potential t 0 + e) (low : a ≤ b) (high : get_or s.potential d 0 ≤ b) (levels : List ℕ)
      (shut_levels : (j : ℕ) → get_or levels j 0 ≡ shut a b (λ i. get_or s.potential i 0) j) where
    abbrev p : ℕ → ℕ
    p = at s.potential

    from_is : a ≡ p (row h (suc k)).from + e
    from_is =
        let place : (row h (suc k)).from - 1 ≡ t = omega (arith, tail, lane_tail h l ready.columns k inside) in
        rw place a_is

    to_high : p (row h (suc k)).to ≤ b
    to_high =
        let place : (row h (suc k)).to - 1 ≡ d = omega (arith, head, lane_head h l ready.columns k inside) in
        rw place high

    levels_are : (j : ℕ) → shut a b p j ≡ at levels j
    unfolding shut
    levels_are j = sym (shut_levels (j - 1))

    abbrev F : ℕ → Bool
    F = flagged s.chosen

    can : Repairable h (at (set costs k e)) (at levels) F
    can =
        repairable_same h ready.ranged changed (at (set costs k e)) changed_costs (shut a b p) (at levels) (λ j lj uj. levels_are j) F F (λ i li ui. refl)
        (shut_repairable h (at costs) p F (suc k) e a b ready.repaired from_is low to_high)

    slack_low : slack h (at (set costs k e)) (at levels) F ≤ cost h changed F
    slack_low =
        omega (
          arith,
          slack_same h ready.ranged changed (at (set costs k e)) changed_costs (shut a b p) (at levels) (λ j lj uj. levels_are j) F F (λ i li ui. refl),
          shut_slack h (at costs) p F (suc k) e a b ready.repaired from_is low to_high,
        )

    pub repricing : Repricing h l costs s k e levels
    repricing =
        record {
          can = can;
          start = record {
            hall = h;
            columns = ready.columns;
            ranged = ready.ranged;
            repairable = can;
            around = ready.around;
            bound = λ j lj uj. omega (arith, levels_are j, shut_low a b p j, slack_low, ready.low j lj uj);
          };
          end = λ end done. record {
            repaired =
                repaired_same h ready.ranged (at (set costs k e)) changed (λ i li ui. sym (changed_costs i li ui)) (at end.potential) (at end.potential)
                (λ j lj uj. refl) (flagged end.chosen) (flagged end.chosen) (λ i li ui. refl) done.repaired;
            around = done.around;
          };
        }
