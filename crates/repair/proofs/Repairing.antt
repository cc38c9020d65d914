-- The loop of repair: what it keeps from step to step, why it ends, and what it ends with. Assumes nothing.
use mathlib.Core.Path.{◌≡◌, refl}
use mathlib.Core.Bool.{Bool, true, false, ◌&&◌, cond}
use mathlib.Core.List.{List}
use Prim.Native.Nat.{ℕ, zero, suc, ◌+◌, ◌-◌, ◌^◌, ◌≤◌, ◌<◌}
use native.Mathlib.Omega.{arith}
use lib.Dec.{ltb}
use lib.ListN.{get_or, length, get_or-eq_default}
use borrow.Author.Tests.{ltb-true, ltb-false, lt-ltb}
use Rattle.std.specs.Prelude.{Option, Some, None}
use Rattle.laws.specs.Lists.{at}
use Rattle.laws.specs.Finite.{sum_below}
use Rattle.laws.proofs.Booleans.{by_bool, bool_ext, clash, and_i}
use Rattle.laws.proofs.Finite.{sum_ext}
use Rattle.hall.specs.Hall.{Hall, row, count}
use Rattle.columns.specs.Columns.{flagged, Columns, Neighbourhoods}
use Rattle.columns.specs.Lanes.{LanesOf}
use Rattle.columns.specs.declared.Lanes.{Lanes}
use Rattle.columns.proofs.Places.{place_tail, place_head}
use Rattle.potentials.specs.Potential.{Paid, gap, slack}
use Rattle.potentials.specs.Repair.{Repairable}
use Rattle.columns.specs.Low.{Low}
use Rattle.repair.specs.declared.State.{State}
use Rattle.repair.specs.Repairs.{unpaid, FirstUnpaid, SomeUnpaid, Stepped, RepairStart, RepairEnd}

-- a number is over another exactly where the difference is not 0
over : (x y : ℕ) → ltb 0 (x - y) ≡ ltb y x
over x y =
    bool_ext (ltb 0 (x - y)) (ltb y x) (λ e. lt-ltb y x (omega (arith, ltb-true 0 (x - y) e)))
    (λ e. lt-ltb 0 (x - y) (omega (arith, ltb-true y x e)))

-- the test for a gap, from the lanes
pub unpaid_here :
    (h : Hall) (n m : ℕ) (tails heads costs potential : List ℕ) (chosen : List Bool) → Columns h n m tails heads → (k a b : ℕ) → k < m →
    suc a ≡ get_or tails k 0 → suc b ≡ get_or heads k 0 → (gap : ℕ) → gap ≡ get_or potential a 0 + get_or costs k 0 - get_or potential b 0 →
    unpaid h (at costs) (at potential) (flagged chosen) (suc k) ≡ (get_or chosen k false && ltb 0 gap)
unfolding unpaid
unpaid_here h n m tails heads costs potential chosen cols k a b less tail head gap is =
    let from_is : (row h (suc k)).from ≡ suc a = omega (arith, place_tail h n m tails heads cols k less) in
    let to_is : (row h (suc k)).to ≡ suc b = omega (arith, place_head h n m tails heads cols k less) in
    let back : (x : ℕ) → suc x - 1 ≡ x = λ x. omega arith in
    rw (from_is, to_is, back k, back a, back b, is, over) refl

-- the first from place 0 on is one
pub first_some : (h : Hall) (c p : ℕ → ℕ) (F : ℕ → Bool) (m : ℕ) (r : Option ℕ) → FirstUnpaid h c p F 0 m r → SomeUnpaid h c p F m r
first_some h c p F m (Some r) first = (first.0, first.1)
first_some h c p F m None first = λ k less. first k (omega arith) less

-- the slack, from the lanes: it falls with each step
unfoldable pub lanes_slack : Lanes → (c p : ℕ → ℕ) → (F : ℕ → Bool) → ℕ
lanes_slack l c p F = sum_below l.count (λ k. cond (F (suc k)) (p (at l.tails (suc k)) + c (suc k) - p (at l.heads (suc k))) 0)

pub slack_lanes : (h : Hall) (l : Lanes) → LanesOf h l → (c p : ℕ → ℕ) (F : ℕ → Bool) → slack h c p F ≡ lanes_slack l c p F
unfolding slack gap lanes_slack
slack_lanes h l lanes c p F =
    rw lanes.rows
    (sum_ext l.count (λ k. cond (F (suc k)) (p (row h (suc k)).from + c (suc k) - p (row h (suc k)).to) 0)
    (λ k. cond (F (suc k)) (p (at l.tails (suc k)) + c (suc k) - p (at l.heads (suc k))) 0)
    (λ k less. rw (lanes.tail (suc k) (omega arith) less, lanes.head (suc k) (omega arith) less) refl))

-- levels below a bound, place by place
pub levels_below : (most : ℕ) (xs : List ℕ) → 0 < most → length xs ≡ 64 → ((j : ℕ) → 1 ≤ j → j ≤ 64 → at xs j < most) → (k : ℕ) → get_or xs k 0 < most
levels_below most xs some size low k =
    by_bool (ltb k 64)
    (λ e. let back : suc k - 1 ≡ k = omega arith in rw back at (low (suc k) (omega arith) (ltb-true k 64 e)))
    (λ e. omega (arith, get_or-eq_default xs 0 {n = k} (omega (arith, size, ltb-false k 64 e))))

-- what repair keeps: a state that can be repaired, in which no level has grown by more than the slack has fallen
pub record Kept (h : Hall) (c : ℕ → ℕ) (from to : State) : Type 0 where
  pub repairable : Repairable h c (at to.potential) (flagged to.chosen)
  pub around : Neighbourhoods h (flagged to.chosen) to.around
  pub bound : (j : ℕ) → 1 ≤ j → j ≤ 64 →
      at to.potential j + slack h c (at to.potential) (flagged to.chosen) ≤ at from.potential j + slack h c (at from.potential) (flagged from.chosen)

module _ (h : Hall) (c : ℕ → ℕ) (from : State) where
  pub kept_start : Repairable h c (at from.potential) (flagged from.chosen) → Neighbourhoods h (flagged from.chosen) from.around → Kept h c from from
  kept_start start around = record { repairable = start; around = around; bound = λ j l u. omega arith }

  module _ (s : State) (kept : Kept h c from s) where
    pub kept_more : (t : State) → Stepped h c (at s.potential) (flagged s.chosen) t → Kept h c from t
    kept_more t step =
        record { repairable = step.repairable; around = step.around; bound = λ j l u. omega (arith, kept.bound j l u, step.bound j l u) }

    -- where no row has a gap, P2 holds
    module _ (m : ℕ) (rows : count h ≡ m) (none : (k : ℕ) → k < m → unpaid h c (at s.potential) (flagged s.chosen) (suc k) ≡ false) where
      all_paid : (i : ℕ) → 1 ≤ i → i ≤ count h → flagged s.chosen i ≡ true → at s.potential (row h i).from + c i ≤ at s.potential (row h i).to
      unfolding unpaid
      all_paid zero l u t = absurd (omega arith)
      all_paid (suc k) l u t =
          let low : ℕ = at s.potential (row h (suc k)).to in
          let high : ℕ = at s.potential (row h (suc k)).from + c (suc k) in
          by_bool (ltb low high) (λ e. clash (and_i (flagged s.chosen (suc k)) (ltb low high) t e) (none k (omega arith))) (λ e. ltb-false low high e)

      pub kept_end : RepairEnd h c from s
      unfolding Paid
      kept_end =
          let r = kept.repairable in
          record {
            repaired = record { joining = r.joining; under = r.under; paid = all_paid; parted = r.parted };
            around = kept.around;
            bound = λ j l u. omega (arith, kept.bound j l u);
          }

-- while it runs, levels stay low
pub kept_low :
    (l : Lanes) (costs : List ℕ) (from : State) (start : RepairStart l costs from) (s : State) → Kept start.hall (at costs) from s →
    length s.potential ≡ 64 → Low s.potential
kept_low l costs from start s kept size = levels_below (2 ^ 62) s.potential (omega arith) size (λ j lj uj. omega (arith, kept.bound j lj uj, start.bound j lj uj))
