-- The rows are decided one by one: a start, what each kind of step keeps, and the end. Assumes nothing.
use mathlib.Core.Path.{◌≡◌, refl, sym, ◌∙◌}
use mathlib.Core.Bool.{Bool, true, false}
use mathlib.Core.List.{List}
use Prim.Native.Nat.{ℕ, suc, ◌+◌, ◌≤◌, ◌<◌}
use native.Mathlib.Omega.{arith}
use borrow.Author.Tests.{le-leb, leb-true, lt-leb}
use Rattle.junctions.specs.Sets.{holds}
use Rattle.digraph.specs.Reach.{Closed}
use Rattle.hall.specs.Hall.{Hall, row, count}
use Rattle.hall.specs.Plan.{First}
use Rattle.dicuts.specs.Shores.{Ranged, once}
use Rattle.dicuts.specs.Listed.{listed}
use Rattle.joining.proofs.Joining.{joining_mono}
use Rattle.potentials.specs.Potential.{Under, Paid, cost}
use Rattle.potentials.specs.ZeroGraph.{zero_arcs, raised, Raisable}
use Rattle.potentials.specs.Flip.{Leg, Flip, flipped, Route}
use Rattle.potentials.specs.Repair.{Repaired}
use Rattle.potentials.specs.Compare.{Priced, Agree}
use Rattle.potentials.proofs.Compare.{compare-cost}
use Rattle.potentials.proofs.Priced.{priced_under, raised_priced, flip_priced}
use Rattle.potentials.proofs.Raise.{closed_raisable, raised_parted, raised_in, raised_out}
use Rattle.potentials.proofs.Same.{cost_same, cost_rows_same, parted_same, priced_same}
use Rattle.potentials.proofs.Weights.{put_same}
use Rattle.order.specs.Ranked.{ranked, Plannable}
use Rattle.choicelists.proofs.Leads.{leads_ext}
use Rattle.certificates.proofs.Weighing.{parted_weighs, repaired_least}
use Rattle.deciding.specs.Decided.{Decided, rows_after}
use Rattle.deciding.specs.Deciding.{opened, Deciding}
use Rattle.deciding.proofs.Decided.{decided_none, decided_in, decided_out, decided_same}
use Rattle.deciding.proofs.First.{decided_first}
use Rattle.deciding.proofs.Opened.{opened_flip}

after_next : (k i : ℕ) → rows_after (suc k) i ≡ true → rows_after k i ≡ true
unfolding rows_after
after_next k i e = le-leb (suc k) i (omega (arith, leb-true (suc (suc k)) i e))

pub after_first : (k : ℕ) → rows_after k (suc k) ≡ true
unfolding rows_after
after_first k = le-leb (suc k) (suc k) (omega arith)

pub not_after : (k i : ℕ) → i ≤ k → rows_after k i ≡ false
unfolding rows_after
not_after k i l = lt-leb (suc k) i (omega arith)

module _ (h : Hall) (rg : Ranged h) (c : ℕ → ℕ) where
  pub deciding_start : (p : ℕ → ℕ) (F : ℕ → Bool) → Repaired h c p F → Deciding h c 0 p F
  unfolding Under Paid
  deciding_start p F done =
      record {
        joining = done.joining;
        least = repaired_least h rg c p F done;
        decided = decided_none h c F;
        parted = done.parted;
        priced = record { under = λ i l u e. done.under i l u; paid = λ i l u e. done.paid i l u };
      }

  module _ (k : ℕ) (high : suc k ≤ count h) (p : ℕ → ℕ) (F : ℕ → Bool) (so_far : Deciding h c k p F) where
    step_to : Decided h c F (suc k) → Deciding h c (suc k) p F
    step_to decided =
        record {
          joining = so_far.joining;
          least = so_far.least;
          decided = decided;
          parted = so_far.parted;
          priced = record {
            under = λ i l u e. so_far.priced.under i l u (after_next k i e);
            paid = λ i l u e f. so_far.priced.paid i l u (after_next k i e) f;
          };
        }

    -- a chosen row is in
    pub deciding_in : F (suc k) ≡ true → Deciding h c (suc k) p F
    deciding_in e = step_to (decided_in h c F k so_far.decided e)

    -- a row with a gap is out
    pub deciding_out : p (row h (suc k)).to < p (row h (suc k)).from + c (suc k) → Deciding h c (suc k) p F
    deciding_out gap =
        let w = parted_weighs h rg (once F) p so_far.joining so_far.parted in
        step_to (decided_out h c F p w.0 w.1 k high so_far.priced gap so_far.decided)

  -- the rows after k may move
  module _ (k : ℕ) (high : suc k ≤ count h) (m : ℕ → Bool) (movable : (i : ℕ) → 1 ≤ i → i ≤ count h → m i ≡ rows_after k i)
      (p : ℕ → ℕ) (F : ℕ → Bool) (so_far : Deciding h c k p F) where
    to_movable : (q : ℕ → ℕ) (G : ℕ → Bool) → Priced h c q (rows_after k) G → Priced h c q m G
    to_movable q G priced =
        record {
          under = λ i l u e. priced.under i l u (sym (movable i l u) ∙ e);
          paid = λ i l u e g. priced.paid i l u (sym (movable i l u) ∙ e) g;
        }

    from_movable : (q : ℕ → ℕ) (G : ℕ → Bool) → Priced h c q m G → Priced h c q (rows_after k) G
    from_movable q G priced =
        record {
          under = λ i l u e. priced.under i l u (movable i l u ∙ e);
          paid = λ i l u e g. priced.paid i l u (movable i l u ∙ e) g;
        }

    next_moves : m (suc k) ≡ true
    next_moves = movable (suc k) (omega arith) high ∙ after_first k

    -- a raise by 1 on a closed set keeps what is decided
    raise_keeps : (z : ℕ) → Closed h.n (zero_arcs h m c p F) z → Deciding h c k (raised z 1 p) F
    raise_keeps z closed =
        let priced : Priced h c p m F = to_movable p F so_far.priced in
        let able : Raisable h m c p F z 1 = closed_raisable h rg m c p F z closed (priced_under h m c p F priced) so_far.parted in
        record {
          joining = so_far.joining;
          least = so_far.least;
          decided = so_far.decided;
          parted = raised_parted h rg m c p F z 1 able so_far.parted;
          priced = from_movable (raised z 1 p) F (raised_priced h rg m c p F z 1 closed able priced);
        }

    -- so a row that leaves the set is out
    pub deciding_raise :
        (z : ℕ) → Closed h.n (zero_arcs h m c p F) z → holds z (row h (suc k)).from ≡ true → holds z (row h (suc k)).to ≡ false →
        Deciding h c (suc k) (raised z 1 p) F
    deciding_raise z closed from_in to_out =
        deciding_out k high (raised z 1 p) F (raise_keeps z closed)
        (omega (
          arith,
          so_far.priced.under (suc k) (omega arith) high (after_first k),
          raised_in z 1 p (row h (suc k)).from from_in,
          raised_out z 1 p (row h (suc k)).to to_out,
        ))

    -- a flip keeps what is decided: the cost is the same
    module _ (G : ℕ → Bool) (flip : Flip h m c p F G) where
      flip_cost : cost h c G ≡ cost h c F
      unfolding Agree
      flip_cost =
          let w = parted_weighs h rg (once G) p flip.joining flip.parted in
          omega (
            arith,
            compare-cost h G p w.0 w.1 c m (flip_priced h m c p F G flip (to_movable p F so_far.priced)) F (λ i l u e. flip.fixed i e)
                so_far.joining,
            so_far.least G flip.joining,
          )

      flip_keeps : Deciding h c k p G
      flip_keeps =
          record {
            joining = flip.joining;
            least = λ H joining. omega (arith, flip_cost, so_far.least H joining);
            decided = decided_same h c F G k (λ i l u. flip.fixed i (movable i l (omega arith) ∙ not_after k i u)) flip_cost so_far.decided;
            parted = flip.parted;
            priced = from_movable p G (flip_priced h m c p F G flip (to_movable p F so_far.priced));
          }

    -- so a row without a gap is in after the flip of a route from its tail to its head
    pub deciding_flip :
        (dist : ℕ → ℕ) →
        ((x y : ℕ) → 1 ≤ x → x ≤ h.n → 1 ≤ y → y ≤ h.n → holds (zero_arcs h m c p F x) y ≡ true → dist y ≤ suc (dist x)) →
        p (row h (suc k)).from + c (suc k) ≤ p (row h (suc k)).to → (ls : List Leg) →
        Route h m c p F dist (row h (suc k)).from ls (row h (suc k)).to → Deciding h c (suc k) p (opened (suc k) ls F)
    unfolding opened
    deciding_flip dist ahead no_gap ls route =
        let rise : p (row h (suc k)).to ≡ p (row h (suc k)).from + c (suc k) =
        omega (arith, no_gap, so_far.priced.under (suc k) (omega arith) high (after_first k)) in
        let flip : Flip h m c p F (opened (suc k) ls F) =
        opened_flip h rg m c p F dist ahead so_far.joining so_far.parted (suc k) (omega arith) high next_moves rise ls route in
        deciding_in k high p (opened (suc k) ls F) (flip_keeps (opened (suc k) ls F) flip) (put_same (suc k) true (flipped ls F))

-- what is decided depends on the rows and junctions of the hall alone
pub deciding_same :
    (h : Hall) → Ranged h → (c d : ℕ → ℕ) → ((i : ℕ) → 1 ≤ i → i ≤ count h → c i ≡ d i) → (p q : ℕ → ℕ) →
    ((j : ℕ) → 1 ≤ j → j ≤ h.n → p j ≡ q j) → (F G : ℕ → Bool) → ((i : ℕ) → 1 ≤ i → i ≤ count h → F i ≡ G i) → (k : ℕ) → k ≤ count h →
    Deciding h c k p F → Deciding h d k q G
unfolding Decided
deciding_same h rg c d costs p q levels F G rows k high so_far =
    let cost_g : cost h d G ≡ cost h c F = sym (cost_same h c d costs G) ∙ sym (cost_rows_same h F G rows c) in
    record {
      joining = joining_mono h F G (λ i l u e. sym (rows i l u) ∙ e) so_far.joining;
      least = λ H joining. omega (arith, cost_g, cost_same h c d costs H, so_far.least H joining);
      decided = λ H joining cheap leads.
          so_far.decided H joining (omega (arith, cost_g, cost_same h c d costs H))
          (leads_ext k (λ i l u. refl) (λ i l u. sym (rows i l (omega arith))) leads);
      parted = parted_same h p q levels F G rows so_far.parted;
      priced = priced_same h rg c d costs p q levels F G rows (rows_after k) (rows_after k) (λ i l u. refl) so_far.priced;
    }

-- when all rows are decided, for ranked costs, the first choice is found
pub deciding_end : (h : Hall) → Ranged h → Plannable h → (p : ℕ → ℕ) (F : ℕ → Bool) → Deciding h (ranked h) (count h) p F → First h (listed h F)
deciding_end h rg able p F done = decided_first h rg able F done.joining done.least done.decided
