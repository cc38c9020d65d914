-- For any costs there are a joining set of rows and a potential with P1, P2 and P3: while a chosen row has a gap, flip or raise, and the slack falls. Assumes nothing.
use mathlib.Core.Path.{◌≡◌, refl, ◌∙◌}
use mathlib.Core.Bool.{Bool, true, false, ◌&&◌}
use mathlib.Core.List.{List}
use Prim.Native.Nat.{ℕ, zero, suc, ◌+◌, ◌≤◌, ◌<◌}
use native.Mathlib.Omega.{arith}
use lib.Dec.{ltb}
use borrow.Author.Tests.{ltb-true, lt-ltb}
use Rattle.laws.proofs.Booleans.{tests, by_bool, clash, and_l, and_r, and_i}
use Rattle.laws.proofs.Finite.{decide_below, strong}
use Rattle.junctions.specs.Sets.{holds}
use Rattle.digraph.specs.Reach.{Closed}
use Rattle.digraph.specs.Paths.{Distances}
use Rattle.digraph.specs.Distances.{distances, near}
use Rattle.digraph.proofs.Balls.{distances_are}
use Rattle.digraph.proofs.Paths.{descend, near-holds, near_reach}
use Rattle.hall.specs.Hall.{Hall, row, count}
use Rattle.dicuts.specs.Shores.{Ranged, Linked}
use Rattle.joining.proofs.Joining.{linked_joining}
use Rattle.potentials.specs.Potential.{Under, Paid, Parted, gap, slack}
use Rattle.potentials.specs.ZeroGraph.{every_row, zero_arcs, raised, Raisable}
use Rattle.potentials.specs.Flip.{Leg, by_close, Flip, Turns, after, flipped, Route}
use Rattle.potentials.specs.Repair.{dropped, Repairable, Repaired}
use Rattle.potentials.proofs.Arcs.{zero_arcs_lt}
use Rattle.potentials.proofs.Raise.{under_all, all_under, raised_under, raised_parted, closed_raisable}
use Rattle.potentials.proofs.Slack.{slack-raised, slack-flipped}
use Rattle.potentials.proofs.Weights.{put_same}
use Rattle.potentials.proofs.Flip.{climb_route, flip_keeps}

-- all rows and the potential 0 are a start
pub repairable_start : (h : Hall) → Linked h → (c : ℕ → ℕ) → Repairable h c (λ j. 0) (λ i. true)
unfolding Under Parted
repairable_start h linked c =
    record {
      joining = linked_joining h linked;
      under = λ i l u. omega arith;
      parted = λ v u lv kv lu ku less. absurd (omega arith);
    }

module _ (h : Hall) (rg : Ranged h) (c p : ℕ → ℕ) (F : ℕ → Bool) (start : Repairable h c p F) where
  -- a raise keeps what `repair` keeps
  pub repair_raised : (z e : ℕ) → Raisable h every_row c p F z e → Repairable h c (raised z e p) F
  repair_raised z e able =
      record {
        joining = start.joining;
        under = all_under h c (raised z e p) (raised_under h rg every_row c p F z e able (under_all h c p start.under));
        parted = raised_parted h rg every_row c p F z e able start.parted;
      }

  -- and so does a flip that drops a row with a gap
  module _ (dist : ℕ → ℕ)
      (ahead : (x y : ℕ) → 1 ≤ x → x ≤ h.n → 1 ≤ y → y ≤ h.n → holds (zero_arcs h every_row c p F x) y ≡ true → dist y ≤ suc (dist x))
      (i : ℕ) (l : 1 ≤ i) (u : i ≤ count h) (f : F i ≡ true) (open_gap : p (row h i).to < p (row h i).from + c i)
      (ls : List Leg) (route : Route h every_row c p F dist (row h i).to ls (row h i).from) where
    pub repair_flip : Flip h every_row c p F (dropped i ls F)
    unfolding Turns after dropped
    repair_flip =
        flip_keeps h every_row c p F dist ahead (row h i).to (rg.to_low i l u) (rg.to_high i l u) ls (row h i).from route start.joining start.parted
        (by_close i (row h i).to) (refl, record { low = l; high = u; free = refl; chosen = f; from_is = refl; to_is = refl }, open_gap)

    pub repair_flipped : Repairable h c p (dropped i ls F)
    repair_flipped = record { joining = repair_flip.joining; under = start.under; parted = repair_flip.parted }

    pub slack-dropped : slack h c p (dropped i ls F) < slack h c p F
    unfolding gap dropped
    slack-dropped =
        omega (
          arith,
          slack-flipped h c p F (dropped i ls F) (λ k lk uk g e. omega (arith, repair_flip.new k g e)) i l u f (put_same i false (flipped ls F)),
        )

-- some row to repair, or none
pub decide_paid {ℓ} :
    {C : Type ℓ} (h : Hall) (c p : ℕ → ℕ) (F : ℕ → Bool) →
    ((i : ℕ) → 1 ≤ i → i ≤ count h → F i ≡ true → p (row h i).to < p (row h i).from + c i → C) → (Paid h c p F → C) → C
unfolding Paid
decide_paid h c p F unpaid paid =
    let short : ℕ → Bool = λ i. ltb (p (row h i).to) (p (row h i).from + c i) in
    decide_below (count h) (λ k. F (suc k) && short (suc k))
    (λ k l t. unpaid (suc k) (omega arith) l (and_l (F (suc k)) (short (suc k)) t) (omega (tests, and_r (F (suc k)) (short (suc k)) t)))
    (λ none. paid (all_paid none))
  where
    all_paid :
        ((k : ℕ) → k < count h → (F (suc k) && ltb (p (row h (suc k)).to) (p (row h (suc k)).from + c (suc k))) ≡ false) → (i : ℕ) → 1 ≤ i → i ≤ count h →
        F i ≡ true → p (row h i).from + c i ≤ p (row h i).to
    all_paid none zero l u t = absurd (omega arith)
    all_paid none (suc k) l u t =
        by_bool (ltb (p (row h (suc k)).to) (p (row h (suc k)).from + c (suc k)))
        (λ e. clash (and_i (F (suc k)) (ltb (p (row h (suc k)).to) (p (row h (suc k)).from + c (suc k))) t e) (none k (omega arith)))
        (λ e. omega tests)

module _ (h : Hall) (rg : Ranged h) (c : ℕ → ℕ) where
  -- a chosen row with a gap: by a flip or a raise the slack falls
  repair_step :
      (p : ℕ → ℕ) (F : ℕ → Bool) → Repairable h c p F → (i : ℕ) → 1 ≤ i → i ≤ count h → F i ≡ true → p (row h i).to < p (row h i).from + c i →
      (q : ℕ → ℕ) × (G : ℕ → Bool) × Repairable h c q G × (slack h c q G < slack h c p F)
  repair_step p F start i l u f open_gap =
      let n : ℕ = h.n in
      let out : ℕ → ℕ = zero_arcs h every_row c p F in
      let s : ℕ = (row h i).from in
      let t : ℕ = (row h i).to in
      let dist : ℕ → ℕ = distances n out t in
      let d : Distances n out t dist = distances_are n out t (rg.to_low i l u) (rg.to_high i l u) in
      by_bool (ltb (dist s) n)
      (λ e.
      let w = descend n out t dist d s (rg.from_low i l u) (rg.from_high i l u) (ltb-true (dist s) n e) in
      let r = climb_route h every_row c p F dist t w.0 s w.1 in (
        p,
        dropped i r.0 F,
        repair_flipped h rg c p F start dist d.ahead i l u f open_gap r.0 r.1,
        slack-dropped h rg c p F start dist d.ahead i l u f open_gap r.0 r.1,
      ))
      (λ e.
      let z : ℕ = near n dist in
      let closed : Closed n out z =
      (near_reach n out t dist d (rg.to_low i l u) (rg.to_high i l u) (λ j a b. zero_arcs_lt h every_row c p F j)).closed in
      let able : Raisable h every_row c p F z 1 = closed_raisable h rg every_row c p F z closed (under_all h c p start.under) start.parted in
      let t_in : holds z t ≡ true =
      near-holds n out t dist d t (rg.to_low i l u) (rg.to_high i l u) ∙ lt-ltb (dist t) n (omega (arith, d.here, rg.some)) in
      let s_out : holds z s ≡ false = near-holds n out t dist d s (rg.from_low i l u) (rg.from_high i l u) ∙ e in (
        raised z 1 p,
        F,
        repair_raised h rg c p F start z 1 able,
        omega (arith, slack-raised h rg every_row c p F z 1 closed able (λ k lk uk q. refl) i l u f s_out t_in),
      ))

  -- what starts with slack k can be repaired
  abbrev Repairs : (k : ℕ) → Type 0
  Repairs k = (p : ℕ → ℕ) (F : ℕ → Bool) → slack h c p F ≡ k → Repairable h c p F → (q : ℕ → ℕ) × (G : ℕ → Bool) × Repaired h c q G

  repairs_more : (k : ℕ) → ((j : ℕ) → j < k → Repairs j) → Repairs k
  repairs_more k again p F e start =
      decide_paid h c p F
      (λ i l u f open_gap.
      let next = repair_step p F start i l u f open_gap in
      again (slack h c next.0 next.1) (omega (arith, next.3)) next.0 next.1 refl next.2)
      (λ paid. (p, F, record { joining = start.joining; under = start.under; paid = paid; parted = start.parted }))

  -- REPAIR, by recursion on the slack
  pub repair : (p : ℕ → ℕ) (F : ℕ → Bool) → Repairable h c p F → (q : ℕ → ℕ) × (G : ℕ → Bool) × Repaired h c q G
  repair p F start = strong Repairs repairs_more (slack h c p F) p F refl start

  pub repaired_there : Linked h → (q : ℕ → ℕ) × (G : ℕ → Bool) × Repaired h c q G
  repaired_there linked = repair (λ j. 0) (λ i. true) (repairable_start h linked c)
