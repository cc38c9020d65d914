-- Each reply of the cuts' call over two number lists says what `PairSays` asks. Assumes nothing.
use mathlib.Core.Path.{◌≡◌, refl, sym, ◌∙◌, subst}
use mathlib.Core.Bool.{true, false}
use mathlib.Core.List.{List}
use Prim.Native.Nat.{ℕ, ◌-◌, ◌≤◌}
use native.Mathlib.Omega.{arith}
use lib.IntN.{ℤ}
use lib.ListN.{length, replicate, get_or-replicate}
use Rattle.std.specs.Prelude.{Result, Ok, Err}
use Rattle.laws.specs.Lists.{at}
use Rattle.hall.specs.Hall.{Hall}
use Rattle.hall.specs.File.{hall_in, hall_refusal, refusal}
use Rattle.refusals.specs.declared.Kind.{Kind}
use Rattle.refusals.specs.declared.Kind.TheVariants.{ListShort}
use Rattle.refusals.specs.Kinds.{refusal_of, answered, figure}
use Rattle.opening.specs.Choice.{room_for}
use Rattle.opening.proofs.Refused.{of_refused}
use Rattle.opening.proofs.Room.{room_first, room_enough}
use Rattle.dicuts.specs.Shores.{once}
use Rattle.order.proofs.Promise.{plannable_first}
use Rattle.certificates.specs.Cuts.{cuts}
use Rattle.certificates.proofs.First.{beside_first}
use Rattle.columns.specs.Columns.{flagged, Arcs}
use Rattle.adjacency.proofs.Arcs.{arcs_ext}
use Rattle.hallfile.specs.declared.record.HallRecord.{HallRecord}
use Rattle.repair.specs.declared.State.{State}
use Rattle.levels.specs.Levels.{Levelled}
use Rattle.cuts.specs.Beside.{highest, BesideRows}
use Rattle.cuts.specs.Thresholds.{UnderTop}
use Rattle.cuts.specs.Filled.{FilledWith}
use Rattle.oneplan.specs.Plan.{PairAs, PairSays}
use Rattle.plan.specs.Ready.{Accepted, Least}
use Rattle.planpairs.specs.declared.PlannedCuts.{PlannedCuts}
use Rattle.planpairs.proofs.Fronts.{cuts-count, shores_front, weights_front, levels_front}

module _ (h : Hall) (x : HallRecord) (rd : Accepted h x) (size : x.lanes.n ≤ 64) (s : State) (least : Least h s) where
  pub under : UnderTop x.lanes.n (at s.potential) highest
  unfolding UnderTop
  under j l u = least.low j l (omega (arith, size))

  -- the arcs of every row
  every_row : (links : List ℕ) → Arcs h (flagged (replicate 256 true)) links → Arcs h (λ i. true) links
  unfolding Arcs
  every_row links are y l u =
      are y l u ∙ arcs_ext h (flagged (replicate 256 true)) (λ i. true) (λ i p q. get_or-replicate 256 (i - 1) true false (omega (arith, rd.able.few))) y

  pub beside_rows : (links : List ℕ) → Arcs h (flagged (replicate 256 true)) links → BesideRows h (flagged s.chosen) x.lanes.n links s.around s.potential
  beside_rows links are =
      record {
        junctions = rd.columns.junctions;
        ranged = rd.ranged;
        linked = rd.linked;
        joining = least.repaired.joining;
        parted = least.repaired.parted;
        links_are = every_row links are;
        around_are = least.around;
        low = under;
      }

  -- cuts beside the first choice, from what was filled in: they stand beside it whatever it is, as their weights add up to the least total
  pub pairs_as :
      (a y b z : List ℕ) (d w : List ℤ) → 125 ≤ length a → 125 ≤ length b → 64 ≤ length d → (q : ℕ) →
      FilledWith (cuts h (once (flagged s.chosen)) (at s.potential) highest) a b q y z →
      Levelled (cuts h (once (flagged s.chosen)) (at s.potential) highest) x.lanes.n d w → PairAs 0 h q x.lanes.n a y b z d w
  unfolding PairAs
  pairs_as a y b z d w room_a room_b room_d q filled levelled =
      let ks = cuts h (once (flagged s.chosen)) (at s.potential) highest in
      let first = plannable_first h rd.ranged rd.able in
      let same = rd.columns.junctions in (
        first.0,
        ks,
        first.1,
        beside_first h rd.able rd.ranged rd.linked first.0 first.1 (at s.potential) (flagged s.chosen) least.repaired highest (λ j l u. least.low j l (omega (arith, size))),
        sym (cuts-count ks a b q y z filled),
        sym same,
        shores_front ks a b q y z filled room_a,
        weights_front ks a b q y z filled room_b,
        levels_front h ks d w (omega (arith, size)) (subst (λ (k : ℕ). Levelled ks k d w) (sym same) levelled),
      )

-- which refusal comes
module _ (bs a b : List ℕ) (d : List ℤ) where
  -- what the call says of a reply
  abbrev pub Says : Result PlannedCuts Kind → (x y : List ℕ) → (w : List ℤ) → Type 0
  Says r x y w = PairSays bs (answered r) (figure (λ (p : PlannedCuts). p.cuts) r) (figure (λ (p : PlannedCuts). p.levels) r) a x b y d w

  -- no list is too short
  abbrev Room : Type 0
  Room = (125 ≤ length a) × (125 ≤ length b) × (64 ≤ length d)

  says_err : (k : Kind) → refusal_of k ≡ room_for 125 (length a) (room_for 125 (length b) (room_for 64 (length d) (hall_refusal bs))) → Says (Err k) a b d
  unfolding PairSays PairAs answered figure
  says_err k e = (e, of_refused (λ n. PairAs n (hall_in bs) 0 0 a a b b d d) (λ n. (refl, refl, refl, refl, refl)) k (refusal_of k) refl)

  pub says_short : (Room → ⊥) → Says (Err ListShort) a b d
  unfolding refusal_of
  says_short cramped =
      let levels = room_for 64 (length d) (hall_refusal bs) in
      says_err ListShort
      (sym (room_first 125 (length a) (room_for 125 (length b) levels)
      (λ fits_a. room_first 125 (length b) levels (λ fits_b. room_first 64 (length d) (hall_refusal bs) (λ fits_d. absurd (cramped (fits_a, fits_b, fits_d)))))))

  module _ (room : Room) where
    past_room : room_for 125 (length a) (room_for 125 (length b) (room_for 64 (length d) (hall_refusal bs))) ≡ hall_refusal bs
    past_room =
        let levels = room_for 64 (length d) (hall_refusal bs) in
        room_enough 125 (length a) (room_for 125 (length b) levels) room.0 ∙ room_enough 125 (length b) levels room.1 ∙ room_enough 64 (length d) (hall_refusal bs) room.2

    pub says_refused : (k : Kind) → refusal_of k ≡ hall_refusal bs → Says (Err k) a b d
    says_refused k e = says_err k (e ∙ sym past_room)

    pub says_pairs : refusal 0 0 ≡ hall_refusal bs → (r : PlannedCuts) (x y : List ℕ) (w : List ℤ) → PairAs 0 (hall_in bs) r.cuts r.levels a x b y d w → Says (Ok r) x y w
    unfolding PairSays answered figure refusal
    says_pairs fine r x y w pairs = (fine ∙ sym past_room, pairs)
