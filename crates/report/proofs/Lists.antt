-- What the two calls leave in lists of full length is what the report prints. Assumes nothing.
use mathlib.Core.Path.{◌≡◌, sym, ap, ◌∙◌}
use mathlib.Core.List.{List}
use Prim.Native.Nat.{ℕ, ◌≤◌}
use native.Mathlib.Omega.{arith}
use lib.IntN.{ℤ}
use lib.ListN.{length, take, length-map}
use Rattle.std.specs.Prelude.{Result, Ok, Err}
use Rattle.laws.proofs.Lists.{front_fits, front_are}
use Rattle.hall.specs.Hall.{Hall, count}
use Rattle.hall.specs.File.{Refusal, refusal, hall_in, hall_refusal}
use Rattle.hall.specs.Plan.{First, levels, most_cuts}
use Rattle.hallfile.specs.declared.record.HallRecord.{HallRecord}
use Rattle.hallfile.specs.Record.{RecordOf}
use Rattle.refusals.specs.declared.Kind.{Kind}
use Rattle.refusals.specs.Kinds.{answered, figure, refusal_of}
use Rattle.refusals.proofs.Numbers.{answer_none}
use Rattle.cutlist.specs.declared.Cut.{Cut}
use Rattle.cutlist.specs.Cuts.{lent, cuts_of}
use Rattle.cutlist.proofs.Lent.{cuts-lent}
use Rattle.levels.proofs.Levelling.{levels_size}
use Rattle.opening.specs.Choice.{room_for}
use Rattle.opening.proofs.Refused.{of_refused}
use Rattle.opening.proofs.Room.{room_enough}
use Rattle.oneplan.specs.Plan.{CutsSays}
use Rattle.oneplan.proofs.Promise.{ChoiceListed, CutsListed, cuts_listed}
use Rattle.planpairs.specs.declared.PlannedCuts.{PlannedCuts}
use Rattle.printing.specs.Printed.{printed_plan, printed_refusal}
use Rattle.printing.specs.declared.Drawn.{Drawn}
use Rattle.printing.specs.Recorded.{hall_of, hall_drawn, Printable}
use Rattle.printing.proofs.Recorded.{drawn_count, drawn_junctions, hall_of_record}
use Rattle.report.specs.Report.{PlanPrinted, ReportAs, ReportSays, ListSays}

module _ (bs : List ℕ) where
  -- what the cuts' call says, beside the first choice
  module _ (b y : List Cut) (d w : List ℤ) where
    abbrev CutsReply : Result PlannedCuts Kind → Type 0
    CutsReply r = CutsSays lent bs (answered r) (figure (λ (p : PlannedCuts). p.cuts) r) (figure (λ (p : PlannedCuts). p.levels) r) b y d w

    pub cuts_refused : (k : Kind) → length b ≡ 125 → length d ≡ 64 → CutsReply (Err k) → refusal_of k ≡ hall_refusal bs
    unfolding CutsSays answered
    cuts_refused k size room says =
        says.0 ∙ room_enough 125 (length b) (room_for 64 (length d) (hall_refusal bs)) (omega (arith, size)) ∙ room_enough 64 (length d) (hall_refusal bs) (omega (arith, room))

    pub cuts_fine : (c : List ℕ) {p : PlannedCuts} → First (hall_in bs) c → CutsReply (Ok p) → CutsListed lent (hall_in bs) c p.cuts p.levels y d w
    unfolding CutsSays answered figure refusal
    cuts_fine c {p} first says = cuts_listed (hall_in bs) c p.cuts p.levels first d w lent b y says.1

-- cuts and levels as they stand in the lists
module _ {h : Hall} {c : List ℕ} {q l : ℕ} {y : List Cut} {d w : List ℤ} (s : CutsListed lent h c q l y d w) where
  cuts_are : cuts_of (take q y) ≡ s.cuts
  cuts_are = ap cuts_of s.listed ∙ cuts-lent s.cuts

  levels-length : length (levels h s.cuts) ≡ h.n
  unfolding levels
  levels-length = levels_size s.cuts h.n 1

  pub levels_fit : l ≤ length w
  levels_fit = front_fits (levels h s.cuts) d w l (s.leveled ∙ sym levels-length) s.levels_are

  levels_are : take l w ≡ levels h s.cuts
  levels_are = front_are (levels h s.cuts) d w l (s.leveled ∙ sym levels-length) s.levels_are

-- what the two replies for one file leave can be printed, and what is printed is the plan
module _ {h : Hall} {k t q l : ℕ} {x : List ℕ} {y : List Cut} {d w : List ℤ} {hall : HallRecord}
    (r : ChoiceListed h k t x) (s : CutsListed lent h (take k x) q l y d w) (is : RecordOf h hall) where
  same_hall : {g : Hall} → g ≡ hall_of hall → g ≡ h
  same_hall of = of ∙ hall_of_record h hall is

  pub printable : (drawn : Drawn) → hall_drawn drawn ≡ hall_of hall → Printable drawn (take k x) (take q y) (take l w)
  unfolding most_cuts
  printable drawn of =
      let same : hall_drawn drawn ≡ h = same_hall of in
      record {
        junctions = omega (arith, drawn_junctions drawn, ap (λ (g : Hall). g.n) same, is.junctions, hall.lanes.ends.size);
        few = omega (arith, drawn_count drawn, ap count same, is.rows, hall.lanes.ends.few);
        choice = rw same r.first.choice;
        cuts = omega (arith, ap length s.listed, length-map s.cuts lent, s.beside.few, is.junctions, hall.lanes.ends.size);
        leveled = omega (arith, ap length (levels_are s), levels-length s, is.junctions, hall.lanes.ends.size);
      }

  pub printed : {g : Hall} → g ≡ hall_of hall → {text : List ℕ} → text ≡ printed_plan g (take k x) t (cuts_of (take q y)) (take l w) → PlanPrinted h text
  unfolding PlanPrinted
  printed of is_text = (take k x, s.cuts, r.first, s.beside, rw (same_hall of, r.sum, cuts_are s, levels_are s) at is_text)

-- the list is the report where there is one, and the line of the refusal where there is none
module _ (bs : List ℕ) where
  report_list : (f : Refusal) (h : Hall) (text : List ℕ) → f.number ≡ 0 → PlanPrinted h text → ReportAs f.number f h text
  unfolding ReportAs
  report_list f h text none printed = rw none printed

  -- the list is refused, or printed
  pub list_refused : {A : Type 0} {r : Result A Kind} {k : Kind} {text : List ℕ} → r ≡ Err k → refusal_of k ≡ hall_refusal bs → ListSays bs r text
  unfolding answered
  list_refused {A} {r} {k} {text} e is = let s : ListSays {A = A} bs (Err k) text = record { refusal = is; list = tt } in rw e s

  pub report_planned : {A : Type 0} {r : Result A Kind} {a : A} {text : List ℕ} → r ≡ Ok a → ListSays bs r text → ReportSays bs text
  unfolding ReportSays refusal
  report_planned {A} {r} {a} {text} e says =
      let s : ListSays bs (Ok a) text = rw e at says in
      report_list (hall_refusal bs) (hall_in bs) text (ap (λ (f : Refusal). f.number) (answer_none a (hall_refusal bs) s.refusal)) s.list

  pub report_refused : {A : Type 0} {r : Result A Kind} {k : Kind} {before text : List ℕ} → r ≡ Err k → ListSays bs r before → text ≡ printed_refusal (refusal_of k) → ReportSays bs text
  unfolding ReportSays ReportAs answered
  report_refused {A} {r} {k} {before} {text} e says is =
      let s : ListSays {A = A} bs (Err k) before = rw e at says in
      of_refused (λ n. ReportAs n (hall_refusal bs) (hall_in bs) text) (λ n. is ∙ ap printed_refusal s.refusal) k (hall_refusal bs) s.refusal
