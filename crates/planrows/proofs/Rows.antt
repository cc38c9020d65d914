-- Each reply of the rows' call says what `RowsSays` asks. Assumes nothing.
use mathlib.Core.Path.{◌≡◌, refl, sym, ◌∙◌}
use mathlib.Core.Bool.{Bool, false, cond}
use mathlib.Core.List.{List, ◌++◌}
use Prim.Native.Nat.{ℕ, ◌<◌, ◌≤◌}
use lib.ListN.{length, get_or, drop}
use Rattle.std.specs.Prelude.{Result, Ok, Err}
use Rattle.laws.specs.Lists.{in_front}
use Rattle.laws.specs.Finite.{sum_below}
use Rattle.hall.specs.Hall.{Hall}
use Rattle.hall.specs.File.{hall_in, hall_refusal, refusal}
use Rattle.hall.specs.Plan.{First}
use Rattle.refusals.specs.declared.Kind.{Kind}
use Rattle.refusals.specs.declared.Kind.TheVariants.{ListShort}
use Rattle.refusals.specs.Kinds.{refusal_of, answered, figure}
use Rattle.opening.specs.Choice.{room_for}
use Rattle.opening.proofs.Refused.{of_refused}
use Rattle.opening.proofs.Room.{room_short, room_enough}
use Rattle.dicuts.specs.Listed.{listed}
use Rattle.columns.specs.Columns.{flagged}
use Rattle.hallfile.specs.declared.record.HallRecord.{HallRecord}
use Rattle.ledger.proofs.Choices.{flagged-total}
use Rattle.oneplan.specs.Plan.{RowsAs, RowsSays}
use Rattle.plan.specs.Ready.{Accepted}
use Rattle.planrows.specs.declared.PlannedRows.{PlannedRows}

-- the first choice, from what was listed and summed
pub rows_as : (h : Hall) (x : HallRecord) → Accepted h x → (first : List Bool) → First h (listed h (flagged first)) → (a y : List ℕ) (k t : ℕ)
    → (y ≡ listed h (flagged first) ++ drop (length (listed h (flagged first))) a) × (k ≡ length (listed h (flagged first)))
    → t ≡ sum_below x.lanes.count (λ i. cond (get_or first i false) (get_or x.prices i 0) 0) → RowsAs 0 h k t a y
unfolding RowsAs in_front
rows_as h x rd first is_first a y k t rows sum =
    (listed h (flagged first), is_first, rows.1, sum ∙ flagged-total h x.lanes.count x.prices first rd.columns.rows rd.price, rows.0)

module _ (bs a : List ℕ) where
  -- what the call says of a reply
  abbrev pub Says : Result PlannedRows Kind → (x : List ℕ) → Type 0
  Says r x = RowsSays bs (answered r) (figure (λ (p : PlannedRows). p.chosen) r) (figure (λ (p : PlannedRows). p.total) r) a x

  says_err : (k : Kind) → refusal_of k ≡ room_for 256 (length a) (hall_refusal bs) → Says (Err k) a
  unfolding RowsSays RowsAs answered figure
  says_err k e = (e, of_refused (λ n. RowsAs n (hall_in bs) 0 0 a a) (λ n. (refl, refl, refl)) k (refusal_of k) refl)

  pub says_short : length a < 256 → Says (Err ListShort) a
  unfolding refusal_of
  says_short short = says_err ListShort (sym (room_short 256 (length a) (hall_refusal bs) short))

  module _ (room : 256 ≤ length a) where
    past_room : room_for 256 (length a) (hall_refusal bs) ≡ hall_refusal bs
    past_room = room_enough 256 (length a) (hall_refusal bs) room

    pub says_refused : (k : Kind) → refusal_of k ≡ hall_refusal bs → Says (Err k) a
    says_refused k e = says_err k (e ∙ sym past_room)

    pub says_rows : refusal 0 0 ≡ hall_refusal bs → (r : PlannedRows) (x : List ℕ) → RowsAs 0 (hall_in bs) r.chosen r.total a x → Says (Ok r) x
    unfolding RowsSays answered figure refusal
    says_rows fine r x rows = (fine ∙ sym past_room, rows)
