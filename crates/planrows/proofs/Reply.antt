-- With a list of full length the rows' call refuses what the hall's file does, or lists the first choice. Assumes nothing.
use mathlib.Core.Path.{◌≡◌, ◌∙◌}
use mathlib.Core.Bool.{true}
use mathlib.Core.List.{List}
use Prim.Native.Nat.{ℕ}
use native.Mathlib.Omega.{arith}
use lib.Dec.{eqb}
use lib.ListN.{length}
use Rattle.std.specs.Prelude.{Result, Ok, Err}
use Rattle.hall.specs.File.{hall_in, hall_refusal, refusal}
use Rattle.refusals.specs.declared.Kind.{Kind}
use Rattle.refusals.specs.Kinds.{refusal_of, answered, figure}
use Rattle.refusals.proofs.Numbers.{answer_fine}
use Rattle.opening.proofs.Room.{room_enough}
use Rattle.oneplan.specs.Plan.{RowsSays}
use Rattle.oneplan.proofs.Promise.{ChoiceListed, choice_listed}
use Rattle.planrows.specs.declared.PlannedRows.{PlannedRows}
use Rattle.planrows.proofs.Rows.{Says}

module _ (bs a x : List ℕ) where
  module _ (size : length a ≡ 256) where
    rows_answer : (r : Result PlannedRows Kind) → Says bs a r x → answered r ≡ hall_refusal bs
    unfolding RowsSays
    rows_answer r says = says.0 ∙ room_enough 256 (length a) (hall_refusal bs) (omega (arith, size))

    pub rows_refused : (k : Kind) → Says bs a (Err k) x → refusal_of k ≡ hall_refusal bs
    unfolding answered
    rows_refused k says = rows_answer (Err k) says

    pub rows_unrefused : (p : PlannedRows) → Says bs a (Ok p) x → eqb (hall_refusal bs).number 0 ≡ true
    rows_unrefused p says = answer_fine p (hall_refusal bs) (rows_answer (Ok p) says)

  pub rows_fine : {p : PlannedRows} → Says bs a (Ok p) x → ChoiceListed (hall_in bs) p.chosen p.total x
  unfolding RowsSays answered figure refusal
  rows_fine {p} says = choice_listed (hall_in bs) p.chosen p.total a x says.1
