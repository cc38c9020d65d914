-- What opening a hall for a choice gives. Assumes nothing: these are definitions.
use Rattle.std.specs.Prelude.{◌≡◌, List, ℕ, ◌≤◌, Result, IfOk}
use Rattle.hall.specs.Hall.{count, member}
use Rattle.hall.specs.File.{hall_in}
use Rattle.columns.specs.Columns.{flagged}
use Rattle.refusals.specs.declared.Kind.{Kind}
use Rattle.refusals.specs.Kinds.{answered}
use Rattle.hallfile.specs.Record.{RecordOf}
use Rattle.opening.specs.declared.Opened.{Opened}
use Rattle.opening.specs.Choice.{choice_refusal}

-- the first refusal of 2 to 9, 15 and 10, or where there is none the hall's record and the flags of the choice
pub record Opening (bs c : List ℕ) (r : Result Opened Kind) : Type 0 where
  pub refusal : answered r ≡ choice_refusal bs c
  pub hall : IfOk r (λ o. RecordOf (hall_in bs) o.hall)
  pub flags : IfOk r (λ o. (i : ℕ) → 1 ≤ i → i ≤ count (hall_in bs) → flagged o.chosen i ≡ member i c)
