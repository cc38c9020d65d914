-- The text of a report: the printed plan, or the printed refusal. Assumes nothing: these are definitions.
use Rattle.std.specs.Prelude.{◌≡◌, List, ℕ, zero, suc, Result, IfOk}
use Rattle.hall.specs.Hall.{Hall}
use Rattle.hall.specs.File.{Refusal, hall_in, hall_refusal}
use Rattle.hall.specs.Plan.{First, Beside, Cut, total, levels}
use Rattle.refusals.specs.declared.Kind.{Kind}
use Rattle.refusals.specs.Kinds.{answered}
use Rattle.printing.specs.Printed.{printed_plan, printed_refusal}

-- the list of the first joining choice with cuts beside it
unfoldable pub PlanPrinted : Hall → (text : List ℕ) → Type 0
PlanPrinted h text = (c : List ℕ) × (ks : List Cut) × First h c × Beside h c ks × (text ≡ printed_plan h c (total h c) ks (levels h ks))

-- a refusal's line, or the list of the first joining choice
unfoldable pub ReportAs : (number : ℕ) → Refusal → Hall → (text : List ℕ) → Type 0
ReportAs zero f h text = PlanPrinted h text
ReportAs (suc n) f h text = text ≡ printed_refusal f

-- THE REPORT of a file
unfoldable pub ReportSays : (bs text : List ℕ) → Type 0
ReportSays bs text = ReportAs (hall_refusal bs).number (hall_refusal bs) (hall_in bs) text

-- THE LIST of a file, where nothing refuses it: what the text holds then
pub record ListSays {A : Type 0} (bs : List ℕ) (r : Result A Kind) (text : List ℕ) : Type 0 where
  pub refusal : answered r ≡ hall_refusal bs
  pub list : IfOk r (λ _. PlanPrinted (hall_in bs) text)
