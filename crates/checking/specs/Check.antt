-- What the check answers. Assumes nothing: this is a definition.
use Rattle.std.specs.Prelude.{List, ℕ, Result}
use Rattle.hall.specs.Hall.{missed}
use Rattle.hall.specs.File.{hall_in}
use Rattle.refusals.specs.declared.Kind.{Kind}
use Rattle.opening.specs.Choice.{choice_refusal}
use Rattle.answers.specs.declared.Finding.{Finding}
use Rattle.answers.specs.Answers.{told, missing}

-- THE CHECK
unfoldable pub CheckSays : (bs c : List ℕ) → Result Finding Kind → Type 0
CheckSays bs c r = told (choice_refusal bs c) (missing (missed (hall_in bs) c)) r
