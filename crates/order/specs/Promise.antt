-- What is promised of the plan's choice: there is one that goes before every other joining choice, and only one. Each statement is a type; proofs/Promise.antt proves it. Assumes nothing.
use Rattle.std.specs.Prelude.{◌≡◌, true, List, ℕ}
use Rattle.hall.specs.File.{hall_in}
use Rattle.hall.specs.Plan.{First}
use Rattle.joining.specs.Promise.{accepted}

-- an accepted hall has a first joining choice
unfoldable pub FirstThere : Type 0
FirstThere = (bs : List ℕ) → accepted bs ≡ true → (c : List ℕ) × First (hall_in bs) c

-- and just one
unfoldable pub FirstAlone : Type 0
FirstAlone = (bs c d : List ℕ) → accepted bs ≡ true → First (hall_in bs) c → First (hall_in bs) d → c ≡ d
