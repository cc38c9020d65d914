-- What is promised of the cuts beside a plan: the first joining choice has some. The statement is a type; proofs/Promise.antt proves it. Assumes nothing.
use Rattle.std.specs.Prelude.{◌≡◌, true, List, ℕ}
use Rattle.hall.specs.File.{hall_in}
use Rattle.hall.specs.Plan.{First, Cut, Beside}
use Rattle.joining.specs.Promise.{accepted}

-- beside the first joining choice of an accepted hall stand cuts
unfoldable pub CutsThere : Type 0
CutsThere = (bs c : List ℕ) → accepted bs ≡ true → First (hall_in bs) c → (ks : List Cut) × Beside (hall_in bs) c ks
