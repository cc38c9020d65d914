-- The unfixed rows of an accepted hall join, so the statements of specs/Promise.antt hold. Assumes nothing.
use mathlib.Core.Path.{◌≡◌}
use mathlib.Core.Bool.{true}
use mathlib.Core.List.{List}
use Prim.Native.Nat.{ℕ}
use Rattle.hall.specs.Hall.{Hall}
use Rattle.hall.specs.File.{hall_in}
use Rattle.hall.specs.Plan.{First}
use Rattle.dicuts.specs.Shores.{Ranged, unfixed_row}
use Rattle.dicuts.specs.Listed.{listed}
use Rattle.dicuts.proofs.Listed.{listed_choice}
use Rattle.dicuts.proofs.Unfixed.{unfixed_none}
use Rattle.joining.specs.Promise.{accepted}
use Rattle.joining.proofs.Joins.{listed-joins}
use Rattle.joining.proofs.Openable.{openable_joining}
use Rattle.joining.proofs.Accepted.{accepted_sound, accepted_ranged, accepted-openable}
use Rattle.order.specs.Ranked.{Plannable}
use Rattle.order.specs.Promise.{FirstThere, FirstAlone}
use Rattle.order.proofs.First.{first_there as there_is, first_alone as no_other}

pub accepted_plannable : (bs : List ℕ) → accepted bs ≡ true → Plannable (hall_in bs)
accepted_plannable bs acc =
    let sound = accepted_sound bs acc in
    record { few = sound.rows_few; low = sound.price; joining = openable_joining (hall_in bs) (accepted-openable bs acc) }

-- a plannable hall has a first choice: the rows that are not fixed join, so some choice does
pub plannable_first : (h : Hall) → Ranged h → Plannable h → (c : List ℕ) × First h c
plannable_first h ranged able = there_is h (listed h (unfixed_row h)) (listed_choice h (unfixed_row h) (unfixed_none h)) (listed-joins h ranged (unfixed_row h) able.joining)

pub first_there : FirstThere
unfolding FirstThere
first_there bs acc = plannable_first (hall_in bs) (accepted_ranged bs acc) (accepted_plannable bs acc)

pub first_alone : FirstAlone
unfolding FirstAlone
first_alone bs c d acc = no_other (hall_in bs) c d
