-- The statement of specs/Promise.antt, proved: repair gives a potential for the charges, and its cuts stand beside the first choice. Assumes nothing.
use Rattle.hall.specs.File.{hall_in}
use Rattle.joining.proofs.Accepted.{accepted_ranged, accepted_linked}
use Rattle.potentials.proofs.Repair.{repaired_there}
use Rattle.order.specs.Ranked.{charge}
use Rattle.order.proofs.Promise.{accepted_plannable}
use Rattle.certificates.specs.Promise.{CutsThere}
use Rattle.certificates.proofs.First.{beside_first_there}

pub cuts_there : CutsThere
unfolding CutsThere
cuts_there bs c acc first =
    let h = hall_in bs in
    let ranged = accepted_ranged bs acc in
    let linked = accepted_linked bs acc in
    let w = repaired_there h ranged (charge h) linked in
    beside_first_there h (accepted_plannable bs acc) ranged linked c first w.0 w.1 w.2
