-- The statements of specs/Promise.antt, proved. Assumes nothing.
use Rattle.hall.specs.Hall.{count}
use Rattle.hall.specs.File.{hall_in}
use Rattle.joining.proofs.Accepted.{accepted_ranged}
use Rattle.duality.specs.Promise.{CutsShow, LoadsTight, CutsOnce, LevelsDiffer}
use Rattle.duality.proofs.Beside.{beside_least, beside_loads, beside_once, beside_rises}
use Rattle.duality.proofs.Meeting.{joins_meeting}

pub cuts_show : CutsShow
unfolding CutsShow
cuts_show bs c d ks acc beside choice joining =
    beside_least (hall_in bs) c ks beside d choice (joins_meeting (hall_in bs) (accepted_ranged bs acc) d choice joining)

pub loads_tight : LoadsTight
unfolding LoadsTight
loads_tight bs c ks i acc first beside e =
    beside_loads (hall_in bs) c ks beside first.choice (joins_meeting (hall_in bs) (accepted_ranged bs acc) c first.choice first.joining) i e

pub cuts-once : CutsOnce
unfolding CutsOnce
cuts-once bs c ks k none acc first beside =
    beside_once (hall_in bs) c ks beside first.choice (joins_meeting (hall_in bs) (accepted_ranged bs acc) c first.choice first.joining) k none

pub levels_differ : LevelsDiffer
unfolding LevelsDiffer count
levels_differ bs c ks i acc beside = beside_rises (hall_in bs) c ks beside i
