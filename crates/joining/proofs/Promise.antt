-- The statements of specs/Promise.antt, proved. Assumes nothing.
use mathlib.Core.Path.{sym, ap, ◌∙◌}
use Rattle.laws.proofs.Booleans.{by_bool}
use Rattle.hall.specs.Hall.{count, reached}
use Rattle.hall.specs.File.{hall_in, all_numbers, Refusal, refusal, connected}
use Rattle.joining.specs.Promise.{JoinsExactly, MissedCut, UnjoinedExactly, FixedExactly}
use Rattle.joining.proofs.Sound.{sound_ranged, sound_unconnected, sound_unopenable}
use Rattle.joining.proofs.Joins.{joins_meets, missed_shore}
use Rattle.joining.proofs.Connected.{unconnected_split, split_unconnected}
use Rattle.joining.proofs.Openable.{unopenable_fixed, fixed_unopenable}
use Rattle.joining.proofs.Accepted.{accepted_ranged, nine_unconnected, fifteen_unopenable}

pub joins_exactly : JoinsExactly
unfolding JoinsExactly
joins_exactly bs c acc ch =
    let same = joins_meets (hall_in bs) (accepted_ranged bs acc) c ch in
    (λ e. sym same ∙ e, λ e. same ∙ e)

pub missed-cut : MissedCut
unfolding MissedCut
missed-cut bs c s acc ch e = missed_shore (hall_in bs) (accepted_ranged bs acc) c s ch e

-- the set is what junction 1 reaches, directions ignored
pub unjoined_exactly : UnjoinedExactly
unfolding UnjoinedExactly refusal
unjoined_exactly bs g =
    let h = hall_in bs in
    let rg = sound_ranged bs g in
    (λ e. (reached h (all_numbers (count h) 1) 1, unconnected_split h rg (nine_unconnected bs g (ap (λ (x : Refusal). x.number) e))), λ s w. sound_unconnected bs g (split_unconnected h rg s w))

-- the cut is what the unfixed rows miss
pub fixed_exactly : FixedExactly
unfolding FixedExactly refusal
fixed_exactly bs g joined =
    let h = hall_in bs in (
      λ e. unopenable_fixed h (sound_ranged bs g) (fifteen_unopenable bs g (ap (λ (x : Refusal). x.number) e)),
      λ s w. by_bool (connected h) (λ c. sound_unopenable bs g c (fixed_unopenable h s w)) (λ c. absurd (joined (sound_unconnected bs g c))),
    )
