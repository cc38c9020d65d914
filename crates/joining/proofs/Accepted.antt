-- What an accepted file gives: a sound file whose hall does not fall apart and can be opened. Assumes nothing.
use mathlib.Core.Path.{◌≡◌, sym, ap, ◌∙◌}
use mathlib.Core.Bool.{true, false}
use mathlib.Core.List.{List}
use Prim.Native.Nat.{ℕ}
use native.Mathlib.Omega.{arith}
use lib.Dec.{eqb}
use borrow.Author.Tests.{eqb-true}
use Rattle.laws.proofs.Booleans.{by_bool, and_r}
use Rattle.hall.specs.File.{hall_in, Refusal, refusal, hall_refusal, connected, openable}
use Rattle.dicuts.specs.Shores.{Ranged, Linked}
use Rattle.joining.specs.Sound.{Sound}
use Rattle.joining.specs.Promise.{all_bytes, accepted}
use Rattle.joining.proofs.Sound.{other_sound, sound_ranged, sound_unconnected, sound_unopenable, sound_openable}
use Rattle.joining.proofs.Connected.{connected_linked}

module _ (bs : List ℕ) where
  -- what is left to ask of a sound file, by the refusal's number
  module _ (g : Sound bs) where
    numbered : (w : Refusal) (k : ℕ) → hall_refusal bs ≡ w → (hall_refusal bs).number ≡ k → w.number ≡ k
    numbered w k e z = sym (ap (λ (x : Refusal). x.number) e) ∙ z

    pub unrefused_walked : (hall_refusal bs).number ≡ 0 → (connected (hall_in bs) ≡ true) × (openable (hall_in bs) ≡ true)
    unfolding refusal
    unrefused_walked z =
        by_bool (connected (hall_in bs))
        (λ e.
        by_bool (openable (hall_in bs)) (λ o. (e, o)) (λ o. absurd (omega (arith, numbered (refusal 15 0) 0 (sound_unopenable bs g e o) z))))
        (λ e. absurd (omega (arith, numbered (refusal 9 0) 0 (sound_unconnected bs g e) z)))

    pub nine_unconnected : (hall_refusal bs).number ≡ 9 → connected (hall_in bs) ≡ false
    unfolding refusal
    nine_unconnected z =
        by_bool (connected (hall_in bs))
        (λ e.
        by_bool (openable (hall_in bs)) (λ o. absurd (omega (arith, numbered (refusal 0 0) 9 (sound_openable bs g e o) z)))
        (λ o. absurd (omega (arith, numbered (refusal 15 0) 9 (sound_unopenable bs g e o) z))))
        (λ e. e)

    pub fifteen_unopenable : (hall_refusal bs).number ≡ 15 → openable (hall_in bs) ≡ false
    unfolding refusal
    fifteen_unopenable z =
        by_bool (openable (hall_in bs))
        (λ o.
        by_bool (connected (hall_in bs)) (λ e. absurd (omega (arith, numbered (refusal 0 0) 15 (sound_openable bs g e o) z)))
        (λ e. absurd (omega (arith, numbered (refusal 9 0) 15 (sound_unconnected bs g e) z))))
        (λ o. o)

  module _ (acc : accepted bs ≡ true) where
    pub accepted_number : (hall_refusal bs).number ≡ 0
    unfolding accepted
    accepted_number = eqb-true (hall_refusal bs).number 0 (and_r (all_bytes bs) (eqb (hall_refusal bs).number 0) acc)

    pub accepted_sound : Sound bs
    accepted_sound = other_sound bs (λ a b. omega (arith, accepted_number))

    pub accepted_ranged : Ranged (hall_in bs)
    accepted_ranged = sound_ranged bs accepted_sound

    pub accepted_linked : Linked (hall_in bs)
    accepted_linked = connected_linked (hall_in bs) accepted_ranged (unrefused_walked accepted_sound accepted_number).0

    pub accepted-openable : openable (hall_in bs) ≡ true
    accepted-openable = (unrefused_walked accepted_sound accepted_number).1
