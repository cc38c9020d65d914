-- What a file that is not refused gives: a sound, ranged and linked hall whose unfixed rows join. Assumes nothing.
use mathlib.Core.Path.{◌≡◌}
use mathlib.Core.Bool.{true}
use mathlib.Core.List.{List}
use Prim.Native.Nat.{ℕ}
use native.Mathlib.Omega.{arith}
use lib.Dec.{eqb}
use borrow.Author.Tests.{eqb-true}
use Rattle.hall.specs.File.{hall_in, hall_refusal, connected, openable}
use Rattle.dicuts.specs.Shores.{Ranged, Linked, once, unfixed_row, Joining}
use Rattle.joining.specs.Sound.{Sound}
use Rattle.joining.proofs.Sound.{other_sound, sound_ranged}
use Rattle.joining.proofs.Accepted.{unrefused_walked}
use Rattle.joining.proofs.Connected.{connected_linked}
use Rattle.joining.proofs.Openable.{openable_joining}

module _ (bs : List ℕ) (fine : eqb (hall_refusal bs).number 0 ≡ true) where
  pub sound : Sound bs
  sound = other_sound bs (λ a b. omega (arith, eqb-true (hall_refusal bs).number 0 fine))

  pub ranged : Ranged (hall_in bs)
  ranged = sound_ranged bs sound

  walked : (connected (hall_in bs) ≡ true) × (openable (hall_in bs) ≡ true)
  walked = unrefused_walked bs sound (eqb-true (hall_refusal bs).number 0 fine)

  pub linked : Linked (hall_in bs)
  linked = connected_linked (hall_in bs) ranged walked.0

  pub unfixed_joining : Joining (hall_in bs) (once (unfixed_row (hall_in bs)))
  unfixed_joining = openable_joining (hall_in bs) walked.1
