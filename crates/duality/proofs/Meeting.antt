-- A joining choice meets every directed cut. Assumes nothing.
use mathlib.Core.Path.{◌≡◌}
use mathlib.Core.Bool.{true}
use mathlib.Core.List.{List}
use Prim.Native.Nat.{ℕ}
use Rattle.hall.specs.Hall.{Hall, is_choice, member, joins}
use Rattle.dicuts.specs.Shores.{Ranged, once, Joining}
use Rattle.dicuts.proofs.Choices.{entering-cover}
use Rattle.dicuts.proofs.Shores.{cut_shore}
use Rattle.joining.proofs.Joins.{joins_joining}
use Rattle.duality.specs.Weighted.{MeetsAll}

pub joining_meeting : (h : Hall) (d : List ℕ) → is_choice h d ≡ true → Joining h (once (λ i. member i d)) → MeetsAll h d
unfolding Joining MeetsAll
joining_meeting h d choice joining s e = rw (entering-cover h s d choice) (joining s (cut_shore h s e))

pub joins_meeting : (h : Hall) → Ranged h → (d : List ℕ) → is_choice h d ≡ true → joins h d ≡ true → MeetsAll h d
joins_meeting h ranged d choice e = joining_meeting h d choice (joins_joining h ranged d e)
