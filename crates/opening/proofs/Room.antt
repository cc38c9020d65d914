-- What a lent list's length makes of the refusals that come after it. Assumes nothing.
use mathlib.Core.Path.{◌≡◌, ◌∙◌}
use Prim.Native.Nat.{ℕ, ◌≤◌, ◌<◌}
use lib.Dec.{ltb}
use borrow.Author.Tests.{lt-ltb, le-ltb, ltb-true, ltb-false}
use Rattle.laws.proofs.Booleans.{by_bool, cond_true, cond_false}
use Rattle.hall.specs.File.{Refusal, refusal}
use Rattle.opening.specs.Choice.{room_for}

module _ (m k : ℕ) (f : Refusal) where
  -- too short a list is refused, whatever comes after
  pub room_short : k < m → room_for m k f ≡ refusal 1 0
  unfolding room_for
  room_short l = cond_true (ltb k m) (refusal 1 0) f (lt-ltb k m l)

  -- one that is long enough lets the next refusal through
  pub room_enough : m ≤ k → room_for m k f ≡ f
  unfolding room_for
  room_enough l = cond_false (ltb k m) (refusal 1 0) f (le-ltb k m l)

  -- and where that refusal is 1 as well, it is 1 whatever the length
  pub room_first : (m ≤ k → f ≡ refusal 1 0) → room_for m k f ≡ refusal 1 0
  room_first after = by_bool (ltb k m) (λ t. room_short (ltb-true k m t)) (λ t. let fits = ltb-false k m t in room_enough fits ∙ after fits)
