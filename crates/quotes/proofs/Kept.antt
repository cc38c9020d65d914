-- A choice that goes before another in one hall does so in a second hall too, if from the one to the other its total grows by no more. Assumes nothing.
use mathlib.Core.Path.{◌≡◌}
use mathlib.Core.Bool.{true}
use mathlib.Core.List.{List}
use Prim.Native.Nat.{ℕ, ◌+◌, ◌≤◌}
use native.Mathlib.Omega.{arith}
use Rattle.hall.specs.Hall.{Hall}
use Rattle.hall.specs.Plan.{total, goes_before}
use Rattle.order.specs.Precedes.{Precedes, by_total, by_length, by_dictionary}
use Rattle.order.proofs.Before.{before_of, before_why, cheaper_or_tied}

module _ (h g : Hall) (c e : List ℕ) (less : total g c + total h e ≤ total g e + total h c) where
  precedes_kept : Precedes h c e → Precedes g c e
  precedes_kept (by_total l) = by_total (omega arith)
  precedes_kept (by_length q l) = cheaper_or_tied g c e (omega arith) (λ r. by_length r l)
  precedes_kept (by_dictionary q l t) = cheaper_or_tied g c e (omega arith) (λ r. by_dictionary r l t)

  pub before_kept : goes_before h c e ≡ true → goes_before g c e ≡ true
  before_kept t = before_of g c e (precedes_kept (before_why h c e t))
