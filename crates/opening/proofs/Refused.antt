-- What holds of every number over 0 holds of a refusal's. Assumes nothing.
use mathlib.Core.Path.{◌≡◌, refl}
use mathlib.Core.Bool.{false}
use Prim.Native.Nat.{ℕ, zero, suc}
use lib.Dec.{eqb}
use Rattle.laws.proofs.Booleans.{clash}
use Rattle.hall.specs.File.{Refusal}
use Rattle.refusals.specs.declared.Kind.{Kind}
use Rattle.refusals.specs.Kinds.{refusal_of}
use Rattle.refusals.proofs.Numbers.{kind_refused}

module _ (P : ℕ → Type 0) (over : (n : ℕ) → P (suc n)) where
  of_positive : (n : ℕ) → eqb n 0 ≡ false → P n
  of_positive zero f = clash refl f
  of_positive (suc n) f = over n

  pub of_refused : (k : Kind) (w : Refusal) → refusal_of k ≡ w → P w.number
  of_refused k w e = of_positive w.number (kind_refused k w e)
