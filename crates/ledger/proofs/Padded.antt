-- Columns before any place is filled, and what bounds them. Assumes nothing.
use mathlib.Core.List.{List}
use Prim.Native.Nat.{ℕ, ◌<◌}
use native.Mathlib.Omega.{arith}
use lib.ListN.{get_or, replicate, length-replicate}
use lib.Dec.{ltb}
use borrow.Author.Tests.{ltb-true, ltb-false}
use Rattle.laws.proofs.Booleans.{by_bool}
use Rattle.laws.proofs.Lists.{replicate-at}
use Rattle.ledger.specs.Padded.{Padded}

module _ (size : ℕ) (f : ℕ → ℕ) where
  pub padded_none : Padded size f 0 (replicate size 0)
  padded_none = record { long = length-replicate {A = ℕ} size 0; first = λ i l. absurd (omega arith); rest = λ i l. replicate-at {A = ℕ} size i 0 }

  -- a bound on what the places are at is a bound on all
  pub padded_low : (k : ℕ) (column : List ℕ) (most : ℕ) → Padded size f k column → ((i : ℕ) → i < k → f i < most) → 0 < most → (i : ℕ) → get_or column i 0 < most
  padded_low k column most g low some i =
      by_bool (ltb i k) (λ t. let l = ltb-true i k t in omega (arith, g.first i l, low i l)) (λ t. omega (arith, g.rest i (ltb-false i k t)))
