-- What `repair` starts from and keeps, and what it ends with. Assumes nothing: these are definitions.
use Rattle.std.specs.Prelude.{ℕ, Bool, false, List}
use Rattle.hall.specs.Hall.{Hall}
use Rattle.dicuts.specs.Shores.{once, Joining}
use Rattle.potentials.specs.Potential.{Under, Paid, Parted}
use Rattle.potentials.specs.Flip.{Leg, put, flipped}

-- the set of rows after the legs of a route, and without row i
unfoldable pub dropped : (i : ℕ) → List Leg → (F : ℕ → Bool) → ℕ → Bool
dropped i ls F = put i false (flipped ls F)

-- a joining set of rows and a potential with P1 and P3
pub record Repairable (h : Hall) (c p : ℕ → ℕ) (F : ℕ → Bool) : Type 0 where
  pub joining : Joining h (once F)
  pub under : Under h c p
  pub parted : Parted h (once F) p

-- and with P2: no joining set of rows costs less
pub record Repaired (h : Hall) (c p : ℕ → ℕ) (F : ℕ → Bool) : Type 0 where
  pub joining : Joining h (once F)
  pub under : Under h c p
  pub paid : Paid h c p F
  pub parted : Parted h (once F) p
