-- A set of rows with one left out, and what is reached without it. Assumes nothing: these are definitions.
use Rattle.std.specs.Prelude.{◌≡◌, Bool, true, ◌&&◌, not, ℕ, ◌-◌, ◌^◌, ◌≤◌, eqb}
use Rattle.digraph.specs.Reach.{Reach}
use Rattle.hall.specs.Hall.{Hall, count}
use Rattle.dicuts.specs.Arcs.{arcs}

-- the rows of F but f
unfoldable pub without : (F : ℕ → Bool) → (f i : ℕ) → Bool
without F f i = F i && not (eqb i f)

-- r is what v reaches over the rows forward and those of F but f backward
abbrev pub Spared : (h : Hall) → (F : ℕ → Bool) → (f v r : ℕ) → Type 0
Spared h F f v r = Reach h.n (arcs h (without F f)) (2 ^ (v - 1)) r

-- f is a row of F
pub record Chosen (h : Hall) (F : ℕ → Bool) (f : ℕ) : Type 0 where
  pub low : 1 ≤ f
  pub high : f ≤ count h
  pub in_it : F f ≡ true
