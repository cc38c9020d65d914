-- What the columns beside a plan say: links, tight neighbourhoods and a potential of a hall and a joining set of rows. Assumes nothing: these are definitions.
use Rattle.std.specs.Prelude.{◌≡◌, Bool, true, List, ℕ}
use Rattle.laws.specs.Lists.{at}
use Rattle.hall.specs.Hall.{Hall}
use Rattle.dicuts.specs.Shores.{Ranged, Linked, Joining, once}
use Rattle.potentials.specs.Potential.{Parted}
use Rattle.columns.specs.Columns.{Arcs, Neighbourhoods}
use Rattle.cuts.specs.Thresholds.{UnderTop}

-- the highest potential: 256 rows at a price of 1,000,000 each
abbrev pub highest : ℕ
highest = 256000000

-- the columns are those of the hall, the rows F and a potential that meets P3
pub record BesideRows (h : Hall) (F : ℕ → Bool) (n : ℕ) (links around potential : List ℕ) : Type 0 where
  pub junctions : h.n ≡ n
  pub ranged : Ranged h
  pub linked : Linked h
  pub joining : Joining h (once F)
  pub parted : Parted h (once F) (at potential)
  pub links_are : Arcs h (λ i. true) links
  pub around_are : Neighbourhoods h F around
  pub low : UnderTop n (at potential) highest
