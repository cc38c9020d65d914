-- The site that a struct stands for. Assumes nothing: these are definitions.
use Rattle.std.specs.Prelude.{◌≡◌, List, ◌∷◌, ◌++◌, map, ℕ, length}
use Rattle.stock.specs.Site.{Site}
use Rattle.stock.specs.Places.{part, site_in, rows_of}
use Rattle.site.specs.declared.Site as declared

-- the struct's 2,059 numbers
unfoldable pub numbers : declared.Site → List ℕ
numbers s = s.stock ∷ s.left ∷ s.halls ∷ (s.lengths ++ s.rows)

-- the site that it stands for, whatever its numbers
unfoldable pub site_of : declared.Site → Site
site_of s = site_in (numbers s)

-- its fields are the places of a site
pub record Holds (s : declared.Site) (t : Site) : Type 0 where
  pub stock : s.stock ≡ t.stock
  pub left : s.left ≡ t.left
  pub halls : s.halls ≡ length t.plans
  pub lengths : s.lengths ≡ part (map length t.plans) 0 8
  pub rows : s.rows ≡ rows_of 8 t.plans
