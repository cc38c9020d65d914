-- Lent cuts, as the cuts beside a plan and as two lists of numbers hold them. Assumes nothing: these are definitions.
use Rattle.std.specs.Prelude.{List, [], ◌∷◌, map, ℕ}
use Rattle.hall.specs.Plan as plan
use Rattle.cutlist.specs.declared.Cut.{Cut}

-- a lent cut from its two numbers
abbrev pub lent_cut : (shore weight : ℕ) → Cut
lent_cut s w = record { shore = record { 0 = s }; weight = w }

-- a cut beside a plan, as it is lent
abbrev pub lent : plan.Cut → Cut
lent c = lent_cut c.shore c.weight

-- a lent cut, as a cut beside a plan
abbrev pub cut_of : Cut → plan.Cut
cut_of c = plan.cut c.shore.0 c.weight

-- a lent list of cuts, as cuts beside a plan
unfoldable pub cuts_of : List Cut → List plan.Cut
cuts_of cs = map cut_of cs

-- the lent cuts of a list of shores and a list of weights
unfoldable pub lent_cuts : (shores weights : List ℕ) → List Cut
lent_cuts [] ws = []
lent_cuts (s ∷ ss) [] = []
lent_cuts (s ∷ ss) (w ∷ ws) = lent_cut s w ∷ lent_cuts ss ws
