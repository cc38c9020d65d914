-- What an admission gives to the call: the site with one plan more, or the refusal. Assumes nothing: this is a definition.
use Rattle.std.specs.Prelude.{◌≡◌, true, List, ℕ, eqb, Result, IfOk}
use Rattle.hall.specs.File.{hall_in, hall_refusal}
use Rattle.hall.specs.Plan.{First}
use Rattle.refusals.specs.declared.Kind.{Kind}
use Rattle.refusals.specs.Kinds.{answered}
use Rattle.stock.specs.Site.{admit_refusal, admitted}
use Rattle.site.specs.declared.Site.{Site}
use Rattle.site.specs.Site.{site_of, Holds}

-- the plan is the first joining choice of the file
unfoldable pub Admits : Site → (bs : List ℕ) → Result Site Kind → Type 0
Admits s bs r =
    (c : List ℕ) × (eqb (hall_refusal bs).number 0 ≡ true → First (hall_in bs) c) × (answered r ≡ admit_refusal (site_of s) bs c)
    × IfOk r (λ t. Holds t (admitted (site_of s) c))
