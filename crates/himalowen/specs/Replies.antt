-- What a caller in another language reads: each reply as numbers, in the order of its fields. Assumes nothing: these are definitions.
use Rattle.std.specs.Prelude.{◌≡◌, cond, List, [], ◌∷◌, ℕ, ℤ, Result}
use Rattle.hall.specs.File.{Refusal}
use Rattle.refusals.specs.declared.Kind.{Kind}
use Rattle.refusals.specs.Kinds.{answered, figure}
use Rattle.answers.specs.declared.Finding.{Finding}
use Rattle.routing.specs.declared.Way.{Way}
use Rattle.answers.specs.Answers.{outcome_of, set_of}
use Rattle.checking.specs.Check.{CheckSays}
use Rattle.neighbourhood.specs.Tight.{TightSays}
use Rattle.routing.specs.Route.{way_outcome, way_set, way_filled, RouteSays}
use Rattle.screening.specs.declared.Screened.{Screened}
use Rattle.screening.specs.Figure.{FigureSays}
use Rattle.oneplan.specs.Plan.{RowsSays, PairSays}
use Rattle.withwithout.specs.Figures.{FiguresSays}
use Rattle.stock.specs.Places.{StartLeaves, AdmitLeaves}

-- number, row, outcome, set
unfoldable pub told_places : Result Finding Kind → List ℕ
told_places t = (answered t).number ∷ (answered t).place ∷ figure outcome_of t ∷ figure set_of t ∷ []

-- number, row, outcome, set, filled
unfoldable pub routed_places : Result Way Kind → List ℕ
routed_places r =
    (answered r).number ∷ (answered r).place ∷ figure way_outcome r ∷ figure way_set r ∷ figure way_filled r ∷ []

-- number, row, over (1 or 0), read
unfoldable pub screened_places : Result Screened Kind → List ℕ
screened_places r =
    (answered r).number ∷ (answered r).place ∷ figure (λ (s : Screened). cond s.over 1 0) r ∷ figure (λ (s : Screened). s.read) r ∷ []

-- the reply's places are those of an answer of the check; its number is returned
unfoldable pub CheckLeaves : (bs c : List ℕ) → (returned : ℕ) → (reply : List ℕ) → Type 0
CheckLeaves bs c r x = (t : Result Finding Kind) × CheckSays bs c t × (x ≡ told_places t) × (r ≡ (answered t).number)

-- the same for the tight neighbourhood
unfoldable pub TightLeaves : (bs c : List ℕ) → (j returned : ℕ) → (reply : List ℕ) → Type 0
TightLeaves bs c j r x = (t : Result Finding Kind) × TightSays bs c j t × (x ≡ told_places t) × (r ≡ (answered t).number)

-- the same for the route, with the lent list before and after
unfoldable pub RouteLeaves : (bs c : List ℕ) → (a b returned : ℕ) → (reply : List ℕ) → (before after : List ℤ) → Type 0
RouteLeaves bs c a b r x old new =
    (t : Result Way Kind) × RouteSays bs c a b t old new × (x ≡ routed_places t) × (r ≡ (answered t).number)

-- the same for the figure
unfoldable pub FigureLeaves : (bs c : List ℕ) → (figure returned : ℕ) → (reply : List ℕ) → Type 0
FigureLeaves bs c f r x = (t : Result Screened Kind) × FigureSays bs c f t × (x ≡ screened_places t) × (r ≡ (answered t).number)

-- the same for the rows' call: number, row, chosen and total, with the lent list before and after
unfoldable pub RowsLeaves : List ℕ → (returned : ℕ) → (reply before after : List ℕ) → Type 0
RowsLeaves bs r v a x = (f : Refusal) × (k t : ℕ) × RowsSays bs f k t a x × (v ≡ f.number ∷ f.place ∷ k ∷ t ∷ []) × (r ≡ f.number)

-- the same for the cuts' call: number, row, cuts and levels, with the lent lists before and after
unfoldable pub PairLeaves : List ℕ → (returned : ℕ) → (reply a a_now b b_now : List ℕ) → (d d_now : List ℤ) → Type 0
PairLeaves bs r v a x b y d w = (f : Refusal) × (q l : ℕ) × PairSays bs f q l a x b y d w × (v ≡ f.number ∷ f.place ∷ q ∷ l ∷ []) × (r ≡ f.number)

-- and for the least totals with and without each row: number, row and filled, with the lent lists before and after
unfoldable pub FiguresLeaves : List ℕ → (returned : ℕ) → (reply a a_now b b_now : List ℕ) → Type 0
FiguresLeaves bs r v a x b y = (f : Refusal) × (k : ℕ) × FiguresSays bs f k a x b y × (v ≡ f.number ∷ f.place ∷ k ∷ []) × (r ≡ f.number)

-- of a site's calls the reply is number and row, and every place of the site is said: after a start
unfoldable pub SiteStartLeaves : (stock returned : ℕ) → (reply after : List ℕ) → Type 0
SiteStartLeaves k r v y = (f : Refusal) × StartLeaves k f y × (v ≡ f.number ∷ f.place ∷ []) × (r ≡ f.number)

-- and after an admission
unfoldable pub SiteAdmitLeaves : List ℕ → (returned : ℕ) → (reply before after : List ℕ) → Type 0
SiteAdmitLeaves bs r v x y = (f : Refusal) × AdmitLeaves x bs f y × (v ≡ f.number ∷ f.place ∷ []) × (r ≡ f.number)
