-- What is promised of sites over every history, and of their places. Each statement is a type; proofs/Promise.antt proves it. Assumes nothing.
use Rattle.std.specs.Prelude.{◌≡◌, true, false, List, [], ◌∷◌, ◌++◌, ℕ, ◌+◌, length}
use Rattle.hall.specs.File.{Refusal, refusal}
use Rattle.joining.specs.Promise.{all_bytes}
use Rattle.stock.specs.Site.{Site, opened_rows, sound, started, AdmitSays, History}
use Rattle.stock.specs.Places.{site_in, places, AdmitLeaves, PlacesHistory}

-- after any calls the kits left are the STARTING stock (0 where the start was refused) less the opened rows of the listed plans, and 12 never comes
unfoldable pub StockKept : Type 0
StockKept =
    (k : ℕ) (s : Site) → History k s →
    (s.stock ≡ (started k).stock) × (s.left + opened_rows s.plans ≡ (started k).stock) × (sound s ≡ true)

-- what is admitted for a file does not depend on the site
unfoldable pub PlanAlone : Type 0
PlanAlone =
    (s t u v : Site) (bs : List ℕ) (f g : Refusal) → all_bytes bs ≡ true → AdmitSays s bs f t → AdmitSays u bs g v → f.number ≡ 0 → g.number ≡ 0 →
    (c : List ℕ) × (t.plans ≡ s.plans ++ c ∷ []) × (v.plans ≡ u.plans ++ c ∷ [])

-- a sound site is read back from its places
unfoldable pub PlacesStand : Type 0
PlacesStand = (s : Site) → sound s ≡ true → (site_in (places s) ≡ s) × (length (places s) ≡ 2059)

-- what a caller holds after any calls are the places of the site that they stand for, to which such calls lead
unfoldable pub HistoryHeld : Type 0
HistoryHeld = (k : ℕ) (xs : List ℕ) → PlacesHistory k xs → History k (site_in xs) × (xs ≡ places (site_in xs))

-- numbers that stand for no sound site are refused with 12 and stay as they are, whatever the file
unfoldable pub DamagedRefused : Type 0
DamagedRefused =
    (xs bs ys : List ℕ) (f : Refusal) → sound (site_in xs) ≡ false → AdmitLeaves xs bs f ys → (f ≡ refusal 12 0) × (ys ≡ xs)

-- whatever method is inside, file and places fix the answer and every place
unfoldable pub AdmitAlone : Type 0
AdmitAlone =
    (xs bs ys zs : List ℕ) (f g : Refusal) → AdmitLeaves xs bs f ys → AdmitLeaves xs bs g zs → (f ≡ g) × (ys ≡ zs)
