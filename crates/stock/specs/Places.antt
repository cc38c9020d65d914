-- A site as 2,059 numbers: stock, kits left, how many halls, 8 lengths, and 8 times 256 rows. Assumes nothing: these are definitions.
use Rattle.std.specs.Prelude.{◌≡◌, cond, List, [], ◌∷◌, ◌++◌, map, ℕ, zero, suc, ◌+◌, ◌*◌, eqb, length, get_or}
use Rattle.hall.specs.File.{Refusal}
use Rattle.stock.specs.Site.{Site, site, start_refusal, started, AdmitSays}

-- exactly n numbers from a place on, 0 where the list has no such place
unfoldable pub part : List ℕ → (from n : ℕ) → List ℕ
part xs a zero = []
part xs a (suc n) = get_or xs a 0 ∷ part xs (suc a) n

-- the plans of the next `left` halls from hall k on, counted from 0: each as long as its length says
unfoldable pub plans_in : (left k : ℕ) → List ℕ → List (List ℕ)
plans_in zero k xs = []
plans_in (suc l) k xs = part xs (11 + 256 * k) (get_or xs (3 + k) 0) ∷ plans_in l (suc k) xs

-- the site that numbers stand for, whatever they are
unfoldable pub site_in : List ℕ → Site
site_in xs = site (get_or xs 0 0) (get_or xs 1 0) (plans_in (get_or xs 2 0) 0 xs)

-- 256 places for each of the next `left` halls: the rows of its plan, then 0
unfoldable pub rows_of : (left : ℕ) → List (List ℕ) → List ℕ
rows_of zero ps = []
rows_of (suc l) [] = part [] 0 256 ++ rows_of l []
rows_of (suc l) (p ∷ ps) = part p 0 256 ++ rows_of l ps

-- a site's 2,059 numbers, 0 in places that it does not use
unfoldable pub places : Site → List ℕ
places s = s.stock ∷ s.left ∷ length s.plans ∷ (part (map length s.plans) 0 8 ++ rows_of 8 s.plans)

-- THE PLACES AFTER A START
unfoldable pub StartLeaves : (stock : ℕ) → (answered : Refusal) → (after : List ℕ) → Type 0
StartLeaves k f ys = (f ≡ start_refusal k) × (ys ≡ places (started k))

-- THE PLACES AFTER AN ADMISSION: all as they came where it is refused
unfoldable pub AdmitLeaves : (before bs : List ℕ) → (answered : Refusal) → (after : List ℕ) → Type 0
AdmitLeaves xs bs f ys = (t : Site) × AdmitSays (site_in xs) bs f t × (ys ≡ cond (eqb f.number 0) (places t) xs)

-- EVERY HISTORY OF PLACES from a start with k kits, as a caller holds them: each call is handed what the one before has left
pub data PlacesHistory (k : ℕ) : List ℕ → Type 0 where
  places_begun : (xs : List ℕ) (f : Refusal) → StartLeaves k f xs → PlacesHistory k xs
  places_let_in : (xs ys bs : List ℕ) (f : Refusal) → PlacesHistory k xs → AdmitLeaves xs bs f ys → PlacesHistory k ys
