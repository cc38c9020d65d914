-- A site: several halls on one stock of kits; how it starts, and what it is once a hall is admitted. Assumes nothing: these are definitions.
use Rattle.std.specs.Prelude.{◌≡◌, Bool, true, ◌&&◌, cond, List, [], ◌∷◌, ◌++◌, ℕ, ◌+◌, ◌-◌, ltb, leb, eqb, length, sum_by}
use Rattle.laws.specs.Lists.{all_in}
use Rattle.hall.specs.Hall.{ascends_from}
use Rattle.hall.specs.File.{Refusal, refusal, or_else, hall_in, hall_refusal}
use Rattle.hall.specs.Plan.{First}

-- A SITE: the stock that it started with, the kits left, and the plans of its halls, each a list of rows, in the order of admission
pub record Site : Type 0 where
  pub stock : ℕ
  pub left : ℕ
  pub plans : List (List ℕ)

-- a site from its stock, kits left and plans
unfoldable pub site : (stock left : ℕ) → List (List ℕ) → Site
site s l ps = record { stock = s; left = l; plans = ps }

-- how many rows the listed plans open
unfoldable pub opened_rows : List (List ℕ) → ℕ
opened_rows ps = sum_by length ps

-- each is a strictly ascending list of numbers from 1 to 256
unfoldable pub all_plans : List (List ℕ) → Bool
all_plans ps = all_in (ascends_from 1 256) ps

-- SOUND: a stock of at most 2,048 and at most 8 plans, and the kits left are the stock less the opened rows
unfoldable pub sound : Site → Bool
sound s = (leb s.stock 2048 && leb (length s.plans) 8) && (all_plans s.plans && eqb (s.left + opened_rows s.plans) s.stock)

-- 12 for a site that is not sound
unfoldable pub site_refusal : Site → Refusal
site_refusal s = cond (sound s) (refusal 0 0) (refusal 12 0)

-- A START: 12 for a stock over 2,048
unfoldable pub start_refusal : (stock : ℕ) → Refusal
start_refusal k = cond (leb k 2048) (refusal 0 0) (refusal 12 0)

-- the site that starts, of stock 0 where the start is refused
unfoldable pub started : (stock : ℕ) → Site
started k = cond (leb k 2048) (site k k []) (site 0 0 [])

-- AN ADMISSION of a file whose plan is c: 12, the hall's refusals, 13 for a ninth hall, 14 for a plan of more rows than kits are left
unfoldable pub admit_refusal : Site → (bs : List ℕ) → (plan : List ℕ) → Refusal
admit_refusal s bs c =
    or_else (site_refusal s) (or_else (hall_refusal bs)
    (cond (leb 8 (length s.plans)) (refusal 13 0) (cond (ltb s.left (length c)) (refusal 14 0) (refusal 0 0))))

-- the site with one plan more, at the end, and a kit less for each of its rows
unfoldable pub admitted : Site → (plan : List ℕ) → Site
admitted s c = site s.stock (s.left - length c) (s.plans ++ c ∷ [])

-- what an admission answers and the site after it: the plan is the first joining choice of the file, and a refusal leaves the site as it is
unfoldable pub AdmitSays : Site → (bs : List ℕ) → (answered : Refusal) → Site → Type 0
AdmitSays s bs f t =
    (c : List ℕ) × (eqb (hall_refusal bs).number 0 ≡ true → First (hall_in bs) c) × (f ≡ admit_refusal s bs c)
    × (t ≡ cond (eqb f.number 0) (admitted s c) s)

-- EVERY HISTORY from a start with k kits: admissions, refused or not
pub data History (k : ℕ) : Site → Type 0 where
  begun : History k (started k)
  let_in : (s t : Site) (bs : List ℕ) (f : Refusal) → History k s → AdmitSays s bs f t → History k t
