-- What holds while a robust set grows. Assumes nothing: these are definitions.
use Rattle.std.specs.Prelude.{◌≡◌, Bool, true, false, ◌&&◌, ◌||◌, not, ℕ, suc, ◌≤◌}
use Rattle.laws.specs.Finite.{count_below}
use Rattle.junctions.specs.Sets.{holds, Within}
use Rattle.growth.specs.Robust.{Robust}

-- every junction of the set is robust from v
abbrev pub AllRobust : (out solids : ℕ → ℕ) → (v set : ℕ) → Type 0
AllRobust out solids v set = (u : ℕ) → 1 ≤ u → holds set u ≡ true → Robust out solids v u

-- what is known of each junction holds robust junctions only
abbrev pub Known : (out solids near : ℕ → ℕ) → Type 0
Known out solids near = (x : ℕ) → 1 ≤ x → x ≤ 64 → AllRobust out solids x (near x)

-- junction x is in the set, and not to do
abbrev pub done : (set todo x : ℕ) → Bool
done set todo x = holds set x && not (holds todo x)

-- how many of n junctions are not in the set, or to do
unfoldable pub unexpanded : (n set todo : ℕ) → ℕ
unexpanded n set todo = count_below n (λ k. not (holds set (suc k)) || holds todo (suc k))

-- A SET THAT GROWS: its junctions are robust from v, of which the set holds the arcs that are solid; `once` has all that the
-- done junctions have arcs to, and what of that is outside the set has one such arc only
pub record Growing (out solids : ℕ → ℕ) (v set todo once : ℕ) : Type 0 where
  pub robust : AllRobust out solids v set
  pub own : holds set v ≡ true
  pub pending : Within todo set
  pub solid_in : (x y : ℕ) → 1 ≤ x → x ≤ 64 → 1 ≤ y → done set todo x ≡ true → holds (out x) y ≡ true → holds (solids x) y ≡ true → holds set y ≡ true
  pub onto : (x y : ℕ) → 1 ≤ x → x ≤ 64 → 1 ≤ y → done set todo x ≡ true → holds (out x) y ≡ true → holds once y ≡ true
  pub from : (y : ℕ) → 1 ≤ y → holds once y ≡ true → (x : ℕ) × (1 ≤ x) × (x ≤ 64) × (done set todo x ≡ true) × (holds (out x) y ≡ true)
  pub lone : (x z y : ℕ) → 1 ≤ x → x ≤ 64 → 1 ≤ z → z ≤ 64 → 1 ≤ y → done set todo x ≡ true → done set todo z ≡ true →
      holds (out x) y ≡ true → holds (out z) y ≡ true → holds set y ≡ false → x ≡ z

-- Y LIES ON from h over junctions that pass: every set that holds h, and with a junction that passes all its arcs lead to, holds y
abbrev pub Leads : (out : ℕ → ℕ) → (pass : ℕ → Bool) → (h y : ℕ) → Type 0
Leads out pass h y =
    (t : ℕ) → holds t h ≡ true → ((x : ℕ) → 1 ≤ x → x ≤ 64 → pass x ≡ true → holds t x ≡ true → Within (out x) t) → holds t y ≡ true

-- x is in neither of two sets
abbrev pub apart : (set other x : ℕ) → Bool
apart set other x = not (holds set x || holds other x)

-- TWO SEARCHES MEET in y: one head leads to it over other junctions only, a second head over junctions apart from these and from the set
pub record Met (out : ℕ → ℕ) (set heads y : ℕ) : Type 0 where
  pub first : ℕ
  pub second : ℕ
  pub other : ℕ
  pub first_low : 1 ≤ first
  pub second_low : 1 ≤ second
  pub two : (first ≡ second → ⊥)
  pub first_head : holds heads first ≡ true
  pub second_head : holds heads second ≡ true
  pub beside : (x : ℕ) → 1 ≤ x → holds other x ≡ true → holds set x ≡ false
  pub by_first : Leads out (holds other) first y
  pub by_second : Leads out (apart set other) second y

-- A PART of what is reached beside the set: it has one head, and no arc leads from it to the rest, or back
pub record SearchPart (out : ℕ → ℕ) (set heads all part h : ℕ) : Type 0 where
  pub low : 1 ≤ h
  pub head : holds heads h ≡ true
  pub here : holds part h ≡ true
  pub sole : (k : ℕ) → 1 ≤ k → holds heads k ≡ true → holds part k ≡ true → k ≡ h
  pub shut : (x y : ℕ) → 1 ≤ x → x ≤ 64 → 1 ≤ y → holds part x ≡ true → holds (out x) y ≡ true → holds set y ≡ false → holds part y ≡ true
  pub rest : (x y : ℕ) → 1 ≤ x → x ≤ 64 → 1 ≤ y → holds all x ≡ true → holds part x ≡ false → holds (out x) y ≡ true → holds set y ≡ false →
      (holds all y ≡ true) × (holds part y ≡ false)

-- the heads lead to parts that keep apart, and all of these lie beside the set
pub record KeptApart (out : ℕ → ℕ) (set heads all : ℕ) : Type 0 where
  pub heads_in : Within heads all
  pub beside : (y : ℕ) → 1 ≤ y → holds all y ≡ true → holds set y ≡ false
  pub parts : (y : ℕ) → 1 ≤ y → holds all y ≡ true → (part : ℕ) × (h : ℕ) × (holds part y ≡ true) × SearchPart out set heads all part h

-- where the searches from the heads meet, or that they keep apart
pub record Meeting (out : ℕ → ℕ) (set heads r : ℕ) : Type 0 where
  pub met : (y : ℕ) → 1 ≤ y → holds r y ≡ true → (holds set y ≡ false) × Met out set heads y
  pub none : r ≡ 0 → (all : ℕ) × KeptApart out set heads all
