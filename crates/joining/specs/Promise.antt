-- What is promised of checks, of halls that fall apart and of halls that cannot be opened: the second demand, and 15. Each statement is a type; proofs/Promise.antt proves it. Assumes nothing.
use Rattle.std.specs.Prelude.{◌≡◌, Bool, true, ◌&&◌, List, [], ◌∷◌, ℕ, ltb, eqb}
use Rattle.std.proofs.Math.Option.{some}
use Rattle.hall.specs.Hall.{is_cut, is_choice, meets_all, joins, missed, entering}
use Rattle.hall.specs.File.{hall_in, hall_refusal, refusal}
use Rattle.joining.specs.Sound.{Sound}
use Rattle.joining.specs.Split.{Split}
use Rattle.joining.specs.Fixed.{FixedCut}

-- every number is a byte
unfoldable pub all_bytes : List ℕ → Bool
all_bytes [] = true
all_bytes (x ∷ xs) = ltb x 256 && all_bytes xs

-- AN ACCEPTED HALL: bytes that meet none of conditions 2 to 9 and 15
unfoldable pub accepted : List ℕ → Bool
accepted bs = all_bytes bs && eqb (hall_refusal bs).number 0

-- joining is meeting every directed cut
unfoldable pub JoinsExactly : Type 0
JoinsExactly =
    (bs c : List ℕ) → accepted bs ≡ true → is_choice (hall_in bs) c ≡ true →
    (joins (hall_in bs) c ≡ true → meets_all (hall_in bs) c ≡ true) × (meets_all (hall_in bs) c ≡ true → joins (hall_in bs) c ≡ true)

-- a missed shore is a directed cut that is not met
unfoldable pub MissedCut : Type 0
MissedCut =
    (bs c : List ℕ) (s : ℕ) → accepted bs ≡ true → is_choice (hall_in bs) c ≡ true → missed (hall_in bs) c ≡ some s →
    (is_cut (hall_in bs) s ≡ true) × (entering (hall_in bs) s c ≡ 0)

-- a hall that is sound in all else is refused, with 9, exactly if some set of junctions splits it
unfoldable pub UnjoinedExactly : Type 0
UnjoinedExactly =
    (bs : List ℕ) → Sound bs →
    (hall_refusal bs ≡ refusal 9 0 → (s : ℕ) × Split (hall_in bs) s) × ((s : ℕ) → Split (hall_in bs) s → hall_refusal bs ≡ refusal 9 0)

-- one that does not fall apart is refused, with 15, exactly if some directed cut has fixed rows only
unfoldable pub FixedExactly : Type 0
FixedExactly =
    (bs : List ℕ) → Sound bs → (hall_refusal bs ≡ refusal 9 0 → ⊥) →
    (hall_refusal bs ≡ refusal 15 0 → (s : ℕ) × FixedCut (hall_in bs) s) × ((s : ℕ) → FixedCut (hall_in bs) s → hall_refusal bs ≡ refusal 15 0)
