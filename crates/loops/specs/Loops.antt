-- What is promised of loops, rows from a junction to itself. Each statement is a type; proofs/Promise.antt proves it. Assumes nothing.
use Rattle.std.specs.Prelude.{◌≡◌, true, false, cond, List, [], ◌∷◌, ℕ, ◌≤◌, eqb}
use Rattle.hall.specs.Hall.{row, count, enters, leaves, is_choice, member, missed, tight_around}
use Rattle.hall.specs.File.{hall_in}
use Rattle.hall.specs.Plan.{First}
use Rattle.joining.specs.Promise.{accepted}

-- no plan opens a loop
unfoldable pub LoopsClosed : Type 0
LoopsClosed =
    (bs c : List ℕ) (i : ℕ) → accepted bs ≡ true → First (hall_in bs) c → member i c ≡ true →
    (row (hall_in bs) i).from ≡ (row (hall_in bs) i).to → ⊥

-- the list without i
unfoldable pub left_out : (i : ℕ) → List ℕ → List ℕ
left_out i [] = []
left_out i (x ∷ xs) = cond (eqb x i) (left_out i xs) (x ∷ left_out i xs)

-- a loop enters no shore and leaves none, and in a choice it makes no difference to the check or to a tight neighbourhood
unfoldable pub LoopsIdle : Type 0
LoopsIdle =
    (bs c : List ℕ) (i s j : ℕ) → accepted bs ≡ true → 1 ≤ i → i ≤ count (hall_in bs) → (row (hall_in bs) i).from ≡ (row (hall_in bs) i).to →
    (enters s (row (hall_in bs) i) ≡ false) × (leaves s (row (hall_in bs) i) ≡ false)
    × (missed (hall_in bs) c ≡ missed (hall_in bs) (left_out i c)) × (tight_around (hall_in bs) c j ≡ tight_around (hall_in bs) (left_out i c) j)

-- and without it the choice is still a choice, so that both calls answer for it
unfoldable pub LeftOutChoice : Type 0
LeftOutChoice = (bs c : List ℕ) (i : ℕ) → is_choice (hall_in bs) c ≡ true → is_choice (hall_in bs) (left_out i c) ≡ true
