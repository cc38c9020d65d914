-- What the call for the least totals with and without each row answers and leaves behind, and that file and lists fix it. The statement is a type; proofs/Alone.antt proves it. Assumes nothing.
use Rattle.std.specs.Prelude.{◌≡◌, List, map, ℕ, zero, suc, ◌≤◌, length, get_or, Some, None}
use Rattle.laws.specs.Lists.{in_front}
use Rattle.hall.specs.Hall.{Hall, count}
use Rattle.hall.specs.File.{hall_in, hall_refusal, Refusal}
use Rattle.forcing.specs.Figures.{Figures, is_fixed, totals, FiguresOf}
use Rattle.opening.specs.Choice.{room_for}

-- how figures stand in the two lent lists: FFFFFFFF hexadecimal is "none", FFFFFFFE a fixed row
unfoldable pub with_number : Figures → ℕ
with_number is_fixed = 4294967294
with_number (totals a b) = a

unfoldable pub without_number : Figures → ℕ
without_number is_fixed = 4294967294
without_number (totals a None) = 4294967295
without_number (totals a (Some b)) = b

-- the call: the first places have the rows' figures, later places hold what they held
unfoldable pub FiguresAs : (number : ℕ) → Hall → (filled : ℕ) → (a x b y : List ℕ) → Type 0
FiguresAs zero h k a x b y =
    (gs : List Figures) × (k ≡ count h) × (length gs ≡ count h) × ((i : ℕ) → suc i ≤ count h → FiguresOf h (suc i) (get_or gs i is_fixed))
    × (x ≡ in_front (map with_number gs) a) × (y ≡ in_front (map without_number gs) b)
FiguresAs (suc n) h k a x b y = (k ≡ 0) × (x ≡ a) × (y ≡ b)

-- THE FIGURES: 1, the hall's refusal, or the figures of every row
unfoldable pub FiguresSays : List ℕ → (answered : Refusal) → (filled : ℕ) → (a x b y : List ℕ) → Type 0
FiguresSays bs f k a x b y =
    (f ≡ room_for 256 (length a) (room_for 256 (length b) (hall_refusal bs))) × FiguresAs f.number (hall_in bs) k a x b y

-- whatever method is inside, file and lent lists fix the reply and every place
unfoldable pub FiguresAlone : Type 0
FiguresAlone =
    (bs a x y b u v : List ℕ) (f g : Refusal) (k l : ℕ) → FiguresSays bs f k a x b u → FiguresSays bs g l a y b v →
    (f ≡ g) × (k ≡ l) × (x ≡ y) × (u ≡ v)
