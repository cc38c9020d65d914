-- What the two calls of planning answer and leave behind, the rows' and the cuts', and what is read off their replies for one file: the third demand. Each statement is a type; proofs/Promise.antt proves it. Assumes nothing.
use Rattle.std.specs.Prelude.{◌≡◌, true, List, map, ℕ, zero, suc, length, take, ℤ}
use Rattle.laws.specs.Lists.{in_front}
use Rattle.hall.specs.Hall.{Hall}
use Rattle.hall.specs.File.{hall_in, hall_refusal, Refusal}
use Rattle.hall.specs.Plan.{First, Beside, Cut, total, weight_sum, levels}
use Rattle.opening.specs.Choice.{room_for}
use Rattle.joining.specs.Promise.{all_bytes, accepted}

-- the rows' call: how many rows are filled in, their total, and the row list before and after
unfoldable pub RowsAs : (number : ℕ) → Hall → (filled sum : ℕ) → (before after : List ℕ) → Type 0
RowsAs zero h k t a x = (c : List ℕ) × First h c × (k ≡ length c) × (t ≡ total h c) × (x ≡ in_front c a)
RowsAs (suc n) h k t a x = (k ≡ 0) × (t ≡ 0) × (x ≡ a)

-- THE ROWS: 1, the hall's refusal, or the first joining choice
unfoldable pub RowsSays : List ℕ → (answered : Refusal) → (filled sum : ℕ) → (before after : List ℕ) → Type 0
RowsSays bs f k t a x = (f ≡ room_for 256 (length a) (hall_refusal bs)) × RowsAs f.number (hall_in bs) k t a x

-- the cuts' call: how many cuts and levels are filled in, and the two lists before and after; `lent` is how a cut stands in its list
unfoldable pub CutsAs : {A : Type 0} → (lent : Cut → A) → (number : ℕ) → Hall → (cuts filled : ℕ) → (b y : List A) → (d w : List ℤ) → Type 0
CutsAs lent zero h q l b y d w =
    (c : List ℕ) × (ks : List Cut) × First h c × Beside h c ks × (q ≡ length ks) × (l ≡ h.n) × (y ≡ in_front (map lent ks) b) × (w ≡ in_front (levels h ks) d)
CutsAs lent (suc n) h q l b y d w = (q ≡ 0) × (l ≡ 0) × (y ≡ b) × (w ≡ d)

-- THE CUTS: 1, the hall's refusal, or cuts beside the first joining choice and their levels
unfoldable pub CutsSays : {A : Type 0} → (lent : Cut → A) → List ℕ → (answered : Refusal) → (cuts filled : ℕ) → (b y : List A) → (d w : List ℤ) → Type 0
CutsSays lent bs f q l b y d w =
    (f ≡ room_for 125 (length b) (room_for 64 (length d) (hall_refusal bs))) × CutsAs lent f.number (hall_in bs) q l b y d w

-- the same with the cuts in two number lists, shores and weights
unfoldable pub PairAs : (number : ℕ) → Hall → (cuts filled : ℕ) → (a x b y : List ℕ) → (d w : List ℤ) → Type 0
PairAs zero h q l a x b y d w =
    (c : List ℕ) × (ks : List Cut) × First h c × Beside h c ks × (q ≡ length ks) × (l ≡ h.n) × (x ≡ in_front (map (λ (k : Cut). k.shore) ks) a)
    × (y ≡ in_front (map (λ (k : Cut). k.weight) ks) b) × (w ≡ in_front (levels h ks) d)
PairAs (suc n) h q l a x b y d w = (q ≡ 0) × (l ≡ 0) × (x ≡ a) × (y ≡ b) × (w ≡ d)

-- THE CUTS, in two number lists
unfoldable pub PairSays : List ℕ → (answered : Refusal) → (cuts filled : ℕ) → (a x b y : List ℕ) → (d w : List ℤ) → Type 0
PairSays bs f q l a x b y d w =
    (f ≡ room_for 125 (length a) (room_for 125 (length b) (room_for 64 (length d) (hall_refusal bs)))) × PairAs f.number (hall_in bs) q l a x b y d w

-- DEMAND 3, read off the two replies for one file
unfoldable pub DemandThree : {A : Type 0} → (lent : Cut → A) → Type 0
DemandThree {A} lent =
    (bs : List ℕ) (f g : Refusal) (k t q l : ℕ) (a x : List ℕ) (b y : List A) (d w : List ℤ) → accepted bs ≡ true →
    RowsSays bs f k t a x → CutsSays lent bs g q l b y d w → f.number ≡ 0 → g.number ≡ 0 →
    First (hall_in bs) (take k x) × (t ≡ total (hall_in bs) (take k x))
    × ((ks : List Cut) × Beside (hall_in bs) (take k x) ks × (q ≡ length ks) × (take q y ≡ map lent ks) × (weight_sum ks ≡ t))

-- the same where the cuts stand in two number lists, as a caller from C or Rust reads them
unfoldable pub DemandThreePair : Type 0
DemandThreePair =
    (bs : List ℕ) (f g : Refusal) (k t q l : ℕ) (a x b y e z : List ℕ) (d w : List ℤ) → accepted bs ≡ true →
    RowsSays bs f k t a x → PairSays bs g q l b y e z d w → f.number ≡ 0 → g.number ≡ 0 →
    First (hall_in bs) (take k x) × (t ≡ total (hall_in bs) (take k x))
    × ((ks : List Cut) × Beside (hall_in bs) (take k x) ks × (q ≡ length ks) × (take q y ≡ map (λ (c : Cut). c.shore) ks)
    × (take q z ≡ map (λ (c : Cut). c.weight) ks) × (weight_sum ks ≡ t))

-- whatever method a planner has inside, file and lent list fix the rows' reply and every place
unfoldable pub RowsAlone : Type 0
RowsAlone =
    (bs a x y : List ℕ) (f g : Refusal) (k l t u : ℕ) → all_bytes bs ≡ true → RowsSays bs f k t a x → RowsSays bs g l u a y →
    (f ≡ g) × (k ≡ l) × (t ≡ u) × (x ≡ y)

-- ONE PLAN: cuts beside the cuts' call's choice add up to the rows' call's total, whichever choice each call had in mind
unfoldable pub OnePlan : Type 0
OnePlan =
    (bs c d : List ℕ) (ks : List Cut) → accepted bs ≡ true → First (hall_in bs) c → First (hall_in bs) d → Beside (hall_in bs) d ks →
    (c ≡ d) × (weight_sum ks ≡ total (hall_in bs) c)
