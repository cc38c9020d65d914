-- What is promised of the cuts beside a choice: the part of the third demand that they show. Each statement is a type; proofs/Promise.antt proves it. Assumes nothing.
use Rattle.std.specs.Prelude.{◌≡◌, true, List, ℕ, ◌+◌, ◌≤◌, ◌<◌, length, get_or}
use Rattle.hall.specs.Hall.{is_choice, joins, entering, row, member}
use Rattle.hall.specs.File.{hall_in}
use Rattle.hall.specs.Plan.{First, total, Cut, Beside, load, level_sum}
use Rattle.joining.specs.Promise.{accepted}

-- cuts beside a choice show that no joining choice has a smaller total
unfoldable pub CutsShow : Type 0
CutsShow =
    (bs c d : List ℕ) (ks : List Cut) → accepted bs ≡ true → Beside (hall_in bs) c ks → is_choice (hall_in bs) d ≡ true →
    joins (hall_in bs) d ≡ true → total (hall_in bs) c ≤ total (hall_in bs) d

-- each chosen row has load equal to its price
unfoldable pub LoadsTight : Type 0
LoadsTight =
    (bs c : List ℕ) (ks : List Cut) (i : ℕ) → accepted bs ≡ true → First (hall_in bs) c → Beside (hall_in bs) c ks →
    member i c ≡ true → load ks (row (hall_in bs) i) ≡ (row (hall_in bs) i).price

-- each listed cut contains just one chosen row
unfoldable pub CutsOnce : Type 0
CutsOnce =
    (bs c : List ℕ) (ks : List Cut) (k : ℕ) (none_cut : Cut) → accepted bs ≡ true → First (hall_in bs) c → Beside (hall_in bs) c ks →
    k < length ks → entering (hall_in bs) (get_or ks k none_cut).shore c ≡ 1

-- levels differ by loads
unfoldable pub LevelsDiffer : Type 0
LevelsDiffer =
    (bs c : List ℕ) (ks : List Cut) (i : ℕ) → accepted bs ≡ true → Beside (hall_in bs) c ks → 1 ≤ i → i ≤ length (hall_in bs).rows →
    level_sum (row (hall_in bs) i).to ks ≡ level_sum (row (hall_in bs) i).from ks + load ks (row (hall_in bs) i)
