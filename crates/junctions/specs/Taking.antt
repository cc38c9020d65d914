-- What each call of the iterator over a set's places takes. Assumes nothing: these are definitions.
use Rattle.std.specs.Prelude.{◌≡◌, ℕ, ◌-◌, ◌^◌, ◌<◌, MatchOption}
use Rattle.std.specs.Int.Bits.{bit_and}
use Rattle.std.specs.Int.Count.{count_trailing_zeros}
use Rattle.std.specs.declared.option.Option.{Option}
use Rattle.junctions.specs.declared.Places.{Places}

-- THE LOWEST PLACE TAKEN of a set, and the set that is left, without the junction there
pub record Taken (set place left : ℕ) : Type 0 where
  pub some : 0 < set
  pub fits : set < 2 ^ 64
  pub in_range : place < 64
  pub lowest : place ≡ count_trailing_zeros 64 set
  pub rest : left ≡ bit_and set (set - 1)

-- a call took the lowest place, or none was left
abbrev pub TakesLowest : Places → Option ℕ → Places → Type 0
TakesLowest s r t = MatchOption r ((s.left ≡ 0) × (t.left ≡ 0)) (λ place. Taken s.left place t.left)
