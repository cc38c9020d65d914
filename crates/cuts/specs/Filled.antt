-- Lent columns filled with the cuts of a list. Assumes nothing: these are definitions.
use Rattle.std.specs.Prelude.{◌≡◌, List, ℕ, ◌≤◌, length}
use Rattle.hall.specs.Plan.{Cut}
use Rattle.shorelist.specs.Listed.{place_of}
use Rattle.levels.specs.Levels.{cuts_in}

-- FILLED: the first places have the listed cuts, and the places after them are as before
pub record FilledWith (ks : List Cut) (shores weights : List ℕ) (count : ℕ) (now_shores now_weights : List ℕ) : Type 0 where
  pub cuts_are : cuts_in count 0 (place_of now_shores) (place_of now_weights) ≡ ks
  pub few : count ≤ 125
  pub shores_size : length now_shores ≡ length shores
  pub weights_size : length now_weights ≡ length weights
  pub shores_rest : (i : ℕ) → count ≤ i → place_of now_shores i ≡ place_of shores i
  pub weights_rest : (i : ℕ) → count ≤ i → place_of now_weights i ≡ place_of weights i
