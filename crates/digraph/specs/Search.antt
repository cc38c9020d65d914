-- A search from a junction, layer by layer: the reach step, and a search that avoids a set and stops where it meets a goal. Assumes nothing: these are definitions.
use Rattle.std.specs.Prelude.{◌≡◌, Bool, true, false, List, ℕ, ◌≤◌, ◌<◌, length}
use Rattle.std.proofs.Math.Option.{Option, none, some}
use Rattle.std.specs.Int.Bits.{bit_and, bit_xor}
use Rattle.laws.specs.Lists.{at}
use Rattle.junctions.specs.Sets.{holds}
use Rattle.digraph.specs.Paths.{Walk, Fewest}

-- a number for a junction that is held, else none
unfoldable pub if_held : (held : Bool) → ℕ → Option ℕ
if_held true k = some k
if_held false k = none

-- THE REACH STEP: the list has the fewest arcs to each junction that is reached, fewer than n; to the others none lead, and their places are as
-- before. Arcs from what is reached end in junctions 1 to n
pub record Reached (n : ℕ) (out : ℕ → ℕ) (start r : ℕ) (before after : List ℕ) : Type 0 where
  pub size : length after ≡ n
  pub fewest : (y : ℕ) → 1 ≤ y → y ≤ n → Fewest n out start y (if_held (holds r y) (at after y))
  pub few : (y : ℕ) → 1 ≤ y → y ≤ n → holds r y ≡ true → at after y < n
  pub inside : (x y : ℕ) → 1 ≤ x → x ≤ n → holds r x ≡ true → 1 ≤ y → holds (out x) y ≡ true → y ≤ n
  pub kept : (y : ℕ) → 1 ≤ y → y ≤ n → holds r y ≡ false → at after y ≡ at before y

-- the arcs that do not end in the set
unfoldable pub avoiding : (set : ℕ) → (out : ℕ → ℕ) → (x : ℕ) → ℕ
avoiding set out x = bit_xor (out x) (bit_and (out x) set)

-- A SEARCH THAT STOPS EARLY, in the layer where it meets the goal: the same for each junction that it holds, over arcs that avoid the set.
-- With a junction it holds all that are nearer, and none is farther than one of the goal; where it holds none of the goal it went to its end
pub record Searched (n : ℕ) (out : ℕ → ℕ) (start set goal r : ℕ) (before after : List ℕ) : Type 0 where
  pub size : length after ≡ n
  pub fewest : (y : ℕ) → 1 ≤ y → y ≤ n → holds r y ≡ true → Fewest n (avoiding set out) start y (some (at after y))
  pub few : (y : ℕ) → 1 ≤ y → y ≤ n → holds r y ≡ true → at after y < n
  pub nearer : (x y : ℕ) (ws : List ℕ) → 1 ≤ x → x ≤ n → 1 ≤ y → y ≤ n → holds r y ≡ true →
      Walk n (avoiding set out) start ws x → length ws < at after y → holds r x ≡ true
  pub nearest : (g y : ℕ) → 1 ≤ g → g ≤ n → 1 ≤ y → y ≤ n → holds goal g ≡ true → holds r g ≡ true → holds r y ≡ true → at after y ≤ at after g
  pub ended : ((g : ℕ) → 1 ≤ g → holds goal g ≡ true → holds r g ≡ false) →
      (y : ℕ) → 1 ≤ y → y ≤ n → holds r y ≡ false → Fewest n (avoiding set out) start y none
  pub inside : (x y : ℕ) → 1 ≤ x → x ≤ n → holds r x ≡ true → holds goal x ≡ false → 1 ≤ y → holds (out x) y ≡ true → y ≤ n
  pub kept : (y : ℕ) → 1 ≤ y → y ≤ n → holds r y ≡ false → at after y ≡ at before y
