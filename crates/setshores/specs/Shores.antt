-- Pieces taken out of a set one by one, and what the shores of a set weigh over given adjacencies. Assumes nothing: these are definitions.
use Rattle.std.specs.Prelude.{◌≡◌, true, ◌&&◌, cond, List, ℕ, suc, ◌^◌, ◌≤◌, ◌<◌}
use Rattle.laws.specs.Finite.{sum_below}
use Rattle.junctions.specs.Sets.{holds}
use Rattle.certificates.specs.Pieces.{piece, leads, over_pieces}
use Rattle.certificates.specs.Cuts.{outside}
use Rattle.shorelist.specs.Listed.{alone, Adding}

-- WHAT IS LEFT of w once some of its pieces are out
pub record Rest (n : ℕ) (out : ℕ → ℕ) (w left : ℕ) : Type 0 where
  pub in_it : (j : ℕ) → 1 ≤ j → holds left j ≡ true → holds w j ≡ true
  pub whole : (j b : ℕ) → 1 ≤ j → 1 ≤ b → holds left j ≡ true → holds (piece n out w j) b ≡ true → holds left b ≡ true

-- the sum of f over the pieces that are left
unfoldable pub over_rest : (n : ℕ) → (out : ℕ → ℕ) → (w left : ℕ) → (f : ℕ → ℕ) → ℕ
over_rest n out w left f = sum_below n (λ k. cond (holds left (suc k) && leads n out w k) (f (piece n out w (suc k))) 0)

-- what shore s weighs where, for each component of the hall without the class, what lies outside it weighs so much
unfoldable pub components_weigh : (n : ℕ) → (links : ℕ → ℕ) → (class weight : ℕ) → (s : ℕ) → ℕ
components_weigh n links class weight s = over_pieces n links (outside n class) (λ c. alone (outside n c) weight s)

-- the same for all classes of a set
unfoldable pub classes_weigh : (n : ℕ) → (links mates : ℕ → ℕ) → (set weight : ℕ) → (s : ℕ) → ℕ
classes_weigh n links mates set weight s = over_pieces n mates set (λ class. components_weigh n links class weight s)

-- TAKING OUT the pieces of w one by one: each piece found adds f s piece to shore s
pub record Taking (n : ℕ) (out : ℕ → ℕ) (w : ℕ) (f : ℕ → ℕ → ℕ) (count : ℕ) (shores weights : List ℕ) (left now_count : ℕ) (now_shores now_weights : List ℕ) : Type 0 where
  pub fits : left < 2 ^ 64
  pub rest : Rest n out w left
  pub adding : Adding count shores weights (λ s. over_pieces n out w (f s)) now_count now_shores now_weights (λ s. over_rest n out w left (f s))

-- after some components of the hall without a class: each adds the weight to what lies outside it
abbrev pub Components : (n : ℕ) (links : ℕ → ℕ) (class weight count : ℕ) (shores weights : List ℕ) (left now_count : ℕ) (now_shores now_weights : List ℕ) → Type 0
Components n links class weight count shores weights left now_count now_shores now_weights =
    Taking n links (outside n class) (λ (s : ℕ) (c : ℕ). alone (outside n c) weight s) count shores weights left now_count now_shores now_weights

-- after some classes of a set: each adds the weight to what lies outside its components
abbrev pub Classes : (n : ℕ) (links mates : ℕ → ℕ) (set weight count : ℕ) (shores weights : List ℕ) (left now_count : ℕ) (now_shores now_weights : List ℕ) → Type 0
Classes n links mates set weight count shores weights left now_count now_shores now_weights =
    Taking n mates set (λ (s : ℕ) (class : ℕ). components_weigh n links class weight s) count shores weights left now_count now_shores now_weights
