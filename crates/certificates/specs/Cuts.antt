-- Components of the hall, classes of neighbourhoods, and the cuts that a potential gives. Assumes nothing: these are definitions.
use Rattle.std.specs.Prelude.{◌≡◌, Bool, true, false, ◌||◌, not, cond, List, [], ◌∷◌, ℕ, zero, suc, ◌+◌, ◌^◌, ◌≤◌, max, eqb, leb, ltb}
use Rattle.laws.specs.Finite.{sum_below, one_if}
use Rattle.junctions.specs.Sets.{holds, gather}
use Rattle.hall.specs.Hall.{Hall}
use Rattle.hall.specs.Plan.{Cut, cut}
use Rattle.dicuts.specs.Shores.{Tight, around}
use Rattle.dicuts.specs.Arcs.{arcs}
use Rattle.certificates.specs.Pieces.{piece, over_pieces}

-- the junctions of 1 to n that the set leaves out
unfoldable pub outside : (n s : ℕ) → ℕ
outside n s = gather n (λ j. not (holds s j))

-- the junctions that a row joins to a, directions ignored
unfoldable pub links : Hall → (a : ℕ) → ℕ
links h a = arcs h (λ i. true) a

-- THE COMPONENT of b in the hall without k, directions ignored
unfoldable pub component : Hall → (k b : ℕ) → ℕ
component h k b = piece h.n (links h) (outside h.n k) b

-- GOOD: what is left without the component is tight, for each component of the hall without k
unfoldable pub Good : Hall → (x : ℕ → ℕ) → (k : ℕ) → Type 0
Good h x k = (b : ℕ) → 1 ≤ b → b ≤ h.n → holds k b ≡ false → Tight h x (outside h.n (component h k b))

-- one of a and b is in the other's tight neighbourhood
unfoldable pub mates : Hall → (x : ℕ → ℕ) → (a : ℕ) → ℕ
mates h x a = gather h.n (λ b. holds (around h x a) b || holds (around h x b) a)

-- the junctions whose potential is at least q
unfoldable pub upper : (n : ℕ) → (p : ℕ → ℕ) → (q : ℕ) → ℕ
upper n p q = gather n (λ j. leb q (p j))

-- the largest potential of the junctions 1 to n
unfoldable pub peak : (n : ℕ) → (p : ℕ → ℕ) → ℕ
peak zero p = 0
peak (suc n) p = max (peak n p) (p (suc n))

-- the set holds the tight neighbourhood of each of its junctions
unfoldable pub Saturated : Hall → (x : ℕ → ℕ) → (u : ℕ) → Type 0
Saturated h x u = (v j : ℕ) → 1 ≤ v → v ≤ h.n → 1 ≤ j → j ≤ h.n → holds u v ≡ true → holds (around h x v) j ≡ true → holds u j ≡ true

-- THE CLASS of junction a in the set u: tight neighbourhoods that share junctions, put together
unfoldable pub class : Hall → (x : ℕ → ℕ) → (u a : ℕ) → ℕ
class h x u a = piece h.n (mates h x) u a

-- A SHORE OF THE SET u: what lies outside a component of the hall without a class of u
pub record ShoreOf (h : Hall) (x : ℕ → ℕ) (u s : ℕ) : Type 0 where
  pub seed : ℕ
  pub seed_low : 1 ≤ seed
  pub seed_in : holds u seed ≡ true
  pub at : ℕ
  pub at_low : 1 ≤ at
  pub at_high : at ≤ h.n
  pub at_out : holds (class h x u seed) at ≡ false
  pub is : s ≡ outside h.n (component h (class h x u seed) at)

-- the sum of f over the shores of the set u: for each class, for each component of the hall without it, what lies outside the component
unfoldable pub over_shores : Hall → (x : ℕ → ℕ) → (u : ℕ) → (f : ℕ → ℕ) → ℕ
over_shores h x u f =
    over_pieces h.n (mates h x) u λ k.
    over_pieces h.n (links h) (outside h.n k) λ c. f (outside h.n c)

-- the sum of f over the shores of each threshold from 1 to top
unfoldable pub over_levels : Hall → (x p : ℕ → ℕ) → (top : ℕ) → (f : ℕ → ℕ) → ℕ
over_levels h x p top f = sum_below top (λ q. over_shores h x (upper h.n p (suc q)) f)

-- THE WEIGHT of a shore: how often it comes up
unfoldable pub weight : Hall → (x p : ℕ → ℕ) → (top s : ℕ) → ℕ
weight h x p top s = over_levels h x p top (λ t. one_if (eqb s t))

-- the cuts with a weight over 0, of the next `left` shores from s on
unfoldable pub listing : (left s : ℕ) → (w : ℕ → ℕ) → List Cut
listing zero s w = []
listing (suc k) s w = cond (ltb 0 (w s)) (cut s (w s) ∷ listing k (suc s) w) (listing k (suc s) w)

-- THE CUTS of a potential
unfoldable pub cuts : Hall → (x p : ℕ → ℕ) → (top : ℕ) → List Cut
cuts h x p top = listing (2 ^ h.n) 0 (weight h x p top)

-- the weights of the listed cuts whose shore passes the test, added up
unfoldable pub weight_where : (t : ℕ → Bool) → List Cut → ℕ
weight_where t [] = 0
weight_where t (c ∷ cs) = cond (t c.shore) c.weight 0 + weight_where t cs
