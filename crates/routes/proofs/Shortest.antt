-- The lowest step to a junction one nearer begins the first route with the fewest rows. Assumes nothing.
-- The trick: a step to a junction one nearer is no loop, so its row and where it starts fix its direction.
use mathlib.Core.Path.{◌≡◌, refl, sym, ap, ap₂, ◌∙◌}
use mathlib.Core.Bool.{Bool, true, ◌&&◌, not}
use mathlib.Core.List.{List, [], ◌∷◌}
use mathlib.Core.Option.{some}
use Prim.Native.Nat.{ℕ, ◌≤◌}
use native.Mathlib.Omega.{arith}
use lib.Dec.{ltb, eqb}
use lib.ListN.{length}
use borrow.Author.Tests.{eq-eqb, ne_eqb, eqb-true, ltb-false}
use Rattle.laws.proofs.Booleans.{by_bool, and_i, or_l, or_r}
use Rattle.hall.specs.Hall.{Hall, row}
use Rattle.hall.specs.Plan.{earlier}
use Rattle.dicuts.specs.Shores.{Ranged}
use Rattle.routes.specs.Route.{Step, ends, runs_to, numbers, ShortestRoute}
use Rattle.routes.specs.Reached.{FewestTo}
use Rattle.routes.specs.Nearer.{Nearer, LowestStep}
use Rattle.routes.proofs.Steps.{starts-ahead, ends-back, runs_more, runs_first, ends-inside}

module _ (h : Hall) (c : List ℕ) (D : ℕ → ℕ) (x : ℕ) where
  -- a step to a junction one nearer is no loop: where it starts tells its direction
  pub direction : (s : Step) → Nearer h c D x s → s.back ≡ not (eqb (row h s.number).from x)
  direction s near =
      let from = (row h s.number).from in
      by_bool s.back
      (λ b. b ∙ ap not (sym (ne_eqb from x (λ e. omega (arith, near.closer, ap D (ends-back h s b ∙ e))))))
      (λ b. b ∙ ap not (sym (eq-eqb from x (sym (starts-ahead h s b) ∙ near.here))))

  nearer_same : (s t : Step) → Nearer h c D x s → Nearer h c D x t → s.number ≡ t.number → s ≡ t
  nearer_same s t p q e =
      ap₂ (λ (i : ℕ) (d : Bool). record { number = i; back = d }) e (direction s p ∙ ap (λ (i : ℕ). not (eqb (row h i).from x)) e ∙ sym (direction t q))

pub route_here : (h : Hall) (c : List ℕ) (b : ℕ) → ShortestRoute h c b b []
unfolding runs_to
route_here h c b = record { there = eq-eqb b b refl; fewest = λ ts t. omega arith; before = λ ts t e ne. absurd (ne (empty ts e)) }
  where
    empty : (ts : List Step) → length ts ≡ 0 → [] ≡ ts
    empty [] e = refl
    empty (t ∷ ts) e = absurd (omega (arith, e))

module _ (h : Hall) (rg : Ranged h) (c : List ℕ) (b : ℕ) (D : ℕ → ℕ) (D_is : (x : ℕ) → 1 ≤ x → x ≤ h.n → FewestTo h c x b (some (D x))) where
  -- a route with as few rows as can be
  some_route : (x : ℕ) → 1 ≤ x → x ≤ h.n → (ss : List Step) × (runs_to h c x ss b ≡ true) × (length ss ≡ D x)
  unfolding FewestTo
  some_route x l m = (D_is x l m).0

  no_fewer : (x : ℕ) → 1 ≤ x → x ≤ h.n → (ts : List Step) → runs_to h c x ts b ≡ true → D x ≤ length ts
  unfolding FewestTo
  no_fewer x l m = (D_is x l m).1

  pub route_length : (a : ℕ) → 1 ≤ a → a ≤ h.n → (ss : List Step) → ShortestRoute h c a b ss → length ss ≡ D a
  route_length a l m ss r =
      let w = some_route a l m in omega (arith, no_fewer a l m ss r.there, r.fewest w.0 w.1, w.2)

  -- the first step of a fewest route leads one nearer
  first_nearer : (x : ℕ) → 1 ≤ x → x ≤ h.n → (s : Step) (ss : List Step) → runs_to h c x (s ∷ ss) b ≡ true → length (s ∷ ss) ≡ D x → Nearer h c D x s
  first_nearer x l m s ss t e =
      let first = runs_first h c x s ss b t in
      let at = ends-inside h rg c s first.0 in
      let w = some_route (ends h s) at.0 at.1 in
      let around = no_fewer x l m (s ∷ w.0) (runs_more h c x s w.0 b first.0 first.1 w.1) in
      record {
        runs = first.0;
        here = first.1;
        closer = omega (arith, e, around, w.2, no_fewer (ends h s) at.0 at.1 ss first.2);
      }

  pub some_nearer : (x : ℕ) → 1 ≤ x → x ≤ h.n → (x ≡ b → ⊥) → (s : Step) × Nearer h c D x s
  unfolding runs_to
  some_nearer x l m ne = let w = some_route x l m in begins w.0 w.1 w.2
    where
      begins : (ss : List Step) → runs_to h c x ss b ≡ true → length ss ≡ D x → (s : Step) × Nearer h c D x s
      begins [] t e = absurd (ne (eqb-true x b t))
      begins (s ∷ ss) t e = (s, first_nearer x l m s ss t e)

  -- the lowest step to a junction one nearer, and the first fewest route from there
  module _ (a : ℕ) (low : 1 ≤ a) (high : a ≤ h.n) (s : Step) (lowest : LowestStep h c D a s) (ss : List Step) (rest : ShortestRoute h c (ends h s) b ss) where
    more_length : length (s ∷ ss) ≡ D a
    more_length =
        let near = lowest.nearer in
        let at = ends-inside h rg c s near.runs in
        omega (arith, route_length (ends h s) at.0 at.1 ss rest, near.closer)

    more_before : (ts : List Step) → runs_to h c a ts b ≡ true → length ts ≡ length (s ∷ ss) → (s ∷ ss ≡ ts → ⊥) → earlier (numbers (s ∷ ss)) (numbers ts) ≡ true
    unfolding numbers earlier
    more_before [] t e ne = absurd (omega (arith, e))
    more_before (u ∷ us) t e ne =
        let near = first_nearer a low high u us t (e ∙ more_length) in
        let later = ltb s.number u.number in
        let behind = eqb s.number u.number && earlier (numbers ss) (numbers us) in
        by_bool later (λ l. or_l later behind l)
        (λ l.
        let same_row : s.number ≡ u.number = omega (arith, ltb-false s.number u.number l, lowest.least u near) in
        let same : s ≡ u = nearer_same h c D a s u lowest.nearer near same_row in
        let on : runs_to h c (ends h s) us b ≡ true = ap (λ (v : Step). runs_to h c (ends h v) us b) same ∙ (runs_first h c a u us b t).2 in
        or_r later behind
        (and_i (eqb s.number u.number) (earlier (numbers ss) (numbers us)) (eq-eqb s.number u.number same_row)
        (rest.before us on (omega (arith, e)) (λ q. ne cc))))

    pub route_more : ShortestRoute h c a b (s ∷ ss)
    route_more = record {
      there = runs_more h c a s ss b lowest.nearer.runs lowest.nearer.here rest.there;
      fewest = λ ts t. omega (arith, more_length, no_fewer a low high ts t);
      before = more_before;
    }
