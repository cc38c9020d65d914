-- A junction is reached exactly if steps lead to it, and a choice joins exactly if steps lead from each junction to each other. Assumes nothing.
use mathlib.Core.Path.{◌≡◌, sym, ap, ◌∙◌}
use mathlib.Core.Bool.{true}
use mathlib.Core.List.{List}
use Prim.Native.Nat.{ℕ, ◌≤◌}
use Rattle.junctions.specs.Sets.{holds, full}
use Rattle.junctions.proofs.Sets.{full_lt, sets_ext}
use Rattle.junctions.proofs.Members.{full_in}
use Rattle.digraph.proofs.Walks.{walk_reached, reached_walk}
use Rattle.hall.specs.Hall.{Hall, member, reached, joins}
use Rattle.hall.specs.File.{hall_in}
use Rattle.dicuts.specs.Shores.{Ranged}
use Rattle.dicuts.specs.Arcs.{arcs}
use Rattle.joining.proofs.Sealed.{arcs_lt}
use Rattle.joining.proofs.Reached.{reached_lt, reached_is}
use Rattle.joining.proofs.Joins.{joins-reached, reached-joins}
use Rattle.joining.proofs.Accepted.{accepted_ranged}
use Rattle.routes.specs.Route.{Step, runs_to}
use Rattle.routes.specs.Reached.{ReachedExactly, JoinsBySteps}
use Rattle.routes.proofs.Steps.{steps_walk, walk_steps}

module _ (h : Hall) (rg : Ranged h) (c : List ℕ) (a : ℕ) (low : 1 ≤ a) (high : a ≤ h.n) where
  abbrev out : ℕ → ℕ
  out = arcs h (λ i. member i c)

  pub reached_steps : (b : ℕ) → 1 ≤ b → b ≤ h.n → holds (reached h c a) b ≡ true → (ss : List Step) × (runs_to h c a ss b ≡ true)
  reached_steps b l m t =
      let w = reached_walk h.n out a (reached h c a) low high (reached_is h rg c a low high) (λ j p q. arcs_lt h (λ i. member i c) j) b l m t in
      let s = walk_steps h rg c a w.0 b w.1 in
      (s.0, s.1)

  pub steps_reached : (b : ℕ) (ss : List Step) → runs_to h c a ss b ≡ true → holds (reached h c a) b ≡ true
  steps_reached b ss t =
      let w = steps_walk h rg c a ss b t in walk_reached h.n out a (reached h c a) low high (reached_is h rg c a low high) w.0 b w.1

pub joins_steps : (h : Hall) → Ranged h → (c : List ℕ) → joins h c ≡ true
    → (a b : ℕ) → 1 ≤ a → a ≤ h.n → 1 ≤ b → b ≤ h.n → (ss : List Step) × (runs_to h c a ss b ≡ true)
joins_steps h rg c e a b l m p q =
    reached_steps h rg c a l m b p q (ap (λ (s : ℕ). holds s b) (joins-reached h c e a l m) ∙ full_in h.n b p q)

pub steps_joins : (h : Hall) → Ranged h → (c : List ℕ)
    → ((a b : ℕ) → 1 ≤ a → a ≤ h.n → 1 ≤ b → b ≤ h.n → (ss : List Step) × (runs_to h c a ss b ≡ true)) → joins h c ≡ true
steps_joins h rg c all =
    reached-joins h c
    (λ a l m.
    sets_ext h.n (reached h c a) (full h.n) (reached_lt h rg c a l m) (full_lt h.n)
    (λ b p q. let s = all a b l m p q in steps_reached h rg c a l m b s.0 s.1 ∙ sym (full_in h.n b p q)))

pub reached_exactly : ReachedExactly
unfolding ReachedExactly
reached_exactly bs c a b acc l m p q =
    let rg = accepted_ranged bs acc in (reached_steps (hall_in bs) rg c a l m b p q, steps_reached (hall_in bs) rg c a l m b)

pub joins_by_steps : JoinsBySteps
unfolding JoinsBySteps
joins_by_steps bs c acc = let rg = accepted_ranged bs acc in (joins_steps (hall_in bs) rg c, steps_joins (hall_in bs) rg c)
