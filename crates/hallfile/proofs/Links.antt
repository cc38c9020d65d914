-- What is reached from junction 1 over all rows, either way, decides whether a hall is connected. Assumes nothing.
use mathlib.Core.Path.{◌≡◌, sym, ap, ◌∙◌}
use mathlib.Core.Bool.{Bool, true}
use mathlib.Core.List.{List}
use Prim.Native.Nat.{ℕ, ◌-◌, ◌^◌, ◌≤◌, ◌<◌}
use native.Mathlib.Omega.{arith}
use lib.Dec.{eqb}
use Rattle.laws.specs.Lists.{at}
use Rattle.junctions.specs.Sets.{full}
use Rattle.junctions.proofs.Single.{one_lt}
use Rattle.digraph.specs.Reach.{Reach}
use Rattle.digraph.proofs.Closure.{reach_unique, reach_narrow, reach_narrow_lt}
use Rattle.digraph.proofs.Same.{reach_same}
use Rattle.hall.specs.Hall.{Hall, count, member, reached}
use Rattle.hall.specs.File.{all_numbers, connected}
use Rattle.dicuts.specs.Shores.{Ranged}
use Rattle.dicuts.specs.Arcs.{arcs}
use Rattle.joining.proofs.Reached.{reached_is, reached_lt}
use Rattle.joining.proofs.Sealed.{arcs_lt}
use Rattle.joining.proofs.Connected.{all_numbers-member}
use Rattle.columns.specs.Columns.{Arcs, flagged}
use Rattle.adjacency.proofs.Arcs.{arcs_ext}

module _ (h : Hall) (rg : Ranged h) (few : h.n ≤ 64) (flags : List Bool) (sets : List ℕ) (r : ℕ)
    (every : (i : ℕ) → 1 ≤ i → i ≤ count h → flagged flags i ≡ true) (is_arcs : Arcs h (flagged flags) sets) (reach : Reach 64 (at sets) 1 r) where
  low : (j : ℕ) → 1 ≤ j → j ≤ h.n → at sets j < 2 ^ h.n
  unfolding Arcs
  low j l m = rw (is_arcs j l m) (arcs_lt h (flagged flags) j)

  one : 1 < 2 ^ h.n
  one = one_lt h.n 1 (omega arith) rg.some

  either_way : (j : ℕ) → 1 ≤ j → j ≤ h.n → at sets j ≡ arcs h (λ i. member i (all_numbers (count h) 1)) j
  unfolding Arcs
  either_way j l m =
      is_arcs j l m
      ∙ arcs_ext h (flagged flags) (λ i. member i (all_numbers (count h) 1))
      (λ i p q. every i p q ∙ sym (all_numbers-member (count h) 1 i p (omega arith))) j

  same : r ≡ reached h (all_numbers (count h) 1) 1
  same =
      reach_unique h.n (arcs h (λ i. member i (all_numbers (count h) 1))) 1 r (reached h (all_numbers (count h) 1) 1)
      (reach_narrow_lt h.n (at sets) 1 r few one low reach)
      (reached_lt h rg (all_numbers (count h) 1) 1 (omega arith) rg.some)
      (reach_same h.n (at sets) (arcs h (λ i. member i (all_numbers (count h) 1))) either_way 1 r (reach_narrow h.n (at sets) 1 r few one low reach))
      (reached_is h rg (all_numbers (count h) 1) 1 (omega arith) rg.some)

  pub reach_connected : eqb r (full h.n) ≡ connected h
  unfolding connected full
  reach_connected = ap (λ (s : ℕ). eqb s (2 ^ h.n - 1)) same
