-- One row decided over the columns of a hall: it stays as it is, or what its tail reaches in the zero graph is raised, or a route to its head is flipped. Assumes nothing.
use mathlib.Core.Bool.{Bool, true, false}
use mathlib.Core.List.{List}
use mathlib.Core.Path.{◌≡◌, refl, sym, ap, subst, ◌∙◌}
use Prim.Native.Nat.{ℕ, suc, ◌+◌, ◌-◌, ◌^◌, ◌≤◌, ◌<◌}
use native.Mathlib.Omega.{arith}
use lib.Dec.{ltb}
use lib.ListN.{length, get_or, get_or-eq_default}
use borrow.Author.Tests.{ltb-true, ltb-false}
use Rattle.laws.specs.Lists.{at}
use Rattle.laws.proofs.Booleans.{by_bool}
use Rattle.laws.proofs.Lists.{at-suc}
use Rattle.junctions.specs.Sets.{holds}
use Rattle.junctions.proofs.Single.{one_lt}
use Rattle.digraph.specs.Paths.{Distances}
use Rattle.digraph.specs.Reach.{Reach}
use Rattle.digraph.proofs.Closure.{start_reached, reach_narrow}
use Rattle.digraph.proofs.Same.{reach_same}
use Rattle.hall.specs.Hall.{Hall, row, count}
use Rattle.dicuts.specs.Shores.{Ranged}
use Rattle.potentials.specs.Flip.{Leg, Route, put, flipped}
use Rattle.potentials.specs.ZeroGraph.{zero_arcs, raised}
use Rattle.potentials.proofs.Arcs.{zero_arcs_lt}
use Rattle.potentials.proofs.Raise.{raised_most}
use Rattle.deciding.specs.Decided.{rows_after}
use Rattle.deciding.specs.Deciding.{opened, Deciding}
use Rattle.deciding.proofs.Deciding.{deciding_in, deciding_out, deciding_raise, deciding_flip, deciding_same}
use Rattle.columns.specs.Columns.{flagged}
use Rattle.columns.specs.Lanes.{LanesOf}
use Rattle.columns.specs.declared.Lanes.{Lanes}
use Rattle.columns.proofs.Places.{lane_tail, lane_head}
use Rattle.zerograph.specs.Zero.{ZeroGraph}
use Rattle.first.specs.Standing.{Movable}

-- a raise by 1 adds at most 1 at each place
pub raised-rise :
    (z : ℕ) (potential next : List ℕ) → length next ≡ 64 → ((j : ℕ) → 1 ≤ j → j ≤ 64 → at next j ≡ raised z 1 (at potential) j) →
    (j : ℕ) → get_or next j 0 ≤ get_or potential j 0 + 1
raised-rise z potential next size is j =
    by_bool (ltb j 64)
    (λ e.
    let place : suc j - 1 ≡ j = omega arith in
    let here : get_or next j 0 ≡ raised z 1 (at potential) (suc j) = rw place at (is (suc j) (omega arith) (ltb-true j 64 e)) in
    let most : raised z 1 (at potential) (suc j) ≤ get_or potential j 0 + 1 = rw place at (raised_most z 1 (at potential) (suc j)) in
    omega arith)
    (λ e. omega (arith, get_or-eq_default next 0 {n = j} (omega (arith, ltb-false j 64 e))))

-- the row at place k, its tail at place a and its head at place b
module _ (h : Hall) (rg : Ranged h) (ln : Lanes) (lanes : LanesOf h ln) (k : ℕ) (less : k < ln.count)
    (a b : ℕ) (tail : suc a ≡ get_or ln.tails k 0) (head : suc b ≡ get_or ln.heads k 0)
    (costs potential : List ℕ) (movable chosen : List Bool) (later : Movable k movable)
    (so_far : Deciding h (at costs) k (at potential) (flagged chosen)) where
  row_high : suc k ≤ count h
  row_high = omega (arith, lanes.rows)

  few : h.n ≤ 64
  few = omega (arith, lanes.junctions, ln.ends.size)

  from_is : suc a ≡ (row h (suc k)).from
  from_is = tail ∙ lane_tail h ln lanes k less

  to_is : suc b ≡ (row h (suc k)).to
  to_is = head ∙ lane_head h ln lanes k less

  at_tail : at potential (row h (suc k)).from ≡ get_or potential a 0
  at_tail = rw (sym from_is) (at-suc potential a)

  at_head : at potential (row h (suc k)).to ≡ get_or potential b 0
  at_head = rw (sym to_is) (at-suc potential b)

  at_row : at costs (suc k) ≡ get_or costs k 0
  at_row = at-suc costs k

  -- a chosen row stays in, and a row with a gap out
  pub stays_in : get_or chosen k false ≡ true → Deciding h (at costs) (suc k) (at potential) (flagged chosen)
  stays_in e =
      let place : suc k - 1 ≡ k = omega arith in deciding_in h rg (at costs) k row_high (at potential) (flagged chosen) so_far (rw place e)

  pub stays_out : get_or potential b 0 < get_or potential a 0 + get_or costs k 0 → Deciding h (at costs) (suc k) (at potential) (flagged chosen)
  stays_out over = deciding_out h rg (at costs) k row_high (at potential) (flagged chosen) so_far (omega (arith, at_tail, at_head, at_row, over))

  moves : (i : ℕ) → 1 ≤ i → i ≤ count h → flagged movable i ≡ rows_after k i
  moves i l u = later i l (omega (arith, lanes.rows, ln.ends.few))

  module _ (sets : List ℕ) (graph : ZeroGraph h (flagged movable) (at costs) (at potential) (flagged chosen) sets)
      (r : ℕ) (reach : Reach 64 (at sets) (2 ^ a) r) where
    abbrev zero : ℕ → ℕ
    zero = zero_arcs h (flagged movable) (at costs) (at potential) (flagged chosen)

    -- what is reached in the zero graph from the row's tail
    tail_reach : Reach h.n zero (2 ^ ((row h (suc k)).from - 1)) r
    tail_reach =
        let l = rg.from_low (suc k) (omega arith) row_high in
        let u = rg.from_high (suc k) (omega arith) row_high in
        let place : (row h (suc k)).from - 1 ≡ a = omega (arith, from_is) in
        let start : Reach 64 (at sets) (2 ^ ((row h (suc k)).from - 1)) r = rw place reach in
        let inside : (j : ℕ) → 1 ≤ j → j ≤ h.n → at sets j < 2 ^ h.n =
        λ j lj uj. subst (λ (x : ℕ). x < 2 ^ h.n) (sym (graph.inside j lj uj)) (zero_arcs_lt h (flagged movable) (at costs) (at potential) (flagged chosen) j) in
        reach_same h.n (at sets) zero graph.inside (2 ^ ((row h (suc k)).from - 1)) r
        (reach_narrow h.n (at sets) (2 ^ ((row h (suc k)).from - 1)) r few (one_lt h.n (row h (suc k)).from l u) inside start)

    -- where no route leads from the row's tail to its head, the row is out after a raise on what its tail reaches
    pub raised_out :
        holds r (suc b) ≡ false → (next : List ℕ) → ((j : ℕ) → 1 ≤ j → j ≤ 64 → at next j ≡ raised r 1 (at potential) j) →
        Deciding h (at costs) (suc k) (at next) (flagged chosen)
    raised_out away next is =
        let l = rg.from_low (suc k) (omega arith) row_high in
        let from_in : holds r (row h (suc k)).from ≡ true = start_reached h.n zero (row h (suc k)).from r l tail_reach in
        let to_out : holds r (row h (suc k)).to ≡ false = ap (holds r) (sym to_is) ∙ away in
        deciding_same h rg (at costs) (at costs) (λ i p q. refl) (raised r 1 (at potential)) (at next)
        (λ j p q. sym (is j p (omega (arith, few)))) (flagged chosen) (flagged chosen) (λ i p q. refl) (suc k) row_high
        (deciding_raise h rg (at costs) k row_high (flagged movable) moves (at potential) (flagged chosen) so_far r tail_reach.closed from_in to_out)

  -- where a route of fewest arcs leads from the row's tail to its head, the row is in after its flip
  pub flipped_in :
      (sets : List ℕ) → ZeroGraph h (flagged movable) (at costs) (at potential) (flagged chosen) sets → (dist : ℕ → ℕ) →
      Distances 64 (at sets) (suc a) dist → get_or potential a 0 + get_or costs k 0 ≤ get_or potential b 0 → (ls : List Leg) →
      Route h (flagged movable) (at costs) (at potential) (flagged chosen) dist (suc a) ls (suc b) →
      (flags : List Bool) → ((i : ℕ) → 1 ≤ i → flagged flags i ≡ put (suc k) true (flipped ls (flagged chosen)) i) →
      Deciding h (at costs) (suc k) (at potential) (flagged flags)
  unfolding opened
  flipped_in sets graph dist d no_gap ls route flags is =
      let way : Route h (flagged movable) (at costs) (at potential) (flagged chosen) dist (row h (suc k)).from ls (row h (suc k)).to =
      rw (from_is, to_is) at route in
      deciding_same h rg (at costs) (at costs) (λ i p q. refl) (at potential) (at potential) (λ j p q. refl) (opened (suc k) ls (flagged chosen))
      (flagged flags) (λ i p q. sym (is i p)) (suc k) row_high
      (deciding_flip h rg (at costs) k row_high (flagged movable) moves (at potential) (flagged chosen) so_far dist
      (λ x y lx hx ly hy arc.
      d.ahead x y lx (omega (arith, few)) ly (omega (arith, few)) (ap (λ (s : ℕ). holds s y) (graph.inside x lx hx) ∙ arc))
      (omega (arith, at_tail, at_head, at_row)) ls way)
