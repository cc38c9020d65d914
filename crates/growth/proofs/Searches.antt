-- What a search beside the set gives, from the search that avoids the set and stops early. Assumes nothing.
use mathlib.Core.Path.{◌≡◌, refl, sym, ap, ◌∙◌}
use mathlib.Core.Bool.{Bool, true, false, ◌&&◌, not}
use mathlib.Core.List.{List, [], ◌∷◌}
use Prim.Native.Nat.{ℕ, ◌+◌, ◌-◌, ◌^◌, ◌≤◌, ◌<◌}
use native.Mathlib.Omega.{arith}
use lib.ListN.{length}
use borrow.Author.Tests.{not-true}
use Rattle.laws.specs.Lists.{at}
use Rattle.laws.proofs.Booleans.{and_l, and_r, and_i, not_true_false}
use Rattle.junctions.specs.Sets.{holds, Within}
use Rattle.junctions.proofs.Bounds.{junction_le}
use Rattle.junctions.proofs.Single.{one_self}
use Rattle.digraph.specs.Reach.{Closed, Reach}
use Rattle.digraph.specs.Paths.{Walk, Fewest}
use Rattle.digraph.specs.Search.{avoiding, Searched}
use Rattle.digraph.proofs.Walks.{walk_join, walk_last}
use Rattle.digraph.proofs.Breadth.{avoiding-holds}
use Rattle.digraph.proofs.Reaching.{searched_reached, reached_reach}
use Rattle.growth.specs.Growth.{Leads}

-- A SEARCH from h BESIDE THE SET: what it holds lies on from h over junctions held that are none of the others;
-- where it holds none of the others it is at its end
pub record HeldBeside (out : ℕ → ℕ) (set other h held : ℕ) : Type 0 where
  pub free : (y : ℕ) → 1 ≤ y → holds held y ≡ true → holds set y ≡ false
  pub led : (y : ℕ) → 1 ≤ y → holds held y ≡ true → Leads out (λ x. holds held x && not (holds other x)) h y
  pub head : ((y : ℕ) → 1 ≤ y → holds other y ≡ true → holds held y ≡ false) → holds held h ≡ true
  pub shut : ((y : ℕ) → 1 ≤ y → holds other y ≡ true → holds held y ≡ false) →
      (x y : ℕ) → 1 ≤ x → x ≤ 64 → 1 ≤ y → holds held x ≡ true → holds (out x) y ≡ true → holds set y ≡ false → holds held y ≡ true

-- more junctions that pass lead to no less
pub leads_more :
    (out : ℕ → ℕ) (pass more : ℕ → Bool) (h y : ℕ) → ((x : ℕ) → 1 ≤ x → pass x ≡ true → more x ≡ true) → Leads out pass h y → Leads out more h y
leads_more out pass more h y grows leads t here shut = leads t here (λ x l u p. shut x l u (grows x l p))

module _ (out : ℕ → ℕ) (set other h held : ℕ) (before after : List ℕ) (low : 1 ≤ h) (high : h ≤ 64) (outside : holds set h ≡ false)
    (fits : held < 2 ^ 64) (s : Searched 64 out h set other held before after) where
  abbrev round : ℕ → ℕ
  round = avoiding set out

  held_walk : (y : ℕ) → 1 ≤ y → holds held y ≡ true → (ws : List ℕ) × Walk 64 round h ws y × (length ws ≡ at after y)
  unfolding Fewest
  held_walk y l t = (s.fewest y l (junction_le 64 held y fits t) t).0

  held_least : (y : ℕ) → 1 ≤ y → holds held y ≡ true → (ws : List ℕ) → Walk 64 round h ws y → at after y ≤ length ws
  unfolding Fewest
  held_least y l t = (s.fewest y l (junction_le 64 held y fits t) t).1

  walk_free : (ws : List ℕ) (y : ℕ) → Walk 64 round h ws y → holds set y ≡ false
  unfolding Walk
  walk_free [] y c = ap (holds set) (sym c) ∙ outside
  walk_free (w ∷ ws) y c =
      let last = walk_last 64 round h low high w ws y c in
      not-true (holds set y) (and_r (holds (out last.0) y) (not (holds set y)) (sym (avoiding-holds set out last.0 y) ∙ last.3))

  -- a junction with a walk to it of fewer arcs than lead to y is held, and none of the others
  passes : (x y : ℕ) → 1 ≤ x → x ≤ 64 → 1 ≤ y → holds held y ≡ true → (vs : List ℕ) → Walk 64 round h vs x → length vs < at after y →
      (holds held x && not (holds other x)) ≡ true
  passes x y lx hx ly t vs c few =
      let hy = junction_le 64 held y fits t in
      let here : holds held x ≡ true = s.nearer x y vs lx hx ly hy t c few in
      and_i (holds held x) (not (holds other x)) here
      (ap not (not_true_false (holds other x) (λ o. omega (arith, few, s.nearest x y lx hx ly hy o here t, held_least x lx here vs c))))

  -- along a walk to y with no more arcs than needed
  walk_leads : (y : ℕ) → 1 ≤ y → holds held y ≡ true → (t : ℕ) →
      ((x : ℕ) → 1 ≤ x → x ≤ 64 → (holds held x && not (holds other x)) ≡ true → holds t x ≡ true → Within (out x) t) →
      (x : ℕ) → 1 ≤ x → x ≤ 64 → holds t x ≡ true → (vs : List ℕ) → Walk 64 round h vs x → (ws : List ℕ) → Walk 64 round x ws y →
      length vs + length ws ≡ at after y → holds t y ≡ true
  unfolding Walk Within
  walk_leads y l in_it t shut x lx hx here vs c [] d e = ap (holds t) (sym d) ∙ here
  walk_leads y l in_it t shut x lx hx here vs c (w ∷ ws) d e =
      let on = walk_join 64 round h vs x w c d.0 d.1 d.2 in
      let arc = and_l (holds (out x) w) (not (holds set w)) (sym (avoiding-holds set out x w) ∙ d.2) in
      walk_leads y l in_it t shut w d.0 d.1
      (shut x lx hx (passes x y lx hx l in_it vs c (omega (arith, e))) here w d.0 arc)
      on.0 on.1 ws d.3 (omega (arith, on.2, e))

  all_reached : ((y : ℕ) → 1 ≤ y → holds other y ≡ true → holds held y ≡ false) → Reach 64 round (2 ^ (h - 1)) held
  all_reached unmet =
      reached_reach 64 round h held before after low high (searched_reached 64 out h set other held before after s unmet) fits

  pub searched_beside : HeldBeside out set other h held
  unfolding Closed Within Walk
  searched_beside =
      record {
        free = λ y l t. let w = held_walk y l t in walk_free w.0 y w.1;
        led = λ y l t all here shut. let w = held_walk y l t in walk_leads y l t all shut h low high here [] refl w.0 w.1 (omega (arith, w.2));
        head = λ unmet. (all_reached unmet).contains h low (one_self h low);
        shut = λ unmet x y lx hx ly t a f.
            (all_reached unmet).closed x lx hx t y ly (avoiding-holds set out x y ∙ and_i (holds (out x) y) (not (holds set y)) a (ap not f));
      }
