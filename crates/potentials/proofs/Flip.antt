-- A route of fewest arcs in the zero graph may be flipped, together with a row that leads back to its start: the set of rows still joins, and P3
-- holds for the same potential. The trick: after the legs, shores are entered as often as before but for the swaps, and swaps may be made one
-- after another because no arc skips a level. Assumes nothing.
use mathlib.Core.Path.{◌≡◌, refl, sym, ap, ◌∙◌}
use mathlib.Core.Bool.{Bool, true, false}
use mathlib.Core.List.{List, [], ◌∷◌}
use mathlib.Core.Logic.{◌⊎◌, inl, inr, ⊎_elim}
use Prim.Native.Nat.{ℕ, suc, ◌+◌, ◌≤◌, ◌<◌}
use native.Mathlib.Omega.{arith}
use lib.Dec.{eqb}
use borrow.Author.Tests.{eqb-true, eqb-false, ne_eqb}
use Rattle.laws.specs.Finite.{one_if}
use Rattle.laws.proofs.Booleans.{by_bool, clash}
use Rattle.laws.proofs.Connectives.{one_true, one_false}
use Rattle.junctions.specs.Sets.{holds}
use Rattle.digraph.specs.Paths.{Climb}
use Rattle.hall.specs.Hall.{Hall, row}
use Rattle.dicuts.specs.Shores.{Shore, cover, once, around, Joining, Sep}
use Rattle.dicuts.specs.Crossing.{taken, added, ApartFrom, Swaps, Rising, Inside}
use Rattle.dicuts.proofs.Uncross.{swaps_join}
use Rattle.potentials.specs.Potential.{Parted}
use Rattle.potentials.specs.ZeroGraph.{Opens, Closes, SwapsFor, zero_arcs}
use Rattle.potentials.specs.Flip.{Leg, by_open, by_close, by_swap, end_of, Takes, Route, Turns, put, after, flipped, weigh, tally, swap_of, swaps_of, Supports, Flip}
use Rattle.potentials.proofs.Arcs.{arc_cases, swap_arc}
use Rattle.potentials.proofs.Raise.{far_sep, near-sep}
use Rattle.potentials.proofs.Weights.{put_same, put_other, supports_once, supports_open, supports_close, open_cover, close_cover, support_joining, support_parted}

module _ (h : Hall) (m : ℕ → Bool) (c p : ℕ → ℕ) (F : ℕ → Bool) where
  -- a leg changes movable rows alone
  pub after-fixed : (x : ℕ) (l : Leg) → Takes h m c p F x l → (G : ℕ → Bool) (k : ℕ) → m k ≡ false → after l G k ≡ G k
  unfolding Takes after
  after-fixed x (by_open i w) o G k e = put_other i true G k (λ q. clash o.free (sym (ap m q) ∙ e))
  after-fixed x (by_close i w) o G k e = put_other i false G k (λ q. clash o.free (sym (ap m q) ∙ e))
  after-fixed x (by_swap w) o G k e = refl

  -- a row that a leg puts in has no gap
  pub after_new :
      (x : ℕ) (l : Leg) → Takes h m c p F x l → (G : ℕ → Bool) (k : ℕ) → after l G k ≡ true → (G k ≡ true) ⊎ (p (row h k).to ≡ p (row h k).from + c k)
  unfolding Takes after
  after_new x (by_open i w) o G k e =
      by_bool (eqb k i)
      (λ t.
      let q : k ≡ i = eqb-true k i t in
      inr (omega (arith, o.rise, ap (λ (j : ℕ). p (row h j).to) q, ap (λ (j : ℕ). p (row h j).from) q, ap c q, ap p o.to_is, ap p o.from_is)))
      (λ t. inl (sym (put_other i true G k (eqb-false k i t)) ∙ e))
  after_new x (by_close i w) o G k e =
      by_bool (eqb k i)
      (λ t. clash e (ap (put i false G) (eqb-true k i t) ∙ put_same i false G))
      (λ t. inl (sym (put_other i false G k (eqb-false k i t)) ∙ e))
  after_new x (by_swap w) o G k e = inl e

  module _ (dist : ℕ → ℕ) where
    -- a climb in the zero graph is a route over some legs
    pub climb_route :
        (x : ℕ) (ws : List ℕ) (y : ℕ) → Climb h.n (zero_arcs h m c p F) dist x ws y → (ls : List Leg) × Route h m c p F dist x ls y
    unfolding Climb Route Takes end_of
    climb_route x [] y r = ([], r)
    climb_route x (w ∷ ws) y r =
        let rest : (ls : List Leg) × Route h m c p F dist w ls y = climb_route w ws y r.4 in
        arc_cases h m c p F x w r.0 r.1 r.2
        (λ i o. (by_open i w ∷ rest.0, (r.0, r.1, o, r.3, rest.1)))
        (λ i o. (by_close i w ∷ rest.0, (r.0, r.1, o, r.3, rest.1)))
        (λ o. (by_swap w ∷ rest.0, (r.0, r.1, o, r.3, rest.1)))

    pub flipped-fixed : (x : ℕ) (ls : List Leg) (y : ℕ) → Route h m c p F dist x ls y → (k : ℕ) → m k ≡ false → flipped ls F k ≡ F k
    unfolding Route flipped
    flipped-fixed x [] y r k e = refl
    flipped-fixed x (l ∷ ls) y r k e = after-fixed x l r.2 (flipped ls F) k e ∙ flipped-fixed (end_of l) ls y r.4 k e

    pub flipped_new :
        (x : ℕ) (ls : List Leg) (y : ℕ) → Route h m c p F dist x ls y → (k : ℕ) → flipped ls F k ≡ true → F k ≡ false →
        p (row h k).to ≡ p (row h k).from + c k
    unfolding Route flipped
    flipped_new x [] y r k t e = clash t e
    flipped_new x (l ∷ ls) y r k t e =
        ⊎_elim (λ (s : flipped ls F k ≡ true). flipped_new (end_of l) ls y r.4 k s e)
        (λ (s : p (row h k).to ≡ p (row h k).from + c k). s) (after_new x l r.2 (flipped ls F) k t)

    -- a row that no leg can open or close, by its levels, counts as before
    pub untouched :
        (x : ℕ) (ls : List Leg) (y : ℕ) → Route h m c p F dist x ls y → (i : ℕ) →
        (dist x ≤ dist (row h i).to → p (row h i).to ≡ p (row h i).from + c i → dist (row h i).from ≡ suc (dist (row h i).to) → ⊥) →
        (dist x ≤ dist (row h i).from → dist (row h i).to ≡ suc (dist (row h i).from) → ⊥) → tally ls F i ≡ once F i
    unfolding Route Takes tally weigh end_of
    untouched x [] y r i no_open no_close = refl
    untouched x (by_open g w ∷ ls) y r i no_open no_close =
        let o : Opens h m c p x w g = r.2 in
        let up : dist w ≡ suc (dist x) = r.3 in
        let apart : i ≡ g → ⊥ =
        λ q.
        let to_x : (row h i).to ≡ x = ap (λ (j : ℕ). (row h j).to) q ∙ o.to_is in
        let from_w : (row h i).from ≡ w = ap (λ (j : ℕ). (row h j).from) q ∙ o.from_is in
        no_open (omega (arith, ap dist to_x)) (omega (arith, o.rise, ap p to_x, ap p from_w, ap c q)) (omega (arith, ap dist to_x, ap dist from_w)) in
        omega (
          arith,
          untouched w ls y r.4 i (λ a b d. no_open (omega arith) b d) (λ a b. no_close (omega arith) b),
          one_false (eqb i g) (ne_eqb i g apart),
        )
    untouched x (by_close g w ∷ ls) y r i no_open no_close =
        let o : Closes h m F x w g = r.2 in
        let up : dist w ≡ suc (dist x) = r.3 in
        let apart : i ≡ g → ⊥ =
        λ q.
        let to_w : (row h i).to ≡ w = ap (λ (j : ℕ). (row h j).to) q ∙ o.to_is in
        let from_x : (row h i).from ≡ x = ap (λ (j : ℕ). (row h j).from) q ∙ o.from_is in
        no_close (omega (arith, ap dist from_x)) (omega (arith, ap dist to_w, ap dist from_x)) in
        omega (
          arith,
          untouched w ls y r.4 i (λ a b d. no_open (omega arith) b d) (λ a b. no_close (omega arith) b),
          one_false (eqb i g) (ne_eqb i g apart),
        )
    untouched x (by_swap w ∷ ls) y r i no_open no_close =
        let up : dist w ≡ suc (dist x) = r.3 in
        untouched w ls y r.4 i (λ a b d. no_open (omega arith) b d) (λ a b. no_close (omega arith) b)

    -- a row that the first leg closes counts once after the others
    closed_once :
        (x w g : ℕ) (ls : List Leg) (y : ℕ) → Closes h m F x w g → dist w ≡ suc (dist x) → Route h m c p F dist w ls y → tally ls F g ≡ 1
    unfolding once
    closed_once x w g ls y o up r =
        untouched w ls y r g (λ a b d. omega (arith, ap dist o.from_is, ap dist o.to_is)) (λ a b. omega (arith, ap dist o.from_is))
        ∙ one_true (F g) o.chosen

    pub tally_supports : (x : ℕ) (ls : List Leg) (y : ℕ) → Route h m c p F dist x ls y → Supports (flipped ls F) (tally ls F)
    unfolding Route Takes flipped after tally weigh end_of
    tally_supports x [] y r = supports_once F
    tally_supports x (by_open g w ∷ ls) y r = supports_open (flipped ls F) (tally ls F) (tally_supports w ls y r.4) g w
    tally_supports x (by_close g w ∷ ls) y r =
        supports_close (flipped ls F) (tally ls F) (tally_supports w ls y r.4) g w (closed_once x w g ls y r.2 r.3 r.4)
    tally_supports x (by_swap w ∷ ls) y r = tally_supports w ls y r.4

    -- along the route, shores are entered as often as before but for its ends and its swaps
    pub tally-cover :
        (x : ℕ) (ls : List Leg) (y : ℕ) → Route h m c p F dist x ls y → (s : ℕ) → Shore h s →
        cover h (tally ls F) s + one_if (holds s y) + taken (swaps_of x ls) (holds s)
        ≡ cover h (once F) s + one_if (holds s x) + added (swaps_of x ls) (holds s)
    unfolding Route Takes tally weigh end_of swaps_of swap_of taken added
    tally-cover x [] y r s shore = omega (arith, ap (λ (z : ℕ). one_if (holds s z)) r)
    tally-cover x (by_open g w ∷ ls) y r s shore =
        omega (arith, tally-cover w ls y r.4 s shore, open_cover h m c p F (tally ls F) x w g s shore r.2)
    tally-cover x (by_close g w ∷ ls) y r s shore =
        omega (
          arith,
          tally-cover w ls y r.4 s shore,
          close_cover h m c p F (tally ls F) x w g s shore r.2 (omega (arith, closed_once x w g ls y r.2 r.3 r.4)),
        )
    tally-cover x (by_swap w ∷ ls) y r s shore = omega (arith, tally-cover w ls y r.4 s shore)

    module _ (ahead : (x y : ℕ) → 1 ≤ x → x ≤ h.n → 1 ≤ y → y ≤ h.n → holds (zero_arcs h m c p F x) y ≡ true → dist y ≤ suc (dist x)) where
      -- a junction below a route is separated from where its swaps lead at the same potential
      below_ahead :
          (a : ℕ) → 1 ≤ a → a ≤ h.n → (x : ℕ) (ls : List Leg) (y : ℕ) → Route h m c p F dist x ls y → dist a < dist x →
          ApartFrom (Sep h (once F)) p a (swaps_of x ls)
      unfolding Route Takes end_of swaps_of swap_of ApartFrom
      below_ahead a la ka x [] y r low = tt
      below_ahead a la ka x (by_open g w ∷ ls) y r low = below_ahead a la ka w ls y r.4 (omega (arith, r.3))
      below_ahead a la ka x (by_close g w ∷ ls) y r low = below_ahead a la ka w ls y r.4 (omega (arith, r.3))
      below_ahead a la ka x (by_swap w ∷ ls) y r low =
          let up : dist w ≡ suc (dist x) = r.3 in (
            λ level.
                by_bool (holds (around h (once F) a) w)
                (λ near. absurd (omega (arith, ahead a w la ka r.0 r.1 (swap_arc h m c p F a w r.0 r.1 (record { near = near; level = level })))))
                (far_sep h (once F) a w r.0 r.1),
            below_ahead a la ka w ls y r.4 (omega arith),
          )

      -- so the swaps of a route may be made one after another
      pub route_swaps :
          (x : ℕ) → 1 ≤ x → x ≤ h.n → (ls : List Leg) (y : ℕ) → Route h m c p F dist x ls y → Swaps (Inside h) (Sep h (once F)) p (swaps_of x ls)
      unfolding Route Takes end_of swaps_of swap_of Swaps
      route_swaps x lx kx [] y r = tt
      route_swaps x lx kx (by_open g w ∷ ls) y r = route_swaps w r.0 r.1 ls y r.4
      route_swaps x lx kx (by_close g w ∷ ls) y r = route_swaps w r.0 r.1 ls y r.4
      route_swaps x lx kx (by_swap w ∷ ls) y r =
          let o : SwapsFor h p F x w = r.2 in (
            record {
              out_in = (lx, kx);
              into_in = (r.0, r.1);
              level = o.level;
              close = near-sep h (once F) x w r.0 r.1 o.near;
            },
            below_ahead x lx kx w ls y r.4 (omega (arith, r.3)),
            route_swaps w r.0 r.1 ls y r.4,
          )

      module _ (x : ℕ) (lx : 1 ≤ x) (kx : x ≤ h.n) (ls : List Leg) (y : ℕ) (r : Route h m c p F dist x ls y) where
        turn_takes : (l : Leg) → Turns h m c p F y l x → Takes h m c p F y l
        unfolding Turns Takes
        turn_takes (by_open i w) t = t.1
        turn_takes (by_close i w) t = t.1
        turn_takes (by_swap w) t = absurd t

        -- the row of the way back, if it is closed, counts once after the legs
        turn_once : (i w : ℕ) → (w ≡ x) → Closes h m F y w i → p w < p y + c i → tally ls F i ≡ 1
        unfolding once
        turn_once i w e o less =
            untouched x ls y r i
            (λ a b d. omega (arith, ap p o.to_is, ap p o.from_is))
            (λ a b. omega (arith, ap dist o.to_is, ap dist o.from_is, ap dist e))
            ∙ one_true (F i) o.chosen

        turn_supports : (l : Leg) → Turns h m c p F y l x → Supports (after l (flipped ls F)) (weigh l (tally ls F))
        unfolding Turns after
        turn_supports (by_open i w) t = supports_open (flipped ls F) (tally ls F) (tally_supports x ls y r) i w
        turn_supports (by_close i w) t =
            supports_close (flipped ls F) (tally ls F) (tally_supports x ls y r) i w (turn_once i w t.0 t.1 t.2)
        turn_supports (by_swap w) t = absurd t

        turn_cover :
            (l : Leg) → Turns h m c p F y l x → (s : ℕ) → Shore h s →
            cover h (weigh l (tally ls F)) s + taken (swaps_of x ls) (holds s) ≡ cover h (once F) s + added (swaps_of x ls) (holds s)
        unfolding Turns
        turn_cover (by_open i w) t s shore =
            omega (
              arith,
              tally-cover x ls y r s shore,
              open_cover h m c p F (tally ls F) y w i s shore t.1,
              ap (λ (z : ℕ). one_if (holds s z)) t.0,
            )
        turn_cover (by_close i w) t s shore =
            omega (
              arith,
              tally-cover x ls y r s shore,
              close_cover h m c p F (tally ls F) y w i s shore t.1 (omega (arith, turn_once i w t.0 t.1 t.2)),
              ap (λ (z : ℕ). one_if (holds s z)) t.0,
            )
        turn_cover (by_swap w) t s shore = absurd t

        -- THE FLIP of a route and of the row that leads back
        pub flip_keeps : Joining h (once F) → Parted h (once F) p → (l : Leg) → Turns h m c p F y l x → Flip h m c p F (after l (flipped ls F))
        unfolding Parted Rising
        flip_keeps joining parted l t =
            let z : ℕ → ℕ = weigh l (tally ls F) in
            let left : Joining h z × Rising (Inside h) (Sep h z) p =
            swaps_join h p (once F) z (swaps_of x ls) joining (λ v u v_in u_in less. parted v u v_in.0 v_in.1 u_in.0 u_in.1 less)
            (route_swaps x lx kx ls y r) (turn_cover l t) in
            let supports : Supports (after l (flipped ls F)) z = turn_supports l t in
            record {
              joining = support_joining h (after l (flipped ls F)) z supports left.0;
              parted = support_parted h (after l (flipped ls F)) z supports p (λ v u lv kv lu ku less. left.1 v u (lv, kv) (lu, ku) less);
              fixed = λ k e. after-fixed y l (turn_takes l t) (flipped ls F) k e ∙ flipped-fixed x ls y r k e;
              new = λ k s e.
                  ⊎_elim (λ (q : flipped ls F k ≡ true). flipped_new x ls y r k q e) (λ (q : p (row h k).to ≡ p (row h k).from + c k). q)
                  (after_new y l (turn_takes l t) (flipped ls F) k s);
            }
