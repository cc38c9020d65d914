-- Walks carried over to other adjacencies and turned round, and that they lead to exactly what is reached. Assumes nothing.
use mathlib.Core.Path.{◌≡◌, refl, sym, ap, ◌∙◌}
use mathlib.Core.Bool.{true}
use mathlib.Core.List.{List, [], ◌∷◌}
use mathlib.Core.Option.{Option, none, some}
use Prim.Native.Nat.{ℕ, suc, ◌-◌, ◌^◌, ◌≤◌, ◌<◌}
use native.Mathlib.Omega.{arith}
use lib.ListN.{length}
use Rattle.junctions.proofs.Bounds.{junction_le}
use Rattle.junctions.specs.Sets.{holds, Within}
use Rattle.digraph.specs.Reach.{Closed, Reach}
use Rattle.digraph.specs.Paths.{Walk, Fewest, TurnedRound}
use Rattle.digraph.specs.Distances.{distances}
use Rattle.digraph.proofs.Closure.{start_reached}
use Rattle.digraph.proofs.Balls.{distances_are}
use Rattle.digraph.proofs.Paths.{climb_walk, descend, reached-near}

-- a walk and one more arc at its end
pub walk_join : (n : ℕ) (out : ℕ → ℕ) (x : ℕ) (ws : List ℕ) (y z : ℕ) → Walk n out x ws y → 1 ≤ z → z ≤ n → holds (out y) z ≡ true
    → (vs : List ℕ) × Walk n out x vs z × (length vs ≡ suc (length ws))
unfolding Walk
walk_join n out x [] y z c l m a = (z ∷ [], (l, m, ap (λ (i : ℕ). holds (out i) z) c ∙ a, refl), refl)
walk_join n out x (w ∷ ws) y z c l m a =
    let v = walk_join n out w ws y z c.3 l m a in (w ∷ v.0, (c.0, c.1, c.2, v.1), omega (arith, v.2))

-- the last arc of a walk, and the walk before it
pub walk_last : (n : ℕ) (out : ℕ → ℕ) (x : ℕ) → 1 ≤ x → x ≤ n → (w : ℕ) (ws : List ℕ) (y : ℕ) → Walk n out x (w ∷ ws) y
    → (z : ℕ) × (1 ≤ z) × (z ≤ n) × (holds (out z) y ≡ true) × ((vs : List ℕ) × Walk n out x vs z × (length vs ≡ length ws))
unfolding Walk
walk_last n out x l m w [] y c = (x, l, m, ap (holds (out x)) (sym c.3) ∙ c.2, ([], refl, refl))
walk_last n out x l m w (v ∷ ws) y c =
    let last = walk_last n out w c.0 c.1 v ws y c.3 in
    (last.0, last.1, last.2, last.3, (w ∷ last.4.0, (c.0, c.1, c.2, last.4.1), omega (arith, last.4.2)))

-- where the walks of one adjacency have others with as many arcs, and these the first, as few arcs are enough
pub fewest_as : (n m : ℕ) (out to : ℕ → ℕ) (x y u v : ℕ)
    → ((ws : List ℕ) → Walk n out x ws y → (vs : List ℕ) × Walk m to u vs v × (length vs ≡ length ws))
    → ((vs : List ℕ) → Walk m to u vs v → (ws : List ℕ) × Walk n out x ws y × (length ws ≡ length vs))
    → (k : Option ℕ) → Fewest n out x y k → Fewest m to u v k
unfolding Fewest
fewest_as n m out to x y u v there back none f = λ vs c. let w = back vs c in f w.0 w.1
fewest_as n m out to x y u v there back (some k) f =
    let w = there f.0.0 f.0.1 in
    ((w.0, w.1, w.2 ∙ f.0.2), λ vs c. let b = back vs c in omega (arith, f.1 b.0 b.1, b.2))

-- arcs from junctions 1 to k that lead to these only and that another adjacency has too
module _ (k n m : ℕ) (out to : ℕ → ℕ) (few : k ≤ m)
    (kept : (x y : ℕ) → 1 ≤ x → x ≤ k → 1 ≤ y → y ≤ n → holds (out x) y ≡ true → (y ≤ k) × (holds (to x) y ≡ true)) where
  pub walk_over : (x : ℕ) → 1 ≤ x → x ≤ k → (ws : List ℕ) (y : ℕ) → Walk n out x ws y → Walk m to x ws y
  unfolding Walk
  walk_over x l h [] y c = c
  walk_over x l h (w ∷ ws) y c =
      let a = kept x w l h c.0 c.1 c.2 in (c.0, omega (arith, a.0), a.1, walk_over w c.0 a.0 ws y c.3)

-- the same arcs among junctions 1 to n
pub walk_alike : (n : ℕ) (out to : ℕ → ℕ) → ((x y : ℕ) → 1 ≤ x → x ≤ n → 1 ≤ y → y ≤ n → holds (out x) y ≡ holds (to x) y)
    → (x : ℕ) → 1 ≤ x → x ≤ n → (ws : List ℕ) (y : ℕ) → Walk n out x ws y → Walk n to x ws y
walk_alike n out to same = walk_over n n n out to (omega arith) (λ x y l m p q a. (q, sym (same x y l m p q) ∙ a))

pub fewest_alike : (n : ℕ) (out to : ℕ → ℕ) → ((x y : ℕ) → 1 ≤ x → x ≤ n → 1 ≤ y → y ≤ n → holds (out x) y ≡ holds (to x) y)
    → (x : ℕ) → 1 ≤ x → x ≤ n → (y : ℕ) (k : Option ℕ) → Fewest n out x y k → Fewest n to x y k
fewest_alike n out to same x l m y =
    fewest_as n n out to x y x y (λ ws c. (ws, walk_alike n out to same x l m ws y c, refl))
    (λ ws c. (ws, walk_alike n to out (λ u v p q r s. sym (same u v p q r s)) x l m ws y c, refl))

-- walks among 64 junctions from one of the first n, where arcs of these lead to these only
module _ (n : ℕ) (out : ℕ → ℕ) (small : n ≤ 64) (ranged : (j : ℕ) → 1 ≤ j → j ≤ n → out j < 2 ^ n) where
  pub walk_narrow : (x : ℕ) → 1 ≤ x → x ≤ n → (ws : List ℕ) (y : ℕ) → Walk 64 out x ws y → Walk n out x ws y
  walk_narrow = walk_over n 64 n out out (omega arith) (λ x y l m p q a. (junction_le n (out x) y (ranged x l m) a, a))

  pub walk_widen : (x : ℕ) → 1 ≤ x → x ≤ n → (ws : List ℕ) (y : ℕ) → Walk n out x ws y → Walk 64 out x ws y
  walk_widen = walk_over n n 64 out out small (λ x y l m p q a. (q, a))

  pub fewest_narrow : (x : ℕ) → 1 ≤ x → x ≤ n → (y : ℕ) (k : Option ℕ) → Fewest 64 out x y k → Fewest n out x y k
  fewest_narrow x l m y =
      fewest_as 64 n out out x y x y (λ ws c. (ws, walk_narrow x l m ws y c, refl)) (λ ws c. (ws, walk_widen x l m ws y c, refl))

-- arcs turned round
pub walk_back : (n : ℕ) (out rev : ℕ → ℕ) → TurnedRound n out rev
    → (y : ℕ) → 1 ≤ y → y ≤ n → (ws : List ℕ) (x : ℕ) → Walk n rev y ws x → (vs : List ℕ) × Walk n out x vs y × (length vs ≡ length ws)
unfolding Walk
walk_back n out rev turned y l m [] x c = ([], sym c, refl)
walk_back n out rev turned y l m (w ∷ ws) x c =
    let b = walk_back n out rev turned w c.0 c.1 ws x c.3 in
    let j = walk_join n out x b.0 w y b.1 l m (sym (turned w y c.0 c.1 l m) ∙ c.2) in
    (j.0, j.1, omega (arith, j.2, b.2))

pub fewest_back : (n : ℕ) (out rev : ℕ → ℕ) → TurnedRound n out rev
    → (x y : ℕ) → 1 ≤ x → x ≤ n → 1 ≤ y → y ≤ n → (k : Option ℕ) → Fewest n rev y x k → Fewest n out x y k
fewest_back n out rev turned x y l m p q =
    fewest_as n n rev out y x x y (λ ws. walk_back n out rev turned y p q ws x)
    (λ vs. walk_back n rev out (λ u v r s t w. sym (turned v u t w r s)) x l m vs y)

-- a walk does not lead out of a closed set
pub walk_closed : (n : ℕ) (out : ℕ → ℕ) (t : ℕ) → Closed n out t
    → (x : ℕ) → 1 ≤ x → x ≤ n → holds t x ≡ true → (ws : List ℕ) (y : ℕ) → Walk n out x ws y → holds t y ≡ true
unfolding Walk Closed Within
walk_closed n out t shut x l m h [] y c = ap (holds t) (sym c) ∙ h
walk_closed n out t shut x l m h (w ∷ ws) y c = walk_closed n out t shut w c.0 c.1 (shut x l m h w c.0 c.2) ws y c.3

-- walks lead to exactly what is reached
module _ (n : ℕ) (out : ℕ → ℕ) (start r : ℕ) (low : 1 ≤ start) (high : start ≤ n) (reach : Reach n out (2 ^ (start - 1)) r) where
  pub walk_reached : (ws : List ℕ) (y : ℕ) → Walk n out start ws y → holds r y ≡ true
  walk_reached = walk_closed n out r reach.closed start low high (start_reached n out start r low reach)

  pub reached_walk : ((j : ℕ) → 1 ≤ j → j ≤ n → out j < 2 ^ n) → (y : ℕ) → 1 ≤ y → y ≤ n → holds r y ≡ true → (ws : List ℕ) × Walk n out start ws y
  reached_walk ranged y l m t =
      let dist = distances n out start in
      let d = distances_are n out start low high in
      let w = descend n out start dist d y l m (reached-near n out start dist d low high ranged r reach y l t) in
      (w.0, climb_walk n out dist start w.0 y w.1)
