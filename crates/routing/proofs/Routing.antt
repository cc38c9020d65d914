-- Each reply of the route says what `RouteSays` asks. Assumes nothing.
use mathlib.Core.Path.{◌≡◌, refl, sym, ap, ◌∙◌}
use mathlib.Core.Bool.{Bool, true, false, ◌&&◌}
use mathlib.Core.List.{List}
use mathlib.Core.Option.{none, some}
use Prim.Native.Nat.{ℕ, ◌≤◌, ◌<◌}
use lib.Dec.{leb, eqb}
use lib.IntN.{ℤ}
use lib.ListN.{length}
use borrow.Author.Tests.{le-leb, leb-true}
use Rattle.std.specs.Prelude.{Ok, Err}
use Rattle.laws.specs.Lists.{in_front}
use Rattle.laws.proofs.Booleans.{not_true_false, and_l, and_r, cond_true, cond_false}
use Rattle.junctions.specs.declared.Junctions.{Junctions}
use Rattle.hall.specs.Hall.{missed, is_none, joins}
use Rattle.hall.specs.File.{hall_in, Refusal, refusal, or_else}
use Rattle.routes.specs.Route.{Step, ShortestRoute, all_signed}
use Rattle.refusals.specs.declared.Kind.{Kind}
use Rattle.refusals.specs.declared.Kind.TheVariants.{ListShort, RouteEnd}
use Rattle.refusals.specs.Kinds.{refusal_of, answered}
use Rattle.refusals.proofs.Numbers.{kind_refused}
use Rattle.opening.specs.Choice.{choice_refusal}
use Rattle.opening.proofs.Room.{room_short, room_enough}
use Rattle.routing.specs.declared.Way.TheVariants.{Misses, Route}
use Rattle.routing.specs.Route.{end_refusal, route_refusal, WayFor, RouteSays}

-- a choice that misses no shore joins
pub none_joins : (bs c : List ℕ) → none ≡ missed (hall_in bs) c → joins (hall_in bs) c ≡ true
unfolding joins is_none
none_joins bs c e = ap is_none (sym e)

module _ (n a b : ℕ) where
  -- both junctions are among 1 to n
  abbrev pub Inside : Type 0
  Inside = (1 ≤ a) × (a ≤ n) × (1 ≤ b) × (b ≤ n)

  abbrev inside : Bool
  inside = (leb 1 a && leb a n) && (leb 1 b && leb b n)

  inside-true : Inside → inside ≡ true
  inside-true (low, high, least, most) = rw (le-leb 1 a low, le-leb a n high, le-leb 1 b least, le-leb b n most) refl

  inside-false : (Inside → ⊥) → inside ≡ false
  inside-false out = not_true_false inside (λ t.
      let from = and_l (leb 1 a && leb a n) (leb 1 b && leb b n) t in
      let to = and_r (leb 1 a && leb a n) (leb 1 b && leb b n) t in
      out (
        leb-true 1 a (and_l (leb 1 a) (leb a n) from),
        leb-true a n (and_r (leb 1 a) (leb a n) from),
        leb-true 1 b (and_l (leb 1 b) (leb b n) to),
        leb-true b n (and_r (leb 1 b) (leb b n) to),
      ))

module _ (bs c : List ℕ) (a b : ℕ) (old : List ℤ) where
  abbrev n : ℕ
  n = (hall_in bs).n

  says_err : (k : Kind) → refusal_of k ≡ route_refusal bs c a b (length old) → RouteSays bs c a b (Err k) old old
  unfolding RouteSays answered
  says_err k e = (e, refl)

  pub route_short : length old < 63 → RouteSays bs c a b (Err ListShort) old old
  unfolding route_refusal refusal_of
  route_short short = says_err ListShort (sym (room_short 63 (length old) (or_else (choice_refusal bs c) (end_refusal n a b)) short))

  module _ (room : 63 ≤ length old) where
    past_room : route_refusal bs c a b (length old) ≡ or_else (choice_refusal bs c) (end_refusal n a b)
    unfolding route_refusal
    past_room = room_enough 63 (length old) (or_else (choice_refusal bs c) (end_refusal n a b)) room

    pub route_refused : (k : Kind) → refusal_of k ≡ choice_refusal bs c → RouteSays bs c a b (Err k) old old
    unfolding or_else
    route_refused k e = says_err k (e ∙ sym (cond_false (eqb (choice_refusal bs c).number 0) (end_refusal n a b) (choice_refusal bs c) (kind_refused k (choice_refusal bs c) e)) ∙ sym past_room)

    module _ (fine : choice_refusal bs c ≡ refusal 0 0) (m : ℕ) (same : n ≡ m) where
      past_choice : route_refusal bs c a b (length old) ≡ end_refusal m a b
      unfolding or_else refusal
      past_choice = past_room ∙ ap (λ (f : Refusal). or_else f (end_refusal n a b)) fine ∙ ap (λ (k : ℕ). end_refusal k a b) same

      pub route_outside : (Inside m a b → ⊥) → RouteSays bs c a b (Err RouteEnd) old old
      unfolding refusal_of
      route_outside out = says_err RouteEnd (sym (past_choice ∙ cond_false (inside m a b) (refusal 0 0) (refusal 11 0) (inside-false m a b out)))

      module _ (ends : Inside m a b) where
        none_due : refusal 0 0 ≡ route_refusal bs c a b (length old)
        none_due = sym (past_choice ∙ cond_true (inside m a b) (refusal 0 0) (refusal 11 0) (inside-true m a b ends))

        pub route_missed : (s : Junctions) → some s.0 ≡ missed (hall_in bs) c → RouteSays bs c a b (Ok (Misses s)) old old
        unfolding RouteSays WayFor answered
        route_missed s e = (none_due, rw (sym e) (refl, refl))

        pub route_found : none ≡ missed (hall_in bs) c → (k : ℕ) (new : List ℤ)
            → (ss : List Step) × ShortestRoute (hall_in bs) c a b ss × (k ≡ length ss) × (new ≡ in_front (all_signed ss) old)
            → RouteSays bs c a b (Ok (Route k)) old new
        unfolding RouteSays WayFor answered
        route_found e k new (ss, shortest, k_is, new_is) = (none_due, rw (sym e) (ss, shortest, ap Route k_is, new_is))
