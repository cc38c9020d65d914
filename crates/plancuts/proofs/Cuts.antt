-- What the cuts' call leaves in two number lists is what it promises with its cuts lent as structs. Assumes nothing.
use mathlib.Core.Path.{◌≡◌, refl, sym, ap, ap₂, ◌∙◌}
use mathlib.Core.List.{List, map}
use Prim.Native.Nat.{ℕ, ◌≤◌, ◌<◌}
use native.Mathlib.Omega.{arith}
use lib.IntN.{ℤ}
use lib.ListN.{length, take, length-map}
use Rattle.std.specs.Prelude.{Result, Ok, Err}
use Rattle.laws.specs.Lists.{in_front}
use Rattle.laws.proofs.Lists.{front_fits, front_are}
use Rattle.hall.specs.File.{hall_in, hall_refusal, refusal}
use Rattle.hall.specs.Plan as plan
use Rattle.refusals.specs.declared.Kind.{Kind}
use Rattle.refusals.specs.declared.Kind.TheVariants.{ListShort}
use Rattle.refusals.specs.Kinds.{refusal_of, answered, figure}
use Rattle.opening.specs.Choice.{room_for}
use Rattle.opening.proofs.Refused.{of_refused}
use Rattle.opening.proofs.Room.{room_short, room_enough}
use Rattle.cutlist.specs.declared.Cut.{Cut}
use Rattle.cutlist.specs.Cuts.{lent, lent_cuts}
use Rattle.cutlist.proofs.Lent.{lent_columns}
use Rattle.oneplan.specs.Plan.{CutsAs, CutsSays, PairAs, PairSays}
use Rattle.planpairs.specs.declared.PlannedCuts.{PlannedCuts}

-- the first places of two lists that begin with the shores and the weights of cuts
front_cuts : (ks : List plan.Cut) (p x q y : List ℕ) (n : ℕ) → n ≡ length ks → x ≡ in_front (map (λ (k : plan.Cut). k.shore) ks) p
    → y ≡ in_front (map (λ (k : plan.Cut). k.weight) ks) q → lent_cuts (take n x) (take n y) ≡ map lent ks
front_cuts ks p x q y n counted e f =
    ap₂ lent_cuts
    (front_are (map (λ (k : plan.Cut). k.shore) ks) p x n (counted ∙ sym (length-map ks (λ (k : plan.Cut). k.shore))) e)
    (front_are (map (λ (k : plan.Cut). k.weight) ks) q y n (counted ∙ sym (length-map ks (λ (k : plan.Cut). k.weight))) f)
    ∙ lent_columns ks

module _ (bs : List ℕ) (b : List Cut) (d : List ℤ) where
  -- what the call says of a reply
  abbrev pub Says : Result PlannedCuts Kind → (z : List Cut) → (w : List ℤ) → Type 0
  Says r z w = CutsSays lent bs (answered r) (figure (λ (p : PlannedCuts). p.cuts) r) (figure (λ (p : PlannedCuts). p.levels) r) b z d w

  -- a list of cuts that is too short
  pub says_short : length b < 125 → Says (Err ListShort) b d
  unfolding CutsSays CutsAs answered figure refusal_of refusal
  says_short l = (
    sym (room_short 125 (length b) (room_for 64 (length d) (hall_refusal bs)) l),
    of_refused (λ n. CutsAs lent n (hall_in bs) 0 0 b b d d) (λ n. (refl, refl, refl, refl)) ListShort (refusal 1 0) refl,
  )

  -- two lists of 125 places
  module _ (p x q y : List ℕ) (w : List ℤ) (p_size : length p ≡ 125) (q_size : length q ≡ 125) (wide : 125 ≤ length b) where
    -- what the call says of a reply, with its cuts in these lists
    abbrev SaysPairs : Result PlannedCuts Kind → Type 0
    SaysPairs r = PairSays bs (answered r) (figure (λ (c : PlannedCuts). c.cuts) r) (figure (λ (c : PlannedCuts). c.levels) r) p x q y d w

    same_refusal : room_for 125 (length p) (room_for 125 (length q) (room_for 64 (length d) (hall_refusal bs))) ≡ room_for 125 (length b) (room_for 64 (length d) (hall_refusal bs))
    same_refusal =
        let rest = room_for 64 (length d) (hall_refusal bs) in
        room_enough 125 (length p) (room_for 125 (length q) rest) (omega (arith, p_size)) ∙ room_enough 125 (length q) rest (omega (arith, q_size))
        ∙ sym (room_enough 125 (length b) rest wide)

    pub says_refused : (k : Kind) → SaysPairs (Err k) → Says (Err k) b w
    unfolding PairSays CutsSays PairAs CutsAs answered figure
    says_refused k (why, was) = (
      why ∙ same_refusal,
      of_refused (λ n. PairAs n (hall_in bs) 0 0 p x q y d w → CutsAs lent n (hall_in bs) 0 0 b b d w) (λ n left. (refl, refl, refl, left.4)) k (refusal_of k) refl was,
    )

    module _ (c : PlannedCuts) where
      pub few : SaysPairs (Ok c) → c.cuts ≤ length x
      unfolding PairSays PairAs answered figure refusal
      few (_, (_, ks, _, _, many, _, x_is, _, _)) = front_fits (map (λ (k : plan.Cut). k.shore) ks) p x c.cuts (many ∙ sym (length-map ks (λ (k : plan.Cut). k.shore))) x_is

      pub says_cuts : SaysPairs (Ok c) → Says (Ok c) (in_front (lent_cuts (take c.cuts x) (take c.cuts y)) b) w
      unfolding PairSays PairAs CutsSays CutsAs answered figure refusal
      says_cuts (why, (e, ks, first, beside, many, level, x_is, y_is, w_is)) = (
        why ∙ same_refusal,
        (e, ks, first, beside, many, level, ap (λ (ds : List Cut). in_front ds b) (front_cuts ks p x q y c.cuts many x_is y_is), w_is),
      )
