-- Loops over a set, lowest junction first, by what is left to do of it. Assumes nothing.
use mathlib.Core.Path.{◌≡◌, sym, ap, ap₂, ◌∙◌}
use mathlib.Core.Bool.{Bool, true, false, ◌&&◌, ◌||◌, not, cond, or_assoc, or-false, and-true, and-false}
use mathlib.Core.List.{List}
use Prim.Native.Nat.{ℕ, suc, ◌-◌}
use native.Mathlib.Omega.{arith}
use lib.Bits.{bit_or}
use lib.Dec.{eqb}
use lib.ListN.{get_or, length, set}
use lib.Seq.{get_or-set_same, get_or-set_other}
use borrow.Author.Tests.{eqb-true, eqb-false}
use Rattle.laws.specs.Lists.{at}
use Rattle.laws.proofs.Booleans.{by_bool, cond_true, cond_false}
use Rattle.junctions.specs.Sets.{holds}
use Rattle.junctions.specs.Taking.{Taken}
use Rattle.junctions.proofs.Sets.{or_holds, none_holds}
use Rattle.junctions.proofs.Taking.{taken_in, taken_left}
use Rattle.digraph.specs.Closure.{arc_from}
use Rattle.digraph.specs.Turns.{Spreading, Marking}
use Rattle.digraph.specs.Layers.{Marked}
use Rattle.digraph.proofs.Layers.{arc_from_split, arc_from_none}

pub spread_start : (out : ℕ → ℕ) (from : ℕ) → Spreading out from 0 from
spread_start out from y = ap (λ (b : Bool). b || arc_from 64 out from y) (none_holds y)

pub spread_end : (out : ℕ → ℕ) (from found rest : ℕ) → rest ≡ 0 → Spreading out from found rest → (y : ℕ) → holds found y ≡ arc_from 64 out from y
spread_end out from found rest e s y =
    sym (or-false (holds found y)) ∙ ap (λ (b : Bool). holds found y || b) (sym (arc_from_none 64 out rest y e)) ∙ s y

pub spread_step : (adjacency : List ℕ) (from found rest place left : ℕ) → Taken rest place left
    → Spreading (at adjacency) from found rest → Spreading (at adjacency) from (bit_or found (get_or adjacency place 0)) left
spread_step adjacency from found rest place left t s y =
    let out = at adjacency in
    let after = arc_from 64 out left y in
    let own : place ≡ suc place - 1 = omega arith in
    ap (λ (b : Bool). b || after)
    (or_holds found (get_or adjacency place 0) y ∙ ap (λ (k : ℕ). holds found y || holds (get_or adjacency k 0) y) own)
    ∙ or_assoc (holds found y) (holds (out (suc place)) y) after
    ∙ ap (λ (b : Bool). holds found y || b)
    (sym (arc_from_split 64 out rest (suc place) left y (omega arith) (omega (arith, t.in_range)) (taken_in t) (taken_left t)))
    ∙ s y

pub mark_end : (before now : List ℕ) (all rest : ℕ) (f : ℕ → ℕ) → length now ≡ 64 → rest ≡ 0 → Marking before now all rest f → Marked before now all f
mark_end before now all rest f n e s = record {
  size = n;
  entry = λ j l m. sym (cond_false (holds rest j) (f (at now j)) (at now j) (ap (λ (r : ℕ). holds r j) e ∙ none_holds j)) ∙ s j l m;
}

-- the place taken is marked
pub mark_step : (before now : List ℕ) (all rest place left : ℕ) (f : ℕ → ℕ) → length now ≡ 64 → Taken rest place left
    → Marking before now all rest f → Marking before (set now place (f (get_or now place 0))) all left f
mark_step before now all rest place left f n t s j l m = by_bool (eqb j (suc place)) here elsewhere ∙ s j l m
  where
    after : List ℕ
    after = set now place (f (get_or now place 0))

    here : eqb j (suc place) ≡ true → cond (holds left j) (f (at after j)) (at after j) ≡ cond (holds rest j) (f (at now j)) (at now j)
    here e =
        let is : j ≡ suc place = eqb-true j (suc place) e in
        let at_place : j - 1 ≡ place = omega (arith, is) in
        let gone : holds left j ≡ false = taken_left t j l ∙ ap (λ (b : Bool). holds rest j && not b) e ∙ and-false (holds rest j) in
        cond_false (holds left j) (f (at after j)) (at after j) gone
        ∙ ap (λ (k : ℕ). get_or after k 0) at_place
        ∙ get_or-set_same now place (f (get_or now place 0)) 0 (omega (arith, n, t.in_range))
        ∙ ap (λ (k : ℕ). f (get_or now k 0)) (sym at_place)
        ∙ sym (cond_true (holds rest j) (f (at now j)) (at now j) (ap (holds rest) is ∙ taken_in t))

    elsewhere : eqb j (suc place) ≡ false → cond (holds left j) (f (at after j)) (at after j) ≡ cond (holds rest j) (f (at now j)) (at now j)
    elsewhere e =
        let stays : holds left j ≡ holds rest j =
        taken_left t j l ∙ ap (λ (b : Bool). holds rest j && not b) e ∙ and-true (holds rest j) in
        ap₂ (λ (b : Bool) (v : ℕ). cond b (f v) v) stays
        (get_or-set_other now place (j - 1) (f (get_or now place 0)) 0 (λ q. eqb-false j (suc place) e (omega (arith, q))))
