-- A robust set grows by a junction in which searches from two of its heads meet, and is whole where they keep apart. Assumes nothing.
use mathlib.Core.Path.{◌≡◌, sym, ap, ◌∙◌}
use mathlib.Core.Bool.{Bool, true, false, ◌&&◌, ◌||◌, not}
use mathlib.Core.Logic.{⊎_elim}
use Prim.Native.Nat.{ℕ, ◌-◌, ◌^◌, ◌≤◌, ◌<◌}
use native.Mathlib.Omega.{arith}
use lib.Bits.{bit_and, bit_or, or_add_and}
use lib.Dec.{eqb}
use borrow.Author.Tests.{eqb-true, eqb-false, eq-eqb, not-true}
use Rattle.laws.proofs.Booleans.{by_bool, clash, and_l, and_r, and_i, or_cases, or_l, or_r, or_false_l, or_false_r, not_true_false}
use Rattle.laws.proofs.Growth.{lt_two_pow}
use Rattle.junctions.specs.Sets.{holds, Within}
use Rattle.junctions.proofs.Sets.{and_holds, or_holds, none_holds, some_junction}
use Rattle.junctions.proofs.Members.{within_le}
use Rattle.junctions.proofs.Single.{one_lt, one_self, one_within}
use Rattle.digraph.specs.Reach.{Closed, Reach}
use Rattle.growth.specs.Robust.{arcs_without, Bypass, Robust, RobustSet}
use Rattle.growth.specs.Growth.{AllRobust, done, Growing, Met, SearchPart, KeptApart, Meeting}
use Rattle.growth.proofs.Cut.{cut_holds, cut_stays}
use Rattle.growth.proofs.Reached.{reach_some}
use Rattle.growth.proofs.Meetings.{less, less_i, less_l, less_r}

-- what is reached without an arc holds what any other arc from it leads to
spared_arc :
    (out : ℕ → ℕ) (v a b s : ℕ) → 1 ≤ b → Bypass out v a b s → (x i : ℕ) → 1 ≤ x → x ≤ 64 → 1 ≤ i → holds s x ≡ true → holds (out x) i ≡ true →
    (x ≡ a → i ≡ b → ⊥) → holds s i ≡ true
unfolding Closed Within
spared_arc out v a b s lb reach x i lx hx li t arc other = reach.closed x lx hx t i li (cut_stays out a b x i lb li arc other)

-- at first the set holds v only, which is to do
pub growing_start : (out solids : ℕ → ℕ) (v : ℕ) → 1 ≤ v → Growing out solids v (bit_or 0 (2 ^ (v - 1))) (2 ^ (v - 1)) 0
unfolding Within
growing_start out solids v lv =
    let start = 2 ^ (v - 1) in
    let all : (x : ℕ) → holds (bit_or 0 start) x ≡ holds start x =
    λ x. or_holds 0 start x ∙ ap (λ (b : Bool). b || holds start x) (none_holds x) in
    let none : (x : ℕ) → done (bit_or 0 start) start x ≡ true → ⊥ =
    λ x e.
    clash (sym (all x) ∙ and_l (holds (bit_or 0 start) x) (not (holds start x)) e)
    (not-true (holds start x) (and_r (holds (bit_or 0 start) x) (not (holds start x)) e)) in
    record {
      robust = λ u l t.
          record { reached = λ s g. g.contains u l (sym (all u) ∙ t); still = λ x y lx hx ly loose s g. g.contains u l (sym (all u) ∙ t) };
      own = all v ∙ one_self v lv;
      pending = λ u l t. all u ∙ t;
      solid_in = λ x y lx hx ly d. absurd (none x d);
      onto = λ x y lx hx ly d. absurd (none x d);
      from = λ y l t. clash t (none_holds y);
      lone = λ x z y lx hx lz hz ly d. absurd (none x d);
    }

-- a set that has none to do
module _ (out solids : ℕ → ℕ) (v set once : ℕ) (g : Growing out solids v set 0 once) where
  abbrev heads : ℕ
  heads = less once set

  done_in : (x : ℕ) → done set 0 x ≡ true → holds set x ≡ true
  done_in x e = and_l (holds set x) (not (holds 0 x)) e

  in_done : (x : ℕ) → holds set x ≡ true → done set 0 x ≡ true
  in_done x e = and_i (holds set x) (not (holds 0 x)) e (ap not (none_holds x))

  -- an arc leads to a head from the set
  head_from : (h : ℕ) → 1 ≤ h → holds heads h ≡ true → (x : ℕ) × (1 ≤ x) × (x ≤ 64) × (holds set x ≡ true) × (holds (out x) h ≡ true)
  head_from h l t =
      let w = g.from h l (less_l once set h t) in
      (w.0, w.1, w.2, done_in w.0 w.3, w.4)

  -- what arcs from the set lead to outside it are heads
  head_is : (x y : ℕ) → 1 ≤ x → x ≤ 64 → 1 ≤ y → holds set x ≡ true → holds (out x) y ≡ true → holds set y ≡ false → holds heads y ≡ true
  head_is x y lx hx ly t arc free = less_i once set y (g.onto x y lx hx ly (in_done x t) arc) free

  -- with what is robust, which is then to do
  pub growing_met :
      (met : ℕ) → AllRobust out solids v met → ((y : ℕ) → 1 ≤ y → holds met y ≡ true → holds set y ≡ false) →
      Growing out solids v (bit_or set met) met once
  unfolding Within
  growing_met met robust fresh =
      let both = bit_or set met in
      let old : (x : ℕ) → holds set x ≡ true → holds both x ≡ true = λ x t. or_holds set met x ∙ or_l (holds set x) (holds met x) t in
      let was : (x : ℕ) → done both met x ≡ true → done set 0 x ≡ true =
      λ x e.
      in_done x
      (⊎_elim (λ (t : holds set x ≡ true). t)
      (λ (t : holds met x ≡ true). clash t (not-true (holds met x) (and_r (holds both x) (not (holds met x)) e)))
      (or_cases (holds set x) (holds met x) (sym (or_holds set met x) ∙ and_l (holds both x) (not (holds met x)) e))) in
      let still : (x : ℕ) → 1 ≤ x → done set 0 x ≡ true → done both met x ≡ true =
      λ x l e.
      and_i (holds both x) (not (holds met x)) (old x (done_in x e))
      (ap not (not_true_false (holds met x) (λ t. clash (done_in x e) (fresh x l t)))) in
      record {
        robust = λ u l t.
            ⊎_elim (λ (e : holds set u ≡ true). g.robust u l e) (λ (e : holds met u ≡ true). robust u l e)
            (or_cases (holds set u) (holds met u) (sym (or_holds set met u) ∙ t));
        own = old v g.own;
        pending = λ u l t. or_holds set met u ∙ or_r (holds set u) (holds met u) t;
        solid_in = λ x y lx hx ly d arc solid. old y (g.solid_in x y lx hx ly (was x d) arc solid);
        onto = λ x y lx hx ly d arc. g.onto x y lx hx ly (was x d) arc;
        from = λ y l t. let w = g.from y l t in (w.0, w.1, w.2, still w.0 w.1 w.3, w.4);
        lone = λ x z y lx hx lz hz ly d e a b f.
            g.lone x z y lx hx lz hz ly (was x d) (was z e) a b (or_false_l (holds set y) (holds met y) (sym (or_holds set met y) ∙ f));
      }

  -- a junction in which two searches meet is robust: no one arc is in the way of both
  pub robust_met : (y : ℕ) → Met out set heads y → Robust out solids v y
  unfolding Closed Within
  robust_met y m =
      let first = m.first in
      let second = m.second in
      let other = m.other in
      let one = head_from first m.first_low m.first_head in
      let two = head_from second m.second_low m.second_head in
      record {
        reached = λ s r.
            m.by_first s (r.closed one.0 one.1 one.2 ((g.robust one.0 one.1 one.3).reached s r) first m.first_low one.4)
            (λ x lx hx p t. r.closed x lx hx t);
        still = λ a b la ha lb loose s r.
            let in_s : (x : ℕ) → 1 ≤ x → holds set x ≡ true → holds s x ≡ true = λ x l t. (g.robust x l t).still a b la ha lb loose s r in
            let that = eqb a one.0 && eqb b first in
            by_bool (holds other a || that)
            (λ q.
            m.by_second s
            (spared_arc out v a b s lb r two.0 second two.1 two.2 m.second_low (in_s two.0 two.1 two.3) two.4
            (λ at to.
            ⊎_elim (λ (o : holds other a ≡ true). clash two.3 (m.beside two.0 two.1 (ap (holds other) at ∙ o)))
            (λ (e : that ≡ true). m.two (sym (eqb-true b first (and_r (eqb a one.0) (eqb b first) e)) ∙ sym to))
            (or_cases (holds other a) that q)))
            (λ x lx hx p t i li arc.
            let away = not-true (holds set x || holds other x) p in
            spared_arc out v a b s lb r x i lx hx li t arc
            (λ at to.
            ⊎_elim (λ (o : holds other a ≡ true). clash (ap (holds other) at ∙ o) (or_false_r (holds set x) (holds other x) away))
            (λ (e : that ≡ true).
            clash (ap (holds set) (at ∙ eqb-true a one.0 (and_l (eqb a one.0) (eqb b first) e)) ∙ one.3)
            (or_false_l (holds set x) (holds other x) away))
            (or_cases (holds other a) that q))))
            (λ q.
            m.by_first s
            (spared_arc out v a b s lb r one.0 first one.1 one.2 m.first_low (in_s one.0 one.1 one.3) one.4
            (λ at to.
            clash (and_i (eqb a one.0) (eqb b first) (eq-eqb a one.0 (sym at)) (eq-eqb b first (sym to))) (or_false_r (holds other a) that q)))
            (λ x lx hx p t i li arc.
            spared_arc out v a b s lb r x i lx hx li t arc (λ at to. clash (ap (holds other) (sym at) ∙ p) (or_false_l (holds other a) that q))));
      }

  -- what the searches meet in comes to the set
  pub growing_meeting : (met : ℕ) → Meeting out set heads met → Growing out solids v (bit_or set met) met once
  growing_meeting met m = growing_met met (λ u l t. robust_met u (m.met u l t).1) (λ u l t. (m.met u l t).0)

  -- the parts beside the set keep apart
  module _ (v_low : 1 ≤ v) (v_high : v ≤ 64) (fits : set < 2 ^ 64) (all : ℕ) (parted : KeptApart out set heads all) where
    abbrev start : ℕ
    start = 2 ^ (v - 1)

    -- what is reached lies in any set that holds the set and is closed
    reached_in : (to : ℕ → ℕ) (t : ℕ) → Within set t → Closed 64 to t → (s : ℕ) × Reach 64 to start s × Within s t
    unfolding Within
    reached_in to t more shut =
        let r = reach_some 64 to start (one_lt 64 v v_low v_high) in
        (r.0, r.1, r.1.least t (one_within t v v_low (more v v_low g.own)) shut)

    -- nothing of a part is robust: the one arc to its head is in the way
    part_lost : (part h u : ℕ) → SearchPart out set heads all part h → 1 ≤ u → holds set u ≡ false → holds part u ≡ true → Robust out solids v u → ⊥
    unfolding Within Closed
    part_lost part h u p lu far in_part robust =
        let w = head_from h p.low p.head in
        let x = w.0 in
        let rest = less all part in
        let t = bit_or set rest in
        let h_out : holds set h ≡ false = parted.beside h p.low (parted.heads_in h p.low p.head) in
        let loose : holds (solids x) h ≡ false =
        not_true_false (holds (solids x) h) (λ e. clash (g.solid_in x h w.1 w.2 p.low (in_done x w.3) w.4 e) h_out) in
        let old : (i : ℕ) → holds set i ≡ true → holds t i ≡ true = λ i e. or_holds set rest i ∙ or_l (holds set i) (holds rest i) e in
        let new : (i : ℕ) → holds all i ≡ true → holds part i ≡ false → holds t i ≡ true =
        λ i e f. or_holds set rest i ∙ or_r (holds set i) (holds rest i) (less_i all part i e f) in
        let shut : Closed 64 (arcs_without out x h) t =
        λ j lj hj e i li a.
        let mask = eqb j x && eqb i h in
        let both = sym (cut_holds out x h j i p.low li) ∙ a in
        let arc = and_l (holds (out j) i) (not mask) both in
        let not_it = not-true mask (and_r (holds (out j) i) (not mask) both) in
        by_bool (holds set i) (old i)
        (λ i_out.
        ⊎_elim
        (λ (from_set : holds set j ≡ true).
        let head = head_is j i lj hj li from_set arc i_out in
        new i (parted.heads_in i li head)
        (not_true_false (holds part i)
        (λ q.
        let to : i ≡ h = p.sole i li head q in
        let at : j ≡ x =
        g.lone j x h lj hj w.1 w.2 p.low (in_done j from_set) (in_done x w.3) (ap (holds (out j)) (sym to) ∙ arc) w.4 h_out in
        clash (and_i (eqb j x) (eqb i h) (eq-eqb j x at) (eq-eqb i h to)) not_it)))
        (λ (from_rest : holds rest j ≡ true).
        let q = p.rest j i lj hj li (less_l all part j from_rest) (less_r all part j from_rest) arc i_out in
        new i q.0 q.1)
        (or_cases (holds set j) (holds rest j) (sym (or_holds set rest j) ∙ e))) in
        let r = reached_in (arcs_without out x h) t (λ i l e. old i e) shut in
        ⊎_elim (λ (e : holds set u ≡ true). clash e far)
        (λ (e : holds rest u ≡ true). clash in_part (less_r all part u e))
        (or_cases (holds set u) (holds rest u)
        (sym (or_holds set rest u) ∙ r.2 u lu (robust.still x h w.1 w.2 p.low loose r.0 r.1)))

    -- where there is a part, what is reached outside the set is in it or in another
    some_lost : (y : ℕ) → 1 ≤ y → holds all y ≡ true → (u : ℕ) → 1 ≤ u → holds set u ≡ false → Robust out solids v u → ⊥
    unfolding Within Closed
    some_lost y ly in_all u lu far robust =
        let w = parted.parts y ly in_all in
        let part = w.0 in
        let p = w.3 in
        let beside = bit_or all part in
        let t = bit_or set beside in
        let old : (i : ℕ) → holds set i ≡ true → holds t i ≡ true = λ i e. or_holds set beside i ∙ or_l (holds set i) (holds beside i) e in
        let new : (i : ℕ) → (holds all i || holds part i) ≡ true → holds t i ≡ true =
        λ i e. or_holds set beside i ∙ or_r (holds set i) (holds beside i) (or_holds all part i ∙ e) in
        let shut : Closed 64 out t =
        λ j lj hj e i li arc.
        by_bool (holds set i) (old i)
        (λ i_out.
        ⊎_elim
        (λ (from_set : holds set j ≡ true). new i (or_l (holds all i) (holds part i) (parted.heads_in i li (head_is j i lj hj li from_set arc i_out))))
        (λ (from_beside : holds beside j ≡ true).
        by_bool (holds part j) (λ q. new i (or_r (holds all i) (holds part i) (p.shut j i lj hj li q arc i_out)))
        (λ q.
        ⊎_elim (λ (a : holds all j ≡ true). new i (or_l (holds all i) (holds part i) (p.rest j i lj hj li a q arc i_out).0))
        (λ (a : holds part j ≡ true). clash a q) (or_cases (holds all j) (holds part j) (sym (or_holds all part j) ∙ from_beside))))
        (or_cases (holds set j) (holds beside j) (sym (or_holds set beside j) ∙ e))) in
        let r = reached_in out t (λ i l e. old i e) shut in
        ⊎_elim (λ (e : holds set u ≡ true). clash e far)
        (λ (e : holds beside u ≡ true).
        ⊎_elim
        (λ (a : holds all u ≡ true).
        let o = parted.parts u lu a in
        part_lost o.0 o.1 u o.3 lu far o.2 robust)
        (λ (a : holds part u ≡ true). part_lost part w.1 u p lu far a robust)
        (or_cases (holds all u) (holds part u) (sym (or_holds all part u) ∙ e)))
        (or_cases (holds set u) (holds beside u) (sym (or_holds set beside u) ∙ r.2 u lu (robust.reached r.0 r.1)))

    -- where there is none, no arc leads out of the set
    none_lost : all ≡ 0 → (u : ℕ) → 1 ≤ u → holds set u ≡ false → Robust out solids v u → ⊥
    unfolding Within Closed
    none_lost none u lu far robust =
        let shut : Closed 64 out set =
        λ j lj hj e i li arc.
        by_bool (holds set i) (λ q. q)
        (λ i_out. clash (parted.heads_in i li (head_is j i lj hj li e arc i_out)) (ap (λ (s : ℕ). holds s i) none ∙ none_holds i)) in
        let r = reached_in out set (λ i l e. e) shut in
        clash (r.2 u lu (robust.reached r.0 r.1)) far

    pub grown_all : RobustSet out solids v set
    grown_all =
        record {
          low = fits;
          holds_robust = g.robust;
          robust_holds = λ u l m r.
              by_bool (holds set u) (λ e. e)
              (λ far.
              by_bool (eqb all 0) (λ none. absurd (none_lost (eqb-true all 0 none) u l far r))
              (λ some.
              let w = some_junction all all (omega (arith, eqb-false all 0 some)) (lt_two_pow all) in
              absurd (some_lost w.0 w.1 w.3 u l far r)));
        }

-- a set that gets junctions from outside it grows
pub set_more : (set met grown : ℕ) → 0 < met → ((y : ℕ) → 1 ≤ y → holds met y ≡ true → holds set y ≡ false) → Within (bit_or set met) grown → set < grown
unfolding Within
set_more set met grown some fresh within =
    let none : bit_and set met ≤ 0 =
    within_le (bit_and set met) 0
    (λ y l t.
    let both = sym (and_holds set met y) ∙ t in
    clash (and_l (holds set y) (holds met y) both) (fresh y l (and_r (holds set y) (holds met y) both))) in
    omega (arith, none, or_add_and set met, within_le (bit_or set met) grown within)
