-- Solid arcs, second arcs and known sets lead to robust junctions, and a set that grows by these stays right. Assumes nothing.
use mathlib.Core.Path.{◌≡◌, refl, sym, ap, ap₂, ◌∙◌}
use mathlib.Core.Bool.{Bool, true, false, ◌&&◌, ◌||◌, not}
use mathlib.Core.List.{List}
use mathlib.Core.Logic.{◌⊎◌, inl, inr, ⊎_elim}
use Prim.Native.Nat.{ℕ, suc, ◌-◌, ◌^◌, ◌≤◌, ◌<◌}
use native.Mathlib.Omega.{arith}
use lib.Bits.{bit_and, bit_or, or_lt, and_le_l}
use lib.Dec.{eqb}
use lib.ListN.{get_or}
use borrow.Author.Tests.{eq-eqb, eqb-true, not-true}
use Rattle.laws.specs.Lists.{at}
use Rattle.laws.proofs.Lists.{at-suc}
use Rattle.laws.proofs.Booleans.{by_bool, clash, and_l, and_r, and_i, or_cases, or_l, or_r, or_false_l, or_false_r, not_true_false, not_false_true}
use Rattle.junctions.specs.Sets.{holds, Within}
use Rattle.junctions.specs.Taking.{Taken}
use Rattle.junctions.proofs.Sets.{and_holds, or_holds}
use Rattle.junctions.proofs.Taking.{taken_in}
use Rattle.junctions.proofs.Single.{one_lt, one_within}
use Rattle.digraph.specs.Reach.{Closed, Reach}
use Rattle.growth.specs.Robust.{arcs_without, Robust}
use Rattle.growth.specs.Growth.{AllRobust, done, Known, Growing}
use Rattle.growth.proofs.Cut.{cut_stays}
use Rattle.growth.proofs.Reached.{reach_some}
use Rattle.growth.proofs.Expanding.{left_after, left_holds}

-- u is in all that v reaches
abbrev Led : (out : ℕ → ℕ) → (v u : ℕ) → Type 0
Led out v u = (s : ℕ) → Reach 64 out (2 ^ (v - 1)) s → holds s u ≡ true

module _ (out : ℕ → ℕ) (v : ℕ) where
  led_arc : (x y : ℕ) → 1 ≤ x → x ≤ 64 → 1 ≤ y → Led out v x → holds (out x) y ≡ true → Led out v y
  unfolding Closed Within
  led_arc x y l m k p a s g = g.closed x l m (p s g) y k a

  led_through : (x u : ℕ) → 1 ≤ x → x ≤ 64 → 1 ≤ u → Led out v x → Led out x u → Led out v u
  unfolding Within
  led_through x u l m k p q s g =
      let w = reach_some 64 out (2 ^ (x - 1)) (one_lt 64 x l m) in
      w.1.least s (one_within s x l (p s g)) g.closed u k (q w.0 w.1)

module _ (out solids : ℕ → ℕ) (v : ℕ) where
  -- where a solid arc leads to
  pub robust_firm :
      (x y : ℕ) → 1 ≤ x → x ≤ 64 → 1 ≤ y → Robust out solids v x → holds (out x) y ≡ true → holds (solids x) y ≡ true → Robust out solids v y
  robust_firm x y l m k r arc sure =
      record {
        reached = led_arc out v x y l m k r.reached arc;
        still = λ a b la ma lb loose.
            led_arc (arcs_without out a b) v x y l m k (r.still a b la ma lb loose)
            (cut_stays out a b x y lb k arc (λ p q. clash (sym (ap₂ (λ (i j : ℕ). holds (solids i) j) p q) ∙ sure) loose));
      }

  -- where arcs of two junctions lead to
  pub robust_second :
      (x z y : ℕ) → 1 ≤ x → x ≤ 64 → 1 ≤ z → z ≤ 64 → 1 ≤ y → (x ≡ z → ⊥) → Robust out solids v x → Robust out solids v z →
      holds (out x) y ≡ true → holds (out z) y ≡ true → Robust out solids v y
  robust_second x z y lx mx lz mz k two rx rz from_x from_z =
      record {
        reached = led_arc out v x y lx mx k rx.reached from_x;
        still = λ a b la ma lb loose.
            by_bool (eqb x a)
            (λ e.
            led_arc (arcs_without out a b) v z y lz mz k (rz.still a b la ma lb loose)
            (cut_stays out a b z y lb k from_z (λ p q. two (eqb-true x a e ∙ sym p))))
            (λ e.
            led_arc (arcs_without out a b) v x y lx mx k (rx.still a b la ma lb loose)
            (cut_stays out a b x y lb k from_x (λ p q. clash (eq-eqb x a p) e)));
      }

  -- what is robust from a robust junction
  pub robust_through : (x u : ℕ) → 1 ≤ x → x ≤ 64 → 1 ≤ u → Robust out solids v x → Robust out solids x u → Robust out solids v u
  robust_through x u l m k p q =
      record {
        reached = led_through out v x u l m k p.reached q.reached;
        still = λ a b la ma lb loose.
            led_through (arcs_without out a b) v x u l m k (p.still a b la ma lb loose) (q.still a b la ma lb loose);
      }

-- junction x of those to do is expanded: what is sure goes into the set, and is to do where it was not there
module _ (out solids : ℕ → ℕ) (v set todo once x sure near set' todo' once' : ℕ) (from_one : 1 ≤ x) (to_last : x ≤ 64)
    (here : holds todo x ≡ true)
    (sure_is : (i : ℕ) → holds sure i ≡ ((holds (out x) i && (holds (solids x) i || holds once i)) || holds near i))
    (set_is : (i : ℕ) → holds set' i ≡ (holds set i || holds sure i))
    (todo_is : (i : ℕ) → 1 ≤ i → holds todo' i ≡ ((holds todo i && not (eqb i x)) || (holds sure i && not (holds set i))))
    (once_is : (i : ℕ) → holds once' i ≡ (holds once i || holds (out x) i)) (near_robust : AllRobust out solids x near)
    (g : Growing out solids v set todo once) where
  keeps : (i : ℕ) → holds set i ≡ true → holds set' i ≡ true
  keeps i t = set_is i ∙ or_l (holds set i) (holds sure i) t

  gains : (i : ℕ) → holds sure i ≡ true → holds set' i ≡ true
  gains i t = set_is i ∙ or_r (holds set i) (holds sure i) t

  outside : (i : ℕ) → holds set' i ≡ false → (holds set i ≡ false) × (holds sure i ≡ false)
  outside i f = let e = sym (set_is i) ∙ f in (or_false_l (holds set i) (holds sure i) e, or_false_r (holds set i) (holds sure i) e)

  -- what an arc of x leads to is sure if the arc is solid, or an earlier arc leads there
  sure_arc : (y : ℕ) → holds (out x) y ≡ true → (holds (solids x) y || holds once y) ≡ true → holds sure y ≡ true
  sure_arc y a t =
      sure_is y
      ∙ or_l (holds (out x) y && (holds (solids x) y || holds once y)) (holds near y) (and_i (holds (out x) y) (holds (solids x) y || holds once y) a t)

  in_set : holds set x ≡ true
  unfolding Within
  in_set = g.pending x from_one here

  x_robust : Robust out solids v x
  x_robust = g.robust x from_one in_set

  done-set : (i : ℕ) → done set todo i ≡ true → holds set i ≡ true
  done-set i t = and_l (holds set i) (not (holds todo i)) t

  done_other : (i : ℕ) → done set todo i ≡ true → x ≡ i → ⊥
  done_other i t e = clash (sym (ap (holds todo) e) ∙ here) (not-true (holds todo i) (and_r (holds set i) (not (holds todo i)) t))

  sure_robust : (u : ℕ) → 1 ≤ u → holds sure u ≡ true → Robust out solids v u
  sure_robust u l t =
      let arc = holds (out x) u in
      let twice = holds (solids x) u || holds once u in
      ⊎_elim
      (λ (e : (arc && twice) ≡ true).
      let a = and_l arc twice e in
      ⊎_elim (λ (f : holds (solids x) u ≡ true). robust_firm out solids v x u from_one to_last l x_robust a f)
      (λ (o : holds once u ≡ true).
      let w = g.from u l o in
      robust_second out solids v x w.0 u from_one to_last w.1 w.2 l (done_other w.0 w.3) x_robust
      (g.robust w.0 w.1 (done-set w.0 w.3)) a w.4)
      (or_cases (holds (solids x) u) (holds once u) (and_r arc twice e)))
      (λ (e : holds near u ≡ true). robust_through out solids v x u from_one to_last l x_robust (near_robust u l e))
      (or_cases (arc && twice) (holds near u) (sym (sure_is u) ∙ t))

  todo_cases : (i : ℕ) → 1 ≤ i → holds todo' i ≡ true
      → ((holds todo i ≡ true) × (eqb i x ≡ false)) ⊎ ((holds sure i ≡ true) × (holds set i ≡ false))
  todo_cases i l t =
      let old = holds todo i && not (eqb i x) in
      let fresh = holds sure i && not (holds set i) in
      ⊎_elim
      (λ (e : old ≡ true). inl (and_l (holds todo i) (not (eqb i x)) e, not-true (eqb i x) (and_r (holds todo i) (not (eqb i x)) e)))
      (λ (e : fresh ≡ true). inr (and_l (holds sure i) (not (holds set i)) e, not-true (holds set i) (and_r (holds sure i) (not (holds set i)) e)))
      (or_cases old fresh (sym (todo_is i l) ∙ t))

  -- x is done now, and what was done still is
  done_keeps : (i : ℕ) → 1 ≤ i → done set todo i ≡ true → done set' todo' i ≡ true
  done_keeps i l t =
      let was = done-set i t in
      and_i (holds set' i) (not (holds todo' i)) (keeps i was)
      (ap not
      (not_true_false (holds todo' i)
      (λ e.
      ⊎_elim
      (λ (q : (holds todo i ≡ true) × (eqb i x ≡ false)). clash q.0 (not-true (holds todo i) (and_r (holds set i) (not (holds todo i)) t)))
      (λ (q : (holds sure i ≡ true) × (holds set i ≡ false)). clash was q.1) (todo_cases i l e))))

  done_here : done set' todo' x ≡ true
  done_here =
      and_i (holds set' x) (not (holds todo' x)) (keeps x in_set)
      (ap not
      (not_true_false (holds todo' x)
      (λ e.
      ⊎_elim (λ (q : (holds todo x ≡ true) × (eqb x x ≡ false)). clash (eq-eqb x x refl) q.1)
      (λ (q : (holds sure x ≡ true) × (holds set x ≡ false)). clash in_set q.1) (todo_cases x from_one e))))

  -- and nothing else is
  done_cases : (i : ℕ) → 1 ≤ i → done set' todo' i ≡ true → (i ≡ x) ⊎ (done set todo i ≡ true)
  done_cases i l t =
      let old = holds todo i && not (eqb i x) in
      let fresh = holds sure i && not (holds set i) in
      let none : (old || fresh) ≡ false = sym (todo_is i l) ∙ not-true (holds todo' i) (and_r (holds set' i) (not (holds todo' i)) t) in
      by_bool (eqb i x) (λ e. inl (eqb-true i x e))
      (λ o.
      let left : holds todo i ≡ false =
      not_true_false (holds todo i) (λ e. clash (and_i (holds todo i) (not (eqb i x)) e (ap not o)) (or_false_l old fresh none)) in
      let was : holds set i ≡ true =
      ⊎_elim (λ (e : holds set i ≡ true). e)
      (λ (a : holds sure i ≡ true).
      not_false_true (holds set i) (λ e. clash (and_i (holds sure i) (not (holds set i)) a (ap not e)) (or_false_r old fresh none)))
      (or_cases (holds set i) (holds sure i) (sym (set_is i) ∙ and_l (holds set' i) (not (holds todo' i)) t)) in
      inr (and_i (holds set i) (not (holds todo i)) was (ap not left)))

  -- an arc of x and one of a junction that was done lead to y only if y is sure
  meet : (i y : ℕ) → 1 ≤ i → i ≤ 64 → 1 ≤ y → done set todo i ≡ true → holds (out i) y ≡ true → holds (out x) y ≡ true → holds sure y ≡ true
  meet i y l m k d a b = sure_arc y b (or_r (holds (solids x) y) (holds once y) (g.onto i y l m k d a))

  at_x : (i y : ℕ) → i ≡ x → holds (out i) y ≡ true → holds (out x) y ≡ true
  at_x i y e a = sym (ap (λ (j : ℕ). holds (out j) y) e) ∙ a

  growing_on : Growing out solids v set' todo' once'
  unfolding Within
  growing_on = record {
    robust = λ u l t.
        ⊎_elim (λ (e : holds set u ≡ true). g.robust u l e) (λ (e : holds sure u ≡ true). sure_robust u l e)
        (or_cases (holds set u) (holds sure u) (sym (set_is u) ∙ t));
    own = keeps v g.own;
    pending = λ i l t.
        ⊎_elim (λ (e : (holds todo i ≡ true) × (eqb i x ≡ false)). keeps i (g.pending i l e.0))
        (λ (e : (holds sure i ≡ true) × (holds set i ≡ false)). gains i e.0) (todo_cases i l t);
    solid_in = λ i y l m k d a f.
        ⊎_elim
        (λ (e : i ≡ x).
        gains y (sure_arc y (at_x i y e a) (or_l (holds (solids x) y) (holds once y) (sym (ap (λ (j : ℕ). holds (solids j) y) e) ∙ f))))
        (λ (e : done set todo i ≡ true). keeps y (g.solid_in i y l m k e a f)) (done_cases i l d);
    onto = λ i y l m k d a.
        once_is y
        ∙ ⊎_elim (λ (e : i ≡ x). or_r (holds once y) (holds (out x) y) (at_x i y e a))
        (λ (e : done set todo i ≡ true). or_l (holds once y) (holds (out x) y) (g.onto i y l m k e a)) (done_cases i l d);
    from = λ y k t.
        ⊎_elim
        (λ (e : holds once y ≡ true). let w = g.from y k e in (w.0, w.1, w.2, done_keeps w.0 w.1 w.3, w.4))
        (λ (e : holds (out x) y ≡ true). (x, from_one, to_last, done_here, e))
        (or_cases (holds once y) (holds (out x) y) (sym (once_is y) ∙ t));
    lone = λ i z y li mi lz mz k di dz ai az f.
        let off = outside y f in
        ⊎_elim
        (λ (e : i ≡ x).
        ⊎_elim (λ (o : z ≡ x). e ∙ sym o) (λ (o : done set todo z ≡ true). clash (meet z y lz mz k o az (at_x i y e ai)) off.1)
        (done_cases z lz dz))
        (λ (e : done set todo i ≡ true).
        ⊎_elim (λ (o : z ≡ x). clash (meet i y li mi k e ai (at_x z y o az)) off.1)
        (λ (o : done set todo z ≡ true). g.lone i z y li mi lz mz k e o ai az off.0) (done_cases z lz dz))
        (done_cases i li di);
  }

-- what is sure of a junction, from its arcs, its solid arcs, what arcs were found before, and what is known of it
abbrev pub sure_of : (next solids once near : ℕ) → ℕ
sure_of next solids once near = bit_or (bit_and next (bit_or solids once)) near

pub sure_fits : (next solids once near : ℕ) → next < 2 ^ 64 → near < 2 ^ 64 → sure_of next solids once near < 2 ^ 64
sure_fits next solids once near next_fits near_fits =
    or_lt 64 (bit_and next (bit_or solids once)) near (omega (arith, and_le_l next (bit_or solids once), next_fits)) near_fits

-- the machine's step: the junction at a place taken is expanded
pub growing_step :
    (arcs solid known : List ℕ) (v set todo once place left : ℕ) →
    let sure = sure_of (get_or arcs place 0) (get_or solid place 0) once (get_or known place 0) in
    set < 2 ^ 64 → sure < 2 ^ 64 → Taken todo place left → Known (at arcs) (at solid) (at known) → Growing (at arcs) (at solid) v set todo once →
    Growing (at arcs) (at solid) v (bit_or set sure) (left_after set left sure) (bit_or once (get_or arcs place 0))
growing_step arcs solid known v set todo once place left small fits taken known_robust g =
    let x : ℕ = suc place in
    let next = get_or arcs place 0 in
    let strong = get_or solid place 0 in
    let near = get_or known place 0 in
    let sure = sure_of next strong once near in
    let high : x ≤ 64 = omega (arith, taken.in_range) in
    growing_on (at arcs) (at solid) v set todo once x sure near (bit_or set sure) (left_after set left sure) (bit_or once next) (omega arith) high
    (taken_in taken)
    (λ i.
    or_holds (bit_and next (bit_or strong once)) near i
    ∙ ap (λ (b : Bool). b || holds near i)
    (and_holds next (bit_or strong once) i
    ∙ ap₂ ◌&&◌ (ap (λ (s : ℕ). holds s i) (sym (at-suc arcs place)))
    (or_holds strong once i ∙ ap (λ (s : ℕ). holds s i || holds once i) (sym (at-suc solid place)))))
    (or_holds set sure)
    (left_holds set todo sure place left small fits taken)
    (λ i. or_holds once next i ∙ ap (λ (s : ℕ). holds once i || holds s i) (sym (at-suc arcs place)))
    (rw (at-suc known place) at (known_robust x (omega arith) high)) g

-- what is in a set is in it with more, and so is the more
pub within_more : (a b c : ℕ) → Within a b → Within a (bit_or b c)
unfolding Within
within_more a b c w j l t = or_holds b c j ∙ or_l (holds b j) (holds c j) (w j l t)

pub more_within : (set more : ℕ) → Within more (bit_or set more)
unfolding Within
more_within set more j l t = or_holds set more j ∙ or_r (holds set j) (holds more j) t
