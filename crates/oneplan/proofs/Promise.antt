-- The two replies for one file are one plan: a hall has one first choice, and cuts beside it add up to its total. Assumes nothing.
use mathlib.Core.Path.{◌≡◌, sym, ap, ◌∙◌, subst}
use mathlib.Core.List.{List, map}
use Prim.Native.Nat.{ℕ, zero, suc, ◌≤◌}
use lib.IntN.{ℤ}
use lib.ListN.{length, take, length-map}
use Rattle.laws.specs.Lists.{in_front}
use Rattle.laws.proofs.Lists.{front_fits, front_are}
use Rattle.hall.specs.Hall.{Hall}
use Rattle.hall.specs.File.{hall_in, Refusal}
use Rattle.hall.specs.Plan.{First, Beside, Cut, total, levels}
use Rattle.order.proofs.First.{first_alone}
use Rattle.oneplan.specs.Plan.{RowsAs, RowsSays, CutsAs, CutsSays, PairAs, PairSays, DemandThree, DemandThreePair, RowsAlone, OnePlan}

-- cuts beside a first choice stand beside any other, which is the same
pub beside_same : (h : Hall) (c d : List ℕ) (ks : List Cut) → First h c → First h d → Beside h d ks → Beside h c ks
beside_same h c d ks f g beside = subst (λ (e : List ℕ). Beside h e ks) (first_alone h d c g f) beside

pub one_plan : OnePlan
unfolding OnePlan
one_plan bs c d ks acc f g beside = let h = hall_in bs in (first_alone h c d f g, (beside_same h c d ks f g beside).sum)

-- WHERE THE ROWS' CALL REFUSES NOTHING: the first places hold the first choice, and the reply its total
pub record ChoiceListed (h : Hall) (k t : ℕ) (x : List ℕ) : Type 0 where
  pub fit : k ≤ length x
  pub first : First h (take k x)
  pub sum : t ≡ total h (take k x)

pub choice_listed : (h : Hall) (k t : ℕ) (a x : List ℕ) → RowsAs 0 h k t a x → ChoiceListed h k t x
unfolding RowsAs
choice_listed h k t a x (c, first, k_is, t_is, x_is) =
    let same = sym (front_are c a x k k_is x_is) in
    record { fit = front_fits c a x k k_is x_is; first = subst (First h) same first; sum = subst (λ (e : List ℕ). t ≡ total h e) same t_is }

-- WHERE THE CUTS' CALL REFUSES NOTHING: the first places hold cuts beside a first choice, and their levels
pub record CutsListed {A : Type 0} (lent : Cut → A) (h : Hall) (c : List ℕ) (q l : ℕ) (y : List A) (d w : List ℤ) : Type 0 where
  pub cuts : List Cut
  pub beside : Beside h c cuts
  pub counted : q ≡ length cuts
  pub fit : q ≤ length y
  pub listed : take q y ≡ map lent cuts
  pub leveled : l ≡ h.n
  pub levels_are : w ≡ in_front (levels h cuts) d

module _ (h : Hall) (c : List ℕ) (q l : ℕ) (first : First h c) (d w : List ℤ) where
  pub cuts_listed : {A : Type 0} (lent : Cut → A) (b y : List A) → CutsAs lent 0 h q l b y d w → CutsListed lent h c q l y d w
  unfolding CutsAs
  cuts_listed lent b y (e, ks, other, beside, q_is, l_is, y_is, w_is) =
      let many = q_is ∙ sym (length-map ks lent) in
      record {
        cuts = ks;
        beside = beside_same h c e ks first other beside;
        counted = q_is;
        fit = front_fits (map lent ks) b y q many y_is;
        listed = front_are (map lent ks) b y q many y_is;
        leveled = l_is;
        levels_are = w_is;
      }

  pairs_listed : (a x b y : List ℕ) → PairAs 0 h q l a x b y d w
      → (ks : List Cut) × Beside h c ks × (q ≡ length ks) × (take q x ≡ map (λ (k : Cut). k.shore) ks) × (take q y ≡ map (λ (k : Cut). k.weight) ks)
  unfolding PairAs
  pairs_listed a x b y (e, ks, other, beside, q_is, l_is, x_is, y_is, w_is) = (
    ks,
    beside_same h c e ks first other beside,
    q_is,
    front_are (map (λ (k : Cut). k.shore) ks) a x q (q_is ∙ sym (length-map ks (λ (k : Cut). k.shore))) x_is,
    front_are (map (λ (k : Cut). k.weight) ks) b y q (q_is ∙ sym (length-map ks (λ (k : Cut). k.weight))) y_is,
  )

pub demand_three : {A : Type 0} (lent : Cut → A) → DemandThree lent
unfolding DemandThree RowsSays CutsSays
demand_three lent bs f g k t q l a x b y d w acc rows cuts f_none g_none =
    let h = hall_in bs in
    let r = choice_listed h k t a x (subst (λ (n : ℕ). RowsAs n h k t a x) f_none rows.1) in
    let s = cuts_listed h (take k x) q l r.first d w lent b y (subst (λ (n : ℕ). CutsAs lent n h q l b y d w) g_none cuts.1) in
    (r.first, r.sum, (s.cuts, s.beside, s.counted, s.listed, s.beside.sum ∙ sym r.sum))

pub demand_three_pair : DemandThreePair
unfolding DemandThreePair RowsSays PairSays
demand_three_pair bs f g k t q l a x b y e z d w acc rows cuts f_none g_none =
    let h = hall_in bs in
    let r = choice_listed h k t a x (subst (λ (n : ℕ). RowsAs n h k t a x) f_none rows.1) in
    let s = pairs_listed h (take k x) q l r.first d w b y e z (subst (λ (n : ℕ). PairAs n h q l b y e z d w) g_none cuts.1) in
    (r.first, r.sum, (s.0, s.1, s.2, s.3, s.4, s.1.sum ∙ sym r.sum))

alone_as : (n : ℕ) (h : Hall) (k l t u : ℕ) (a x y : List ℕ) → RowsAs n h k t a x → RowsAs n h l u a y → (k ≡ l) × (t ≡ u) × (x ≡ y)
unfolding RowsAs
alone_as zero h k l t u a x y (c, first, k_is, t_is, x_is) (d, other, l_is, u_is, y_is) =
    let same = first_alone h c d first other in
    (k_is ∙ ap length same ∙ sym l_is, t_is ∙ ap (total h) same ∙ sym u_is, x_is ∙ ap (λ (e : List ℕ). in_front e a) same ∙ sym y_is)
alone_as (suc n) h k l t u a x y (k_is, t_is, x_is) (l_is, u_is, y_is) = (k_is ∙ sym l_is, t_is ∙ sym u_is, x_is ∙ sym y_is)

pub rows_alone : RowsAlone
unfolding RowsAlone RowsSays
rows_alone bs a x y f g k l t u bytes one other =
    let same : f ≡ g = one.0 ∙ sym other.0 in
    let alone = alone_as f.number (hall_in bs) k l t u a x y one.1 (subst (λ (e : Refusal). RowsAs e.number (hall_in bs) l u a y) (sym same) other.1) in
    (same, alone.0, alone.1, alone.2)
