-- A certificate of a potential that meets P1 and P2 for the charges: its loads are within the prices but for fixed rows, its weights add up to what the chosen rows are charged,
-- and its cuts stand beside a choice of that total. Assumes nothing.
use mathlib.Core.Path.{◌≡◌, refl, sym, ap, ◌∙◌}
use mathlib.Core.Bool.{Bool, true, false, ◌||◌, cond}
use mathlib.Core.List.{List, [], ◌∷◌}
use Prim.Native.Nat.{ℕ, zero, suc, ◌+◌, ◌-◌, ◌*◌, ◌≤◌, ◌<◌}
use native.Mathlib.Omega.{arith}
use lib.Dec.{eqb, leb}
use lib.ListN.{length, get_or}
use borrow.Author.Tests.{le-leb, eq-eqb}
use Rattle.laws.specs.Finite.{sum_below, one_if}
use Rattle.laws.proofs.Booleans.{by_bool, and_i, or_l, or_r}
use Rattle.laws.proofs.DoubleSums.{cond_add}
use Rattle.laws.proofs.Finite.{sum_ext, sum_add, sum-zero}
use Rattle.hall.specs.Hall.{Hall, Row, row, row_of, count, enters}
use Rattle.hall.specs.Plan.{Cut, Beside, load, loads_fit, weight_sum, total}
use Rattle.dicuts.specs.Shores.{Ranged, Linked, Tight, once, cover}
use Rattle.laminar.specs.Families.{shore_family}
use Rattle.laminar.proofs.Few.{few_cuts}
use Rattle.potentials.specs.Potential.{Under, Paid, cost}
use Rattle.order.specs.Ranked.{charge}
use Rattle.order.proofs.Ranked.{charge_price}
use Rattle.duality.specs.Weighted.{Carried}
use Rattle.certificates.specs.Certificate.{Certificate}

entered_one : (m s : ℕ) (a b : Bool) → m * s + cond a (cond b m 0) 0 ≡ m * (s + cond b (one_if a) 0)
unfolding one_if
entered_one m s true true = omega arith
entered_one m s true false = omega arith
entered_one m s false true = omega arith
entered_one m s false false = omega arith

-- a weight, once for each row of the set that enters
entered : (m n : ℕ) (a b : ℕ → Bool) → sum_below n (λ k. cond (a k) (cond (b k) m 0) 0) ≡ m * sum_below n (λ k. cond (b k) (one_if (a k)) 0)
unfolding sum_below
entered m zero a b = omega arith
entered m (suc n) a b =
    ap (λ (s : ℕ). s + cond (a n) (cond (b n) m 0) 0) (entered m n a b) ∙ entered_one m (sum_below n (λ k. cond (b k) (one_if (a k)) 0)) (a n) (b n)

module _ (h : Hall) (F : ℕ → Bool) where
  -- cuts that one row of the set enters weigh as much as the set is loaded
  loads_weigh : (ks : List Cut) → ((s : ℕ) → shore_family ks s ≡ true → Tight h (once F) s) → weight_sum ks ≡ sum_below (count h) (λ k. cond (F (suc k)) (load ks (row h (suc k))) 0)
  unfolding weight_sum load shore_family once cover
  loads_weigh [] tight = sym (sum-zero (count h) (λ k. cond (F (suc k)) 0 0) (λ k l. by_bool (F (suc k)) (λ e. rw e) (λ e. rw e)))
  loads_weigh (c ∷ cs) tight =
      let here : ℕ → ℕ = λ k. cond (F (suc k)) (cond (enters c.shore (row h (suc k))) c.weight 0) 0 in
      let later : ℕ → ℕ = λ k. cond (F (suc k)) (load cs (row h (suc k))) 0 in
      let split = sum_ext (count h) (λ k. cond (F (suc k)) (cond (enters c.shore (row h (suc k))) c.weight 0 + load cs (row h (suc k))) 0) (λ k. here k + later k)
      (λ k l. cond_add (F (suc k)) (cond (enters c.shore (row h (suc k))) c.weight 0) (load cs (row h (suc k)))) in
      let first = tight c.shore (or_l (eqb c.shore c.shore) (shore_family cs c.shore) (eq-eqb c.shore c.shore refl)) in
      let once-each : sum_below (count h) here ≡ c.weight * 1 =
      entered c.weight (count h) (λ k. F (suc k)) (λ k. enters c.shore (row h (suc k))) ∙ ap (λ (m : ℕ). c.weight * m) first.one in
      let rest = loads_weigh cs (λ s e. tight s (or_r (eqb c.shore s) (shore_family cs s) e)) in
      omega (arith, split, once-each, rest, sum_add (count h) here later)

  module _ (c p : ℕ → ℕ) (ks : List Cut) (proof : Certificate h (once F) p ks) (under : Under h c p) where
    pub loads_under : (i : ℕ) → 1 ≤ i → i ≤ count h → load ks (row h i) ≤ c i
    unfolding Under
    loads_under i l m = omega (arith, proof.rises i l m, under i l m)

    -- the weights add up to what the rows cost
    pub weights-cost : Paid h c p F → weight_sum ks ≡ cost h c F
    unfolding Under Paid cost
    weights-cost paid =
        loads_weigh ks proof.tight
        ∙ sum_ext (count h) (λ k. cond (F (suc k)) (load ks (row h (suc k))) 0) (λ k. cond (F (suc k)) (c (suc k)) 0)
        (λ k l. by_bool (F (suc k))
        (λ e. rw e (omega (arith, proof.rises (suc k) (omega arith) (omega arith), under (suc k) (omega arith) (omega arith), paid (suc k) (omega arith) (omega arith) e)))
        (λ e. rw e))

fits_all : (ks : List Cut) (none : Row) (rs : List Row) → ((k : ℕ) → k < length rs → (get_or rs k none).fixed ≡ false → load ks (get_or rs k none) ≤ (get_or rs k none).price)
    → loads_fit ks rs ≡ true
unfolding loads_fit
fits_all ks none [] f = refl
fits_all ks none (r ∷ rs) f =
    and_i (r.fixed || leb (load ks r) r.price) (loads_fit ks rs)
    (by_bool r.fixed (λ e. or_l r.fixed (leb (load ks r) r.price) e)
    (λ e. or_r r.fixed (leb (load ks r) r.price) (le-leb (load ks r) r.price (f 0 (omega arith) e))))
    (fits_all ks none rs (λ k l. f (suc k) (omega arith)))

-- loads within the prices, but for fixed rows
carried_loads : (h : Hall) (ks : List Cut) → Carried h (λ i. (row h i).price) ks → loads_fit ks h.rows ≡ true
unfolding Carried row count
carried_loads h ks f =
    fits_all ks (row_of 0 0 0) h.rows (λ k l. let e : suc k - 1 ≡ k = omega arith in rw e at (f (suc k) (omega arith) (omega arith)))

-- the cuts of a potential for the charges
module _ (h : Hall) (F : ℕ → Bool) (p : ℕ → ℕ) (ks : List Cut) (proof : Certificate h (once F) p ks) (under : Under h (charge h) p) where
  pub charged_loads : loads_fit ks h.rows ≡ true
  unfolding Carried
  charged_loads = carried_loads h ks (λ i l m e. omega (arith, loads_under h F (charge h) p ks proof under i l m, charge_price h i e))

  pub certificate_beside : Ranged h → Linked h → (c : List ℕ) → cost h (charge h) F ≡ total h c → Paid h (charge h) p F → Beside h c ks
  certificate_beside ranged linked c same paid = record {
    good = proof.good;
    few = few_cuts h ranged linked ks proof.good;
    loads = charged_loads;
    sum = weights-cost h F (charge h) p ks proof under paid ∙ same;
  }
