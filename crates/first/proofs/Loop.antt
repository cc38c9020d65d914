-- All rows decided in turn: the flags of the rows that may move, the start from ranked costs, and the first choice at the end. Assumes nothing.
use mathlib.Core.Bool.{Bool, true, false}
use mathlib.Core.List.{List}
use mathlib.Core.Path.{◌≡◌, refl, sym, ◌∙◌}
use Prim.Native.Nat.{ℕ, suc, ◌+◌, ◌-◌, ◌≤◌, ◌<◌}
use native.Mathlib.Numerals.{add-one}
use native.Mathlib.Omega.{arith}
use lib.Dec.{eqb, leb}
use lib.ListN.{length, set, replicate, get_or-replicate}
use lib.Seq.{get_or-set_same, get_or-set_other}
use borrow.Author.Tests.{eqb-true, eqb-false, le-leb, leb-true}
use Rattle.laws.specs.Lists.{at}
use Rattle.laws.proofs.Booleans.{tests, by_bool, bool_ext}
use Rattle.hall.specs.Hall.{Hall, count}
use Rattle.hall.specs.Plan.{First}
use Rattle.dicuts.specs.Shores.{Ranged}
use Rattle.dicuts.specs.Listed.{listed}
use Rattle.potentials.specs.Repair.{Repaired}
use Rattle.order.specs.Ranked.{ranked, Plannable}
use Rattle.deciding.specs.Decided.{rows_after}
use Rattle.deciding.specs.Deciding.{Deciding}
use Rattle.deciding.proofs.Deciding.{not_after, deciding_start, deciding_same, deciding_end}
use Rattle.columns.specs.Lanes.{LanesOf}
use Rattle.columns.specs.declared.Lanes.{Lanes}
use Rattle.first.specs.Standing.{Movable}

-- rows other than the next one move after k + 1 rows as after k
past_next : (k i : ℕ) → (i ≡ suc k → ⊥) → rows_after k i ≡ rows_after (suc k) i
unfolding rows_after
past_next k i other =
    bool_ext (leb (suc k) i) (leb (suc (suc k)) i)
    (λ e.
    let low = leb-true (suc k) i e in
    by_bool (eqb i (suc k)) (λ q. absurd (other (eqb-true i (suc k) q))) (λ q. le-leb (suc (suc k)) i (omega tests)))
    (λ e. le-leb (suc k) i (omega (arith, leb-true (suc (suc k)) i e)))

-- at the start all rows may move
pub movable_start : Movable 0 (replicate 256 true)
unfolding rows_after
movable_start i l u = get_or-replicate 256 (i - 1) true false (omega arith) ∙ sym (le-leb 1 i l)

-- once its row is decided, a flag is taken out
pub movable_next : (k : ℕ) (flags : List Bool) → k < length flags → Movable k flags → Movable (k + 1) (set flags k false)
movable_next k flags fits later i l u =
    rw (add-one k)
    (by_bool (eqb i (suc k))
    (λ e.
    let here : i - 1 ≡ k = omega (arith, eqb-true i (suc k) e) in
    rw here (get_or-set_same flags k false false fits) ∙ sym (not_after (suc k) i (omega (arith, eqb-true i (suc k) e))))
    (λ e.
    let there : i - 1 ≡ k → ⊥ = λ q. eqb-false i (suc k) e (omega arith) in
    get_or-set_other flags k (i - 1) false false there ∙ later i l u ∙ past_next k i (eqb-false i (suc k) e)))

module _ (h : Hall) (rg : Ranged h) (ln : Lanes) (lanes : LanesOf h ln) (costs : List ℕ)
    (is : (i : ℕ) → 1 ≤ i → i ≤ ln.count → at costs i ≡ ranked h i) where
  costs_ranked : (i : ℕ) → 1 ≤ i → i ≤ count h → at costs i ≡ ranked h i
  costs_ranked i l u = is i l (omega (arith, lanes.rows))

  pub first_start : (p : ℕ → ℕ) (F : ℕ → Bool) → Repaired h (ranked h) p F → Deciding h (at costs) 0 p F
  first_start p F done =
      deciding_same h rg (ranked h) (at costs) (λ i l u. sym (costs_ranked i l u)) p p (λ j l u. refl) F F (λ i l u. refl) 0 (omega arith)
      (deciding_start h rg (ranked h) p F done)

  pub first_end : Plannable h → (p : ℕ → ℕ) (F : ℕ → Bool) → Deciding h (at costs) ln.count p F → First h (listed h F)
  first_end able p F done =
      deciding_end h rg able p F
      (deciding_same h rg (at costs) (ranked h) costs_ranked p p (λ j l u. refl) F F (λ i l u. refl) (count h) (omega arith) (rw (sym lanes.rows) at done))
