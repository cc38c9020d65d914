-- Rows noted from the last to the first leave for each junction the lowest that leads to one nearer. Assumes nothing.
use mathlib.Core.Path.{◌≡◌, refl, sym, ap, ◌∙◌}
use mathlib.Core.Bool.{Bool, true, false, ◌||◌, cond}
use mathlib.Core.List.{List}
use Prim.Native.Nat.{ℕ, ◌+◌, ◌-◌, ◌≤◌}
use native.Mathlib.Omega.{arith}
use lib.Dec.{eqb}
use lib.ListN.{length, set, length-set}
use lib.Seq.{get_or-set_same, get_or-set_other}
use borrow.Author.Tests.{eqb-true, eqb-false}
use Rattle.laws.specs.Lists.{at}
use Rattle.laws.proofs.Booleans.{by_bool, clash, and_i, and_l, and_r, not_true_false, cond_true, cond_false}
use Rattle.columns.specs.Columns.{flagged}
use Rattle.columns.specs.declared.Lanes.{Lanes}
use Rattle.shortest.specs.Steps.{leads_nearer, Noted, nearer_row, LowestOver, RowsOver}

-- the row written, and left out
module _ (D : ℕ → ℕ) (k from to : ℕ) (low : 1 ≤ from) (before : List ℕ) (size : length before ≡ 64) where
  pub noted_here : from ≤ 64 → eqb (D to + 1) (D from) ≡ true → Noted D k from to before (set before (from - 1) k)
  unfolding leads_nearer
  noted_here high e = record {
    size = length-set before (from - 1) k ∙ size;
    entry = λ x l m.
        by_bool (eqb from x)
        (λ t. ap (at (set before (from - 1) k)) (sym (eqb-true from x t)) ∙ get_or-set_same before (from - 1) k 0 (omega (arith, size))
        ∙ sym (cond_true (leads_nearer D from to x) k (at before x) (and_i (eqb from x) (eqb (D to + 1) (D from)) t e)))
        (λ f. get_or-set_other before (from - 1) (x - 1) k 0 (λ q. omega (arith, q, eqb-false from x f))
        ∙ sym (cond_false (leads_nearer D from to x) k (at before x) (not_true_false (leads_nearer D from to x) (λ t. clash (and_l (eqb from x) (eqb (D to + 1) (D from)) t) f))));
  }

  pub noted_not : eqb (D to + 1) (D from) ≡ false → Noted D k from to before before
  unfolding leads_nearer
  noted_not e = record {
    size = size;
    entry = λ x l m.
        sym (cond_false (leads_nearer D from to x) k (at before x) (not_true_false (leads_nearer D from to x) (λ t. clash (and_r (eqb from x) (eqb (D to + 1) (D from)) t) e)));
  }

-- a row by another name of it and of its ends
pub noted_as : (D : ℕ → ℕ) (k i from a to b : ℕ) (before after : List ℕ) → k ≡ i → from ≡ a → to ≡ b → Noted D k from to before after → Noted D i a b before after
noted_as D k i from a to b before after p q r noted = rw (← p, ← q, ← r) noted

-- one number more, from above
lowest_more : (k m : ℕ) (p : ℕ → Bool) (r s : ℕ) → 1 ≤ k → LowestOver k m p r → s ≡ cond (p k) k r → LowestOver (k - 1) m p s
unfolding LowestOver
lowest_more k m p r s low over e i above high t =
    by_bool (p k)
    (λ y. let q : s ≡ k = e ∙ cond_true (p k) k r y in (omega (arith, q), omega (arith, q), ap p q ∙ y))
    (λ y.
    let q : s ≡ r = e ∙ cond_false (p k) k r y in
    by_bool (eqb i k) (λ z. clash t (ap p (eqb-true i k z) ∙ y))
    (λ z. let w = over i (omega (arith, eqb-false i k z)) high t in (omega (arith, q, w.0), omega (arith, q, w.1), ap p q ∙ w.2)))

-- no row above the last
pub rows_none : (l : Lanes) (fs : List Bool) (D : ℕ → ℕ) (first : List ℕ) → length first ≡ 64 → RowsOver l.count l fs D first
unfolding LowestOver
rows_none l fs D first size = record { size = size; lowest = λ x low u i above high t. absurd (omega (arith, above, high)) }

cond_or : (a b : Bool) (k r : ℕ) → cond b k (cond a k r) ≡ cond (a || b) k r
cond_or true true k r = refl
cond_or true false k r = refl
cond_or false b k r = refl

-- one row more, run forward only or both ways
module _ (k : ℕ) (low : 1 ≤ k) (l : Lanes) (fs : List Bool) (D : ℕ → ℕ) (first : List ℕ) (over : RowsOver k l fs D first)
    (ahead : List ℕ) (noted : Noted D k (at l.tails k) (at l.heads k) first ahead) where
  pub rows_ahead : flagged fs k ≡ false → RowsOver (k - 1) l fs D ahead
  unfolding nearer_row
  rows_ahead f = record {
    size = noted.size;
    lowest = λ x p q.
        lowest_more k l.count (nearer_row l fs D x) (at first x) (at ahead x) low (over.lowest x p q)
        (noted.entry x p q ∙ (rw f (cond_or (leads_nearer D (at l.tails k) (at l.heads k) x) false k (at first x))));
  }

  pub rows_both : flagged fs k ≡ true → (both : List ℕ) → Noted D k (at l.heads k) (at l.tails k) ahead both → RowsOver (k - 1) l fs D both
  unfolding nearer_row
  rows_both f both back = record {
    size = back.size;
    lowest = λ x p q.
        lowest_more k l.count (nearer_row l fs D x) (at first x) (at both x) low (over.lowest x p q)
        (back.entry x p q ∙ ap (cond (leads_nearer D (at l.heads k) (at l.tails k) x) k) (noted.entry x p q)
        ∙ (rw f (cond_or (leads_nearer D (at l.tails k) (at l.heads k) x) (leads_nearer D (at l.heads k) (at l.tails k) x) k (at first x))));
  }
