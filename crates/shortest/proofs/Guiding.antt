-- A table of the lowest rows that lead to a junction one nearer guides to the target. Assumes nothing.
use mathlib.Core.Path.{◌≡◌, refl, sym, ap, ap₂, ◌∙◌, subst}
use mathlib.Core.Bool.{Bool, true, false, ◌&&◌, not}
use mathlib.Core.List.{List}
use mathlib.Core.Logic.{⊎_elim}
use mathlib.Core.Option.{some}
use Prim.Native.Nat.{ℕ, suc, ◌+◌, ◌≤◌, ◌<◌}
use native.Mathlib.Omega.{arith}
use lib.Dec.{eqb}
use borrow.Author.Tests.{eq-eqb, eqb-true}
use Rattle.laws.specs.Lists.{at}
use Rattle.laws.proofs.Booleans.{by_bool, clash, and_i, and_l, and_r, or_cases, or_l, or_r}
use Rattle.hall.specs.Hall.{Hall, row, member}
use Rattle.dicuts.specs.Shores.{Ranged}
use Rattle.routes.specs.Route.{Step}
use Rattle.routes.specs.Reached.{FewestTo}
use Rattle.routes.specs.Nearer.{Nearer, LowestStep}
use Rattle.routes.proofs.Steps.{starts-ahead, starts-back, ends-ahead, ends-back, may_intro, may_low, may_high, may_back}
use Rattle.routes.proofs.Shortest.{direction, some_nearer}
use Rattle.columns.specs.Columns.{flagged}
use Rattle.columns.specs.Lanes.{RowsOf}
use Rattle.columns.specs.declared.Lanes.{Lanes}
use Rattle.shortest.specs.Steps.{leads_nearer, nearer_row, LowestOver, RowsOver, step_at, Guided}

-- the test of one direction, from its parts and into them
leads_intro : (D : ℕ → ℕ) (from to x : ℕ) → from ≡ x → suc (D to) ≡ D x → leads_nearer D from to x ≡ true
unfolding leads_nearer
leads_intro D from to x e closer =
    and_i (eqb from x) (eqb (D to + 1) (D from)) (eq-eqb from x e) (eq-eqb (D to + 1) (D from) (omega (arith, closer, ap D e)))

leads_parts : (D : ℕ → ℕ) (from to x : ℕ) → leads_nearer D from to x ≡ true → (from ≡ x) × (suc (D to) ≡ D x)
unfolding leads_nearer
leads_parts D from to x t =
    let e = eqb-true from x (and_l (eqb from x) (eqb (D to + 1) (D from)) t) in
    (e, omega (arith, eqb-true (D to + 1) (D from) (and_r (eqb from x) (eqb (D to + 1) (D from)) t), ap D e))

-- a step by its row in the table
nearer_is : (h : Hall) (c : List ℕ) (D : ℕ → ℕ) (x : ℕ) (first : List ℕ) (s : Step) → Nearer h c D x s → s.number ≡ at first x → Nearer h c D x (step_at h first x)
unfolding step_at
nearer_is h c D x first s near e =
    let is : s ≡ step_at h first x =
    ap₂ (λ (i : ℕ) (d : Bool). record { number = i; back = d }) e (direction h c D x s near ∙ ap (λ (i : ℕ). not (eqb (row h i).from x)) e) in
    subst (Nearer h c D x) is near

module _ (h : Hall) (l : Lanes) (fs : List Bool) (c : List ℕ) (cols : RowsOf h h.n l) (same : (i : ℕ) → 1 ≤ i → i ≤ l.count → flagged fs i ≡ member i c) (D : ℕ → ℕ) where
  step_row : (x : ℕ) (s : Step) → Nearer h c D x s → nearer_row l fs D x s.number ≡ true
  unfolding nearer_row
  step_row x s near =
      let i = s.number in
      let low = may_low h c s near.runs in
      let high : i ≤ l.count = omega (arith, may_high h c s near.runs, cols.rows) in
      let ahead = leads_nearer D (at l.tails i) (at l.heads i) x in
      let back = leads_nearer D (at l.heads i) (at l.tails i) x in
      by_bool s.back
      (λ b. or_r ahead (flagged fs i && back)
      (and_i (flagged fs i) back (same i low high ∙ may_back h c s near.runs b)
      (leads_intro D (at l.heads i) (at l.tails i) x (cols.head i low high ∙ sym (starts-back h s b) ∙ near.here)
      (omega (arith, near.closer, ap D (cols.tail i low high ∙ sym (ends-back h s b)))))))
      (λ b. or_l ahead (flagged fs i && back)
      (leads_intro D (at l.tails i) (at l.heads i) x (cols.tail i low high ∙ sym (starts-ahead h s b) ∙ near.here)
      (omega (arith, near.closer, ap D (cols.head i low high ∙ sym (ends-ahead h s b))))))

  row_step : (x i : ℕ) → 1 ≤ i → i ≤ l.count → nearer_row l fs D x i ≡ true → (s : Step) × (s.number ≡ i) × Nearer h c D x s
  unfolding nearer_row
  row_step x i low high t =
      let ahead = leads_nearer D (at l.tails i) (at l.heads i) x in
      let back = leads_nearer D (at l.heads i) (at l.tails i) x in
      ⊎_elim
      (λ (y : ahead ≡ true).
      let s : Step = record { number = i; back = false } in
      let p = leads_parts D (at l.tails i) (at l.heads i) x y in (
        s,
        refl,
        record {
          runs = may_intro h c s low (omega (arith, cols.rows)) (λ b. clash b refl);
          here = starts-ahead h s refl ∙ sym (cols.tail i low high) ∙ p.0;
          closer = omega (arith, p.1, ap D (ends-ahead h s refl ∙ sym (cols.head i low high)));
        },
      ))
      (λ (y : (flagged fs i && back) ≡ true).
      let s : Step = record { number = i; back = true } in
      let p = leads_parts D (at l.heads i) (at l.tails i) x (and_r (flagged fs i) back y) in (
        s,
        refl,
        record {
          runs = may_intro h c s low (omega (arith, cols.rows)) (λ b. sym (same i low high) ∙ and_l (flagged fs i) back y);
          here = starts-back h s refl ∙ sym (cols.head i low high) ∙ p.0;
          closer = omega (arith, p.1, ap D (ends-back h s refl ∙ sym (cols.tail i low high)));
        },
      ))
      (or_cases ahead (flagged fs i && back) t)

  module _ (small : h.n ≤ 64) (rg : Ranged h) (b : ℕ) (D_is : (x : ℕ) → 1 ≤ x → x ≤ h.n → FewestTo h c x b (some (D x))) (first : List ℕ) (rows : RowsOver 0 l fs D first) where
    first_lowest : (x : ℕ) → 1 ≤ x → x ≤ h.n → (x ≡ b → ⊥) → LowestStep h c D x (step_at h first x)
    unfolding step_at LowestOver
    first_lowest x low high ne =
        let near = some_nearer h rg c b D D_is x low high ne in
        let over : (t : Step) → Nearer h c D x t → (0 < at first x) × (at first x ≤ t.number) × (nearer_row l fs D x (at first x) ≡ true) =
        (λ t n. rows.lowest x low (omega (arith, small)) t.number (may_low h c t n.runs) (omega (arith, may_high h c t n.runs, cols.rows)) (step_row x t n)) in
        let found = over near.0 near.1 in
        let s = row_step x (at first x) found.0 (omega (arith, found.1, may_high h c near.0 near.1.runs, cols.rows)) found.2 in
        record { nearer = nearer_is h c D x first s.0 s.2 s.1; least = λ t n. (over t n).1 }

    pub guided : Guided h c b D l first
    guided = record { size = small; columns = cols; ranged = rg; fewest = D_is; lowest = first_lowest }
