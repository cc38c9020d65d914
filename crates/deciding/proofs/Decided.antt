-- How one more row is decided: it is in, or it has a gap and is out; and decided rows stay so where other rows are exchanged at the same cost. Assumes nothing.
use mathlib.Core.Path.{◌≡◌, refl, sym, ap, ◌∙◌}
use mathlib.Core.Bool.{Bool, true, false}
use mathlib.Core.Logic.{⊎_elim}
use Prim.Native.Nat.{ℕ, suc, ◌+◌, ◌≤◌, ◌<◌}
use native.Mathlib.Omega.{arith}
use borrow.Author.Tests.{le-leb, leb-false}
use Rattle.laws.proofs.Booleans.{clash}
use Rattle.laws.proofs.Finite.{last_or_below}
use Rattle.hall.specs.Hall.{Hall, row, count}
use Rattle.dicuts.specs.Shores.{once, Joining}
use Rattle.potentials.specs.Potential.{cost}
use Rattle.potentials.specs.Compare.{Weighs, Priced, Agree}
use Rattle.potentials.proofs.Compare.{gap_dearer}
use Rattle.choicelists.proofs.Leads.{leads_ext}
use Rattle.deciding.specs.Decided.{Decided, rows_after}

module _ (h : Hall) (c : ℕ → ℕ) where
  pub decided_none : (F : ℕ → Bool) → Decided h c F 0
  unfolding Decided
  decided_none F G joining cheap w = omega (arith, w.low, w.high)

  -- only the last row is left to look at
  decided_more : (F : ℕ → Bool) (k : ℕ) → Decided h c F k
      → ((G : ℕ → Bool) → Joining h (once G) → cost h c G ≤ cost h c F → G (suc k) ≡ true → F (suc k) ≡ false → ((i : ℕ) → 1 ≤ i → i ≤ k → G i ≡ F i) → ⊥)
      → Decided h c F (suc k)
  unfolding Decided
  decided_more F k before last G joining cheap w =
      ⊎_elim
      (λ (e : w.at ≡ suc k).
      last G joining cheap (sym (ap G e) ∙ w.has) (sym (ap F e) ∙ w.lacks) (λ i low high. w.same i low (omega arith)))
      (λ (l : w.at < suc k).
      before G joining cheap (record { at = w.at; low = w.low; high = omega arith; has = w.has; lacks = w.lacks; same = w.same }))
      (last_or_below w.at (suc k) (omega (arith, w.high)))

  pub decided_in : (F : ℕ → Bool) (k : ℕ) → Decided h c F k → F (suc k) ≡ true → Decided h c F (suc k)
  decided_in F k before e = decided_more F k before (λ G joining cheap has lacks same. clash e lacks)

  -- a row with a gap is out for good: every joining set with it that agrees on the rows before costs more
  pub decided_out : (F : ℕ → Bool) (p w : ℕ → ℕ) → Weighs h (once F) p w → (k : ℕ) → suc k ≤ count h → Priced h c p (rows_after k) F
      → p (row h (suc k)).to < p (row h (suc k)).from + c (suc k) → Decided h c F k → Decided h c F (suc k)
  unfolding rows_after Agree
  decided_out F p w weighs k high priced gap before =
      decided_more F k before
      (λ G joining cheap has lacks same.
      let agree : Agree h (rows_after k) F G = λ i low most out. sym (same i low (omega (arith, leb-false (suc k) i out))) in
      let dearer = gap_dearer h F p w weighs c (rows_after k) priced G agree joining (suc k) (omega arith) high (le-leb (suc k) (suc k) (omega arith)) has gap in
      omega arith)

  -- an exchange of later rows at the same cost leaves decided rows decided
  pub decided_same : (F H : ℕ → Bool) (k : ℕ) → ((i : ℕ) → 1 ≤ i → i ≤ k → H i ≡ F i) → cost h c H ≡ cost h c F → Decided h c F k → Decided h c H k
  unfolding Decided
  decided_same F H k same e before G joining cheap w = before G joining (omega arith) (leads_ext k (λ i low high. refl) same w)
