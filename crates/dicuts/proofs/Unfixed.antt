-- The rows that are not fixed are a choice: the list of the set of all rows but the fixed ones. Assumes nothing.
use mathlib.Core.Path.{◌≡◌, refl, sym, ap, ◌∙◌}
use mathlib.Core.Bool.{Bool, true, not}
use mathlib.Core.List.{List, [], ◌∷◌}
use Prim.Native.Nat.{ℕ, suc, ◌+◌, ◌-◌, ◌≤◌, ◌<◌}
use native.Mathlib.Omega.{arith}
use lib.ListN.{length, get_or}
use borrow.Author.Tests.{not-true}
use Rattle.laws.proofs.Booleans.{by_bool, cond_true, cond_false}
use Rattle.hall.specs.Hall.{Hall, Row, row, row_of, count, is_choice, unfixed_from, unfixed, member}
use Rattle.dicuts.specs.Shores.{unfixed_row}
use Rattle.dicuts.specs.Listed.{passing, listed, NoneFixed}
use Rattle.dicuts.proofs.Listed.{listed-member, listed_choice}

unfixed-passing : (none : Row) (F : ℕ → Bool) (a : ℕ) (rs : List Row) → ((k : ℕ) → k < length rs → F (a + k) ≡ not (get_or rs k none).fixed)
    → unfixed_from a rs ≡ passing (length rs) a F
unfolding unfixed_from passing
unfixed-passing none F a [] f = refl
unfixed-passing none F a (r ∷ rs) f =
    let now : a ≡ a + 0 = omega arith in
    let here : F a ≡ not r.fixed = ap F now ∙ f 0 (omega arith) in
    let rest = unfixed-passing none F (suc a) rs (λ k l. let next : suc a + k ≡ a + suc k = omega arith in ap F next ∙ f (suc k) (omega arith)) in
    by_bool r.fixed (λ e. cond_true r.fixed _ _ e ∙ rest ∙ sym (cond_false (F a) _ _ (here ∙ ap not e)))
    (λ e. cond_false r.fixed _ _ e ∙ ap (λ (l : List ℕ). a ∷ l) rest ∙ sym (cond_true (F a) _ _ (here ∙ ap not e)))

module _ (h : Hall) where
  unfixed-listed : unfixed h ≡ listed h (unfixed_row h)
  unfolding unfixed listed row count
  unfixed-listed =
      unfixed-passing (row_of 0 0 0) (unfixed_row h) 1 h.rows
      (λ k l. let place : 1 + k - 1 ≡ k = omega arith in ap (λ (j : ℕ). not (get_or h.rows j (row_of 0 0 0)).fixed) place)

  pub unfixed_none : NoneFixed h (unfixed_row h)
  unfixed_none i l u t = not-true (row h i).fixed t

  pub unfixed-member : (i : ℕ) → 1 ≤ i → i ≤ count h → member i (unfixed h) ≡ unfixed_row h i
  unfixed-member i low high = ap (member i) unfixed-listed ∙ listed-member h (unfixed_row h) i low high

  pub unfixed_choice : is_choice h (unfixed h) ≡ true
  unfixed_choice = rw unfixed-listed (listed_choice h (unfixed_row h) unfixed_none)
