-- What the tests find by trying is so: a choice that passes is the first, and cuts that pass stand beside it. Assumes nothing.
use mathlib.Core.Path.{◌≡◌, refl}
use mathlib.Core.Bool.{Bool, true, ◌&&◌, ◌||◌, not}
use mathlib.Core.List.{List, [], ◌∷◌}
use mathlib.Core.Logic.{⊎_elim}
use Prim.Native.Nat.{ℕ, zero, suc, ◌+◌}
use native.Mathlib.Omega.{arith}
use lib.Dec.{leb, eqb}
use lib.ListN.{length}
use borrow.Author.Tests.{leb-true, eqb-true, not-true}
use Rattle.laws.specs.Lists.{same_list}
use Rattle.laws.proofs.Booleans.{clash, and_l, and_r, and_i, or_cases}
use Rattle.laws.proofs.Lists.{all_of-at}
use Rattle.hall.specs.Hall.{Hall, count, ascends_from, is_choice, joins}
use Rattle.hall.specs.Plan.{First, Cut, Beside, total, goes_before, cuts_good, loads_fit, weight_sum, most_cuts}
use Rattle.dicuts.proofs.Choices.{choice_ascends}
use Rattle.order.specs.Least.{Passes, After}
use Rattle.order.proofs.Least.{split_first, only_empty}
use Rattle.starred.specs.Trying.{every_ascending, not_after, is_first, is_beside}
use Rattle.starred.proofs.Same.{numbers_same}

pub ascending_tried : (left a l : ℕ) (p : List ℕ → Bool) → a + left ≡ suc l → every_ascending left a p ≡ true
    → (d : List ℕ) → ascends_from a l d ≡ true → p d ≡ true
unfolding every_ascending
ascending_tried zero a l p e t d asc =
    let at : a ≡ suc l = omega arith in
    rw (only_empty l d (rw at at asc)) t
ascending_tried (suc k) a l p e t d asc =
    let without = every_ascending k (suc a) p in
    let with_a = every_ascending k (suc a) (λ x. p (a ∷ x)) in
    ⊎_elim (λ (s : Passes (suc a) l (λ x. true) d). ascending_tried k (suc a) l p (omega arith) (and_l without with_a t) d s.0)
    (λ (s : After a l (λ x. true) d).
    rw s.1 (ascending_tried k (suc a) l (λ x. p (a ∷ x)) (omega arith) (and_r without with_a t) s.0 s.2.0))
    (split_first a l (λ x. true) d (asc, refl))

-- THE LAW OF TRYING: a choice that passes against every choice is the first
pub first_by_trying : (h : Hall) (c : List ℕ) → is_first h c ≡ true → First h c
unfolding is_first not_after
first_by_trying h c t =
    let found = all_of-at (is_choice h c ∷ joins h c ∷ every_ascending (count h) 1 (not_after h c) ∷ []) t in
    record {
      choice = found 0;
      joining = found 1;
      before = λ d choice joining ne.
          ⊎_elim (λ (s : not (is_choice h d && joins h d) ≡ true). clash (and_i (is_choice h d) (joins h d) choice joining) (not-true (is_choice h d && joins h d) s))
          (λ (s : (same_list eqb c d || goes_before h c d) ≡ true).
          ⊎_elim (λ (q : same_list eqb c d ≡ true). absurd (ne (numbers_same c d q))) (λ (q : goes_before h c d ≡ true). q) (or_cases (same_list eqb c d) (goes_before h c d) s))
          (or_cases (not (is_choice h d && joins h d)) (same_list eqb c d || goes_before h c d)
          (ascending_tried (count h) 1 (count h) (not_after h c) (omega arith) (found 2) d (choice_ascends h d choice)));
    }

pub beside_by_test : (h : Hall) (c : List ℕ) (ks : List Cut) → is_beside h c ks ≡ true → Beside h c ks
unfolding is_beside
beside_by_test h c ks t =
    let found = all_of-at (cuts_good h 1 ks ∷ leb (length ks) (most_cuts h.n) ∷ loads_fit ks h.rows ∷ eqb (weight_sum ks) (total h c) ∷ []) t in
    record {
      good = found 0;
      few = leb-true (length ks) (most_cuts h.n) (found 1);
      loads = found 2;
      sum = eqb-true (weight_sum ks) (total h c) (found 3);
    }
