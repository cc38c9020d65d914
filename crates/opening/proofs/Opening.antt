-- What an opened hall gives: a choice of a sound, ranged and linked hall, in lanes and flags. Assumes nothing.
use mathlib.Core.Path.{◌≡◌, ap, ◌∙◌}
use mathlib.Core.Bool.{Bool, true, false, cond}
use mathlib.Core.List.{List}
use Prim.Native.Nat.{ℕ, suc, ◌-◌, ◌≤◌, ◌<◌}
use native.Mathlib.Omega.{arith}
use lib.Dec.{eqb}
use lib.ListN.{get_or}
use Rattle.std.specs.Prelude.{Ok}
use Rattle.laws.proofs.Booleans.{by_bool, clash, cond_true, cond_false}
use Rattle.hall.specs.Hall.{is_choice, member}
use Rattle.hall.specs.File.{hall_in, hall_refusal, Refusal, refusal, or_else}
use Rattle.dicuts.specs.Shores.{Ranged}
use Rattle.columns.specs.Columns.{flagged}
use Rattle.columns.specs.Lanes.{LanesOf}
use Rattle.refusals.proofs.Numbers.{answer_fine, answer_none}
use Rattle.opening.specs.declared.Opened.{Opened}
use Rattle.opening.specs.Choice.{choice_refusal}
use Rattle.opening.specs.Opening.{Opening}
use Rattle.hallfile.proofs.Records.{record_lanes}
use Rattle.hallfile.proofs.Accepted as accepted

-- which refusal comes
module _ (bs c : List ℕ) where
  -- the hall's own refusal comes first
  pub hall-refused : eqb (hall_refusal bs).number 0 ≡ false → choice_refusal bs c ≡ hall_refusal bs
  unfolding choice_refusal or_else
  hall-refused n = cond_false (eqb (hall_refusal bs).number 0) (cond (is_choice (hall_in bs) c) (refusal 0 0) (refusal 10 0)) (hall_refusal bs) n

  pub list_refused : eqb (hall_refusal bs).number 0 ≡ true → is_choice (hall_in bs) c ≡ false → choice_refusal bs c ≡ refusal 10 0
  unfolding choice_refusal or_else
  list_refused n e =
      cond_true (eqb (hall_refusal bs).number 0) (cond (is_choice (hall_in bs) c) (refusal 0 0) (refusal 10 0)) (hall_refusal bs) n
      ∙ cond_false (is_choice (hall_in bs) c) (refusal 0 0) (refusal 10 0) e

  pub none_refused : eqb (hall_refusal bs).number 0 ≡ true → is_choice (hall_in bs) c ≡ true → choice_refusal bs c ≡ refusal 0 0
  unfolding choice_refusal or_else
  none_refused n e =
      cond_true (eqb (hall_refusal bs).number 0) (cond (is_choice (hall_in bs) c) (refusal 0 0) (refusal 10 0)) (hall_refusal bs) n
      ∙ cond_true (is_choice (hall_in bs) c) (refusal 0 0) (refusal 10 0) e

-- flags by place are flags by row number
pub row_flags : (chosen : List Bool) (c : List ℕ) (m : ℕ) → m ≤ 256 → ((k : ℕ) → k < 256 → get_or chosen k false ≡ member (suc k) c)
    → (i : ℕ) → 1 ≤ i → i ≤ m → flagged chosen i ≡ member i c
row_flags chosen c m few f i l u = let same : suc (i - 1) ≡ i = omega arith in f (i - 1) (omega arith) ∙ ap (λ (k : ℕ). member k c) same

-- without a refusal the hall is read and the list is a choice
module _ (bs c : List ℕ) (passed : eqb (choice_refusal bs c).number 0 ≡ true) where
  hall_fine : eqb (hall_refusal bs).number 0 ≡ true
  hall_fine = by_bool (eqb (hall_refusal bs).number 0) (λ e. e) (λ e. clash passed (ap (λ (f : Refusal). eqb f.number 0) (hall-refused bs c e) ∙ e))

  list_chosen : is_choice (hall_in bs) c ≡ true
  unfolding refusal
  list_chosen = by_bool (is_choice (hall_in bs) c) (λ e. e) (λ e. clash passed (ap (λ (f : Refusal). eqb f.number 0) (list_refused bs c hall_fine e)))

-- of a hall that is opened
module _ (bs c : List ℕ) (o : Opened) (got : Opening bs c (Ok o)) where
  passed : eqb (choice_refusal bs c).number 0 ≡ true
  passed = answer_fine o (choice_refusal bs c) got.refusal

  pub unrefused : choice_refusal bs c ≡ refusal 0 0
  unrefused = answer_none o (choice_refusal bs c) got.refusal

  pub chosen : is_choice (hall_in bs) c ≡ true
  chosen = list_chosen bs c passed

  pub ranged : Ranged (hall_in bs)
  ranged = accepted.ranged bs (hall_fine bs c passed)

  pub columns : LanesOf (hall_in bs) o.hall.lanes
  columns = record_lanes (hall_in bs) o.hall got.hall

  pub flags : (i : ℕ) → 1 ≤ i → i ≤ o.hall.lanes.count → flagged o.chosen i ≡ member i c
  flags i l u = got.flags i l (omega (arith, columns.rows))
