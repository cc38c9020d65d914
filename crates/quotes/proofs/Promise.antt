-- Where one row's price changes, the total changes by no more, and the plan only where it gives up the row as that gets dearer: each plan is held against the other in both halls. Assumes nothing.
use mathlib.Core.Path.{◌≡◌, sym, ap}
use mathlib.Core.Bool.{true, false, cond}
use mathlib.Core.List.{List}
use mathlib.Core.Logic.{⊎_elim}
use Prim.Native.Nat.{ℕ, ◌+◌, ◌≤◌}
use native.Mathlib.Omega.{arith}
use Rattle.hall.specs.Hall.{Hall, is_choice, joins, member}
use Rattle.hall.specs.File.{hall_in}
use Rattle.hall.specs.Plan.{total, goes_before, First}
use Rattle.dicuts.specs.Shores.{Ranged}
use Rattle.joining.proofs.Accepted.{accepted_ranged}
use Rattle.order.proofs.Before.{before_total}
use Rattle.order.proofs.First.{none_before, first_least}
use Rattle.quotes.specs.Alike.{Alike}
use Rattle.quotes.specs.Quote.{Dearer, QuoteMoves}
use Rattle.quotes.proofs.Alike.{alike_back, choice_alike, joins_alike}
use Rattle.quotes.proofs.Kept.{before_kept}
use Rattle.quotes.proofs.Dearer.{dearer_alike, total_dearer, total_most}

module _ (h g : Hall) (i d : ℕ) (dearer : Dearer h g i d) (c e : List ℕ) (ranged_h : Ranged h) (ranged_g : Ranged g) (first_h : First h c) (first_g : First g e) where
  alike : Alike h g
  alike = dearer_alike h g i d dearer

  back : Alike g h
  back = alike_back h g alike

  -- each plan is a joining choice of the other hall too
  in_g : (is_choice g c ≡ true) × (joins g c ≡ true)
  in_g = (choice_alike h g alike c first_h.choice, joins_alike h g alike ranged_h ranged_g c first_h.joining)

  in_h : (is_choice h e ≡ true) × (joins h e ≡ true)
  in_h = (choice_alike g h back e first_g.choice, joins_alike g h back ranged_g ranged_h e first_g.joining)

  more_c : total g c ≡ total h c + cond (member i c) d 0
  more_c = total_dearer h g i d dearer c first_h.choice

  most_c : total g c ≤ total h c + d
  most_c = total_most h g i d dearer c first_h.choice

  more_e : total g e ≡ total h e + cond (member i e) d 0
  more_e = total_dearer h g i d dearer e in_h.0

  totals : (total h c ≤ total g e) × (total g e ≤ total h c + d)
  totals =
      let below = first_least h c e first_h in_h.0 in_h.1 in
      let above = first_least g e c first_g in_g.0 in_g.1 in (omega (arith, below, more_e), omega (arith, above, most_c))

  -- where the cheaper hall's plan grows no more than the dearer's, they are the same
  same_plan : total g c + total h e ≤ total g e + total h c → c ≡ e
  same_plan less =
      ⊎_elim (λ (q : c ≡ e). q)
      (⊎_elim (λ (p : goes_before h c e ≡ true). absurd (none_before g e c first_g in_g.0 in_g.1 (before_kept h g c e less p)))
      (λ (p : goes_before h e c ≡ true). absurd (none_before h c e first_h in_h.0 in_h.1 p)))
      (before_total h c e)

  left_alone : member i c ≡ false → e ≡ c
  left_alone out =
      let same : total g c ≡ total h c + 0 = rw out at more_c in sym (same_plan (omega (arith, more_e)))

  falls : member i e ≡ true → (c ≡ e) × (total h c + d ≡ total g e)
  falls in_it =
      let grown : total g e ≡ total h e + d = rw in_it at more_e in
      let same = same_plan (omega (arith, most_c)) in (same, omega (arith, grown, ap (total h) same))

pub quote_moves : QuoteMoves
unfolding QuoteMoves
quote_moves bs cs i d c e acc_b acc_c dearer first_h first_g =
    let h = hall_in bs in
    let g = hall_in cs in
    let rh = accepted_ranged bs acc_b in
    let rg = accepted_ranged cs acc_c in
    (totals h g i d dearer c e rh rg first_h first_g, left_alone h g i d dearer c e rh rg first_h first_g, falls h g i d dearer c e rh rg first_h first_g)
