-- The test `connected` says that, directions ignored, the hall does not fall apart. Assumes nothing.
use mathlib.Core.Path.{◌≡◌, sym, ap, ◌∙◌}
use mathlib.Core.Bool.{Bool, true, false, not}
use mathlib.Core.List.{List}
use Prim.Native.Nat.{ℕ, zero, suc, ◌+◌, ◌-◌, ◌^◌, ◌≤◌, ◌<◌}
use native.Mathlib.Omega.{arith}
use lib.Dec.{eqb}
use borrow.Author.Tests.{eqb-true, eqb-false}
use Rattle.laws.proofs.Booleans.{by_bool, bool_ext, or_l, or_r}
use Rattle.junctions.specs.Sets.{holds, full, Within}
use Rattle.junctions.proofs.Sets.{full_lt, within_full, within_both}
use Rattle.junctions.proofs.Single.{one_within}
use Rattle.junctions.proofs.Complement.{rest_holds}
use Rattle.hall.specs.Hall.{Hall, row, count, member, reached}
use Rattle.hall.specs.File.{all_numbers, connected}
use Rattle.dicuts.specs.Shores.{Ranged, Linked}
use Rattle.joining.specs.Sealed.{Sealed}
use Rattle.joining.specs.Split.{Split}
use Rattle.joining.proofs.Sealed.{sealed_closed}
use Rattle.joining.proofs.Reached.{reached_is}
use Rattle.joining.proofs.Joins.{reached_sealed, reached_shore}

pub all_numbers-member : (k i v : ℕ) → i ≤ v → v < i + k → member v (all_numbers k i) ≡ true
unfolding all_numbers member
all_numbers-member zero i v l m = absurd (omega arith)
all_numbers-member (suc k) i v l m =
    by_bool (eqb i v) (λ e. or_l (eqb i v) (member v (all_numbers k (suc i))) e)
    (λ e. or_r (eqb i v) (member v (all_numbers k (suc i))) (all_numbers-member k (suc i) v (omega (arith, eqb-false i v e)) (omega arith)))

-- a set that no row enters or leaves is sealed, whatever rows are chosen
pub same_sealed : (h : Hall) (F : ℕ → Bool) (s : ℕ) → ((i : ℕ) → 1 ≤ i → i ≤ count h → holds s (row h i).from ≡ holds s (row h i).to) → Sealed h F s
same_sealed h F s same = record { kept = λ i l m t. sym (same i l m) ∙ t; shut = λ i l m f t. same i l m ∙ t }

module _ (h : Hall) (rg : Ranged h) where
  abbrev every : List ℕ
  every = all_numbers (count h) 1

  -- in a connected hall, a sealed set that holds junction 1 is the whole hall
  sealed_all : connected h ≡ true → (s : ℕ) → s < 2 ^ h.n → holds s 1 ≡ true → Sealed h (λ i. member i every) s → s ≡ full h.n
  unfolding connected full
  sealed_all e s l t sl =
      let all : reached h every 1 ≡ 2 ^ h.n - 1 = eqb-true (reached h every 1) (2 ^ h.n - 1) e in
      let inside : Within (reached h every 1) s = (reached_is h rg every 1 (omega arith) rg.some).least s (one_within s 1 (omega arith) t) (sealed_closed h (λ i. member i every) s sl) in
      within_both h.n s (full h.n) l (full_lt h.n) (within_full h.n s l) (rw all at inside)

  pub connected_linked : connected h ≡ true → Linked h
  unfolding Linked
  connected_linked e s p q same =
      let small : s < 2 ^ h.n = omega (arith, full_lt h.n) in
      by_bool (holds s 1)
      (λ t. omega (arith, sealed_all e s small t (same_sealed h (λ i. member i every) s same)))
      (λ t.
      let rest = full h.n - s in
      let here : holds rest 1 ≡ true = rest_holds h.n s 1 small (omega arith) rg.some ∙ ap not t in
      let rest_same : (i : ℕ) → 1 ≤ i → i ≤ count h → holds rest (row h i).from ≡ holds rest (row h i).to =
      λ i l m. rest_holds h.n s (row h i).from small (rg.from_low i l m) (rg.from_high i l m) ∙ ap not (same i l m)
      ∙ sym (rest_holds h.n s (row h i).to small (rg.to_low i l m) (rg.to_high i l m)) in
      omega (arith, sealed_all e rest (omega (arith, full_lt h.n)) here (same_sealed h (λ i. member i every) rest rest_same)))

  -- what junction 1 reaches shows where a hall falls apart
  pub unconnected_split : connected h ≡ false → Split h (reached h every 1)
  unfolding connected full
  unconnected_split e =
      let r = reached h every 1 in
      let sh = reached_shore h rg every 1 (omega arith) rg.some (eqb-false r (2 ^ h.n - 1) e) in
      let sl = reached_sealed h rg every 1 (omega arith) rg.some in
      record {
        some = sh.some;
        proper = sh.proper;
        same = λ i l m.
            bool_ext (holds r (row h i).from) (holds r (row h i).to) (sl.kept i l m) (sl.shut i l m (all_numbers-member (count h) 1 i l (omega arith)));
      }

  pub split_unconnected : (s : ℕ) → Split h s → connected h ≡ false
  unfolding Linked
  split_unconnected s w = by_bool (connected h) (λ e. absurd (connected_linked e s w.some w.proper w.same)) (λ e. e)
