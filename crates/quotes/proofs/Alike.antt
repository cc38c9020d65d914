-- Halls that differ in prices alone have the same shores, and the same choices join. Assumes nothing.
use mathlib.Core.Path.{◌≡◌, sym, ap, ◌∙◌}
use mathlib.Core.Bool.{Bool, true, cond}
use mathlib.Core.List.{List}
use Prim.Native.Nat.{ℕ, suc, ◌≤◌}
use native.Mathlib.Omega.{arith}
use Rattle.laws.specs.Finite.{sum_below}
use Rattle.laws.proofs.Finite.{sum_ext}
use Rattle.junctions.specs.Sets.{holds}
use Rattle.hall.specs.Hall.{Hall, row, count, enters, ascends_from, is_choice, joins, member}
use Rattle.dicuts.specs.Shores.{Ranged, Shore, Joining, cover, once}
use Rattle.dicuts.proofs.Choices.{ascends_members, choice_ascends, choice_unfixed, ascends_choice}
use Rattle.joining.proofs.Joins.{joins_joining, joining_joins}
use Rattle.quotes.specs.Alike.{Alike}

-- the other way round
pub alike_back : (h g : Hall) → Alike h g → Alike g h
alike_back h g a = record {
  junctions = sym a.junctions;
  rows = sym a.rows;
  from_same = λ k l m. sym (a.from_same k l (omega (arith, a.rows)));
  to_same = λ k l m. sym (a.to_same k l (omega (arith, a.rows)));
  fixed_same = λ k l m. sym (a.fixed_same k l (omega (arith, a.rows)));
}

module _ (h g : Hall) (a : Alike h g) where
  pub choice_alike : (c : List ℕ) → is_choice h c ≡ true → is_choice g c ≡ true
  choice_alike c t =
      let ascends = choice_ascends h c t in
      let same : ascends_from 1 (count g) c ≡ ascends_from 1 (count h) c = ap (λ (l : ℕ). ascends_from 1 l c) a.rows in
      ascends_choice g c (same ∙ ascends)
      (λ i m.
      let inside = ascends_members (count h) 1 c i ascends m in
      a.fixed_same i inside.0 inside.1 ∙ choice_unfixed h c i t m)

  shore_alike : (s : ℕ) → Shore g s → Shore h s
  shore_alike s x = record {
    some = x.some;
    proper = rw a.junctions at x.proper;
    kept = λ i l m t. sym (ap (holds s) (a.to_same i l m)) ∙ x.kept i l (omega (arith, a.rows)) (ap (holds s) (a.from_same i l m) ∙ t);
  }

  enters_alike : (s i : ℕ) → 1 ≤ i → i ≤ count h → enters s (row g i) ≡ enters s (row h i)
  unfolding enters
  enters_alike s i l m = rw (a.from_same i l m, a.to_same i l m)

  cover_alike : (x : ℕ → ℕ) (s : ℕ) → cover g x s ≡ cover h x s
  unfolding cover
  cover_alike x s =
      ap (λ (m : ℕ). sum_below m (λ k. cond (enters s (row g (suc k))) (x (suc k)) 0)) a.rows
      ∙ sum_ext (count h) (λ k. cond (enters s (row g (suc k))) (x (suc k)) 0) (λ k. cond (enters s (row h (suc k))) (x (suc k)) 0)
      (λ k l. ap (λ (b : Bool). cond b (x (suc k)) 0) (enters_alike s (suc k) (omega arith) (omega arith)))

  joining_alike : (x : ℕ → ℕ) → Joining h x → Joining g x
  unfolding Joining
  joining_alike x j s t = omega (arith, cover_alike x s, j s (shore_alike s t))

  pub joins_alike : Ranged h → Ranged g → (c : List ℕ) → joins h c ≡ true → joins g c ≡ true
  joins_alike rh rg c t = joining_joins g rg c (joining_alike (once (λ i. member i c)) (joins_joining h rh c t))
