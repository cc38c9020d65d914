-- A dearer row: the same choices join, and the total of a choice with the row grows by as much, of one without it not at all. Assumes nothing.
use mathlib.Core.Path.{◌≡◌, refl, sym, ap, ◌∙◌}
use mathlib.Core.Bool.{true, false, cond}
use mathlib.Core.List.{List, [], ◌∷◌}
use Prim.Native.Nat.{ℕ, suc, ◌+◌, ◌≤◌}
use native.Mathlib.Omega.{arith}
use lib.Dec.{eqb}
use borrow.Author.Tests.{eqb-true, eqb-false}
use Rattle.laws.proofs.Booleans.{by_bool}
use Rattle.hall.specs.Hall.{Hall, Row, row, count, ascends_from, is_choice, member}
use Rattle.hall.specs.Plan.{total}
use Rattle.dicuts.proofs.Choices.{ascends_low, ascends_high, ascends_rest, ascends_skips, choice_ascends}
use Rattle.quotes.specs.Alike.{Alike}
use Rattle.quotes.specs.Quote.{Dearer}

module _ (h g : Hall) (i d : ℕ) (dearer : Dearer h g i d) where
  same_at : {A : Type 0} (f : Row → A) → f (row g i) ≡ f (row h i) → (k : ℕ) → 1 ≤ k → k ≤ count h → f (row g k) ≡ f (row h k)
  same_at f here k l m =
      by_bool (eqb k i) (λ e. let same : k ≡ i = eqb-true k i e in rw same here) (λ e. ap f (dearer.others k l m (eqb-false k i e)))

  pub dearer_alike : Alike h g
  dearer_alike = record {
    junctions = dearer.junctions;
    rows = dearer.rows;
    from_same = same_at (λ r. r.from) dearer.from_same;
    to_same = same_at (λ r. r.to) dearer.to_same;
    fixed_same = same_at (λ r. r.fixed) (dearer.free.1 ∙ sym dearer.free.0);
  }

  total_from : (a : ℕ) (c : List ℕ) → 1 ≤ a → ascends_from a (count h) c ≡ true → total g c ≡ total h c + cond (member i c) d 0
  unfolding total member
  total_from a [] one t = refl
  total_from a (x ∷ xs) one t =
      let low = ascends_low a (count h) x xs t in
      let rest = ascends_rest a (count h) x xs t in
      let more = total_from (suc x) xs (omega arith) rest in
      by_bool (eqb x i)
      (λ e.
      let same : x ≡ i = eqb-true x i e in
      let gone : member i xs ≡ false = ascends_skips (suc x) (count h) xs i rest (omega arith) in
      rw e (omega (arith, (rw gone at more), ap (λ (k : ℕ). (row g k).price) same, ap (λ (k : ℕ). (row h k).price) same, dearer.more)))
      (λ e.
      let here = dearer.others x (omega arith) (ascends_high a (count h) x xs t) (eqb-false x i e) in
      rw e (omega (arith, more, ap (λ (r : Row). r.price) here)))

  -- a choice with the row costs d more, one without it the same
  pub total_dearer : (c : List ℕ) → is_choice h c ≡ true → total g c ≡ total h c + cond (member i c) d 0
  total_dearer c t = total_from 1 c (omega arith) (choice_ascends h c t)

  pub total_most : (c : List ℕ) → is_choice h c ≡ true → total g c ≤ total h c + d
  total_most c t =
      let grown = total_dearer c t in
      by_bool (member i c) (λ e. omega (arith, (rw e at grown))) (λ e. omega (arith, (rw e at grown)))
