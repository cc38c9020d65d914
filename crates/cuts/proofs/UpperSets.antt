-- Weights over the thresholds of a potential: equal ones at once, up to the next value, and none over the largest. Assumes nothing.
use mathlib.Core.Path.{◌≡◌, sym, ap, ◌∙◌}
use mathlib.Core.List.{List}
use Prim.Native.Nat.{ℕ, suc, ◌+◌, ◌-◌, ◌^◌, ◌≤◌, ◌<◌}
use native.Mathlib.Omega.{arith}
use lib.Dec.{leb}
use borrow.Author.Tests.{le-leb, lt-leb, leb-true}
use Rattle.laws.specs.Finite.{sum_below}
use Rattle.laws.proofs.Booleans.{by_bool, bool_ext}
use Rattle.laws.proofs.Counts.{sum_split}
use Rattle.laws.proofs.Finite.{sum_ext, sum-zero}
use Rattle.junctions.proofs.Sets.{none_holds, sets_ext}
use Rattle.certificates.specs.Pieces.{over_pieces}
use Rattle.certificates.specs.Cuts.{upper}
use Rattle.certificates.proofs.Classes.{upper_lt, upper-holds}
use Rattle.shorelist.specs.Listed.{place_of, Listed, Fits, Adding, Added, nothing}
use Rattle.shorelist.proofs.Room.{adding_none, adding_more, added_same}
use Rattle.setshores.specs.Shores.{components_weigh, classes_weigh}
use Rattle.setshores.proofs.Times.{classes_times}
use Rattle.setshores.proofs.Rest.{over_all, over_none}
use Rattle.cuts.specs.Thresholds.{levels_weigh, NextValue, UnderTop}

module _ (n : ℕ) (p : ℕ → ℕ) where
  -- from one value up to the next the upper sets are the same
  upper_same : (low next q : ℕ) → NextValue n p low next → low ≤ q → q < next → upper n p (suc q) ≡ upper n p next
  upper_same low next q g a b =
      sets_ext n (upper n p (suc q)) (upper n p next) (upper_lt n p (suc q)) (upper_lt n p next)
      (λ j l m.
      upper-holds n p (suc q) j l m
      ∙ bool_ext (leb (suc q) (p j)) (leb next (p j))
      (λ t. le-leb next (p j) (g.least j l m (omega (arith, leb-true (suc q) (p j) t))))
      (λ t. le-leb (suc q) (p j) (omega (arith, leb-true next (p j) t)))
      ∙ sym (upper-holds n p next j l m))

  -- over all values they are empty
  upper_none : (q : ℕ) → ((j : ℕ) → 1 ≤ j → j ≤ n → p j < q) → upper n p q ≡ 0
  upper_none q over =
      sets_ext n (upper n p q) 0 (upper_lt n p q) (omega (arith, upper_lt n p q))
      (λ j l m. upper-holds n p q j l m ∙ lt-leb q (p j) (over j l m) ∙ sym (none_holds j))

-- a value that is taken is not over the top
pub next_high : {n : ℕ} {p : ℕ → ℕ} {low next : ℕ} (top : ℕ) → NextValue n p low next → low < next → UnderTop n p top → next ≤ top
unfolding UnderTop
next_high top g l under = let w = g.taken l in omega (arith, under w.0 w.1 w.2, w.3)

pub upper_fits : (n : ℕ) (p : ℕ → ℕ) (next set : ℕ) → set ≡ upper n p next → set < 2 ^ n
upper_fits n p next set is = rw is (upper_lt n p next)

module _ (n : ℕ) (links mates p : ℕ → ℕ) where
  at : ℕ → ℕ → ℕ
  at s q = classes_weigh n links mates (upper n p (suc q)) 1 s

  -- up to the next value
  pub levels_next : (low next s : ℕ) → NextValue n p low next → levels_weigh n links mates p next s ≡ levels_weigh n links mates p low s + classes_weigh n links mates (upper n p next) (next - low) s
  unfolding levels_weigh at
  levels_next low next s g =
      let e : low + (next - low) ≡ next = omega (arith, g.from_low) in
      let rest : sum_below (next - low) (λ q. at s (low + q)) ≡ classes_weigh n links mates (upper n p next) (next - low) s =
      sum_ext (next - low) (λ q. at s (low + q)) (λ q. classes_weigh n links mates (upper n p next) 1 s)
      (λ q l. ap (λ (u : ℕ). classes_weigh n links mates u 1 s) (upper_same n p low next (low + q) g (omega arith) (omega arith)))
      ∙ sym (classes_times n links mates (next - low) s (upper n p next)) in
      ap (λ (t : ℕ). sum_below t (at s)) (sym e) ∙ sum_split low (next - low) (at s) ∙ ap (λ (t : ℕ). sum_below low (at s) + t) rest

  pub levels_grow : (low top s : ℕ) → low ≤ top → levels_weigh n links mates p low s ≤ levels_weigh n links mates p top s
  unfolding levels_weigh at
  levels_grow low top s l =
      let e : low + (top - low) ≡ top = omega arith in
      omega (arith, ap (λ (t : ℕ). sum_below t (at s)) e, sum_split low (top - low) (at s))

  empty_weighs : (set s : ℕ) → set ≡ 0 → classes_weigh n links mates set 1 s ≡ 0
  unfolding classes_weigh
  empty_weighs set s e =
      ap (λ (u : ℕ). over_pieces n mates u (λ class. components_weigh n links class 1 s)) e
      ∙ sym (over_all n mates 0 (λ class. components_weigh n links class 1 s)) ∙ over_none n mates 0 (λ class. components_weigh n links class 1 s)

  -- over the largest value there is no more
  levels_end : (low top s : ℕ) → low ≤ top → ((j : ℕ) → 1 ≤ j → j ≤ n → p j ≤ low) → levels_weigh n links mates p low s ≡ levels_weigh n links mates p top s
  unfolding levels_weigh at
  levels_end low top s l high =
      let e : low + (top - low) ≡ top = omega arith in
      let none : sum_below (top - low) (λ q. at s (low + q)) ≡ 0 =
      sum-zero (top - low) (λ q. at s (low + q))
      (λ q m. empty_weighs (upper n p (suc (low + q))) s (upper_none n p (suc (low + q)) (λ j a b. omega (arith, high j a b)))) in
      omega (arith, ap (λ (t : ℕ). sum_below t (at s)) e, sum_split low (top - low) (at s), none)

  pub levels_same : (low top s : ℕ) → ((j : ℕ) → 1 ≤ j → j ≤ n → p j ≤ low) → ((j : ℕ) → 1 ≤ j → j ≤ n → p j ≤ top)
      → levels_weigh n links mates p low s ≡ levels_weigh n links mates p top s
  levels_same low top s a b =
      by_bool (leb low top) (λ t. levels_end low top s (leb-true low top t) a)
      (λ t. sym (levels_end top low s (omega (arith, borrow.Author.Tests.leb-false low top t)) b))

  module _ {shores weights : List ℕ} where
    pub added_none : Listed 0 (place_of shores) (place_of weights) → Added 0 shores weights (levels_weigh n links mates p 0) 0 shores weights
    unfolding levels_weigh nothing sum_below
    added_none listed = adding_none 0 shores weights nothing listed

    module _ {low next filled set : ℕ} {now_shores now_weights : List ℕ} (g : NextValue n p low next) (is : set ≡ upper n p next)
        (added : Added 0 shores weights (levels_weigh n links mates p low) filled now_shores now_weights) where
      toward : Adding 0 shores weights (levels_weigh n links mates p next) filled now_shores now_weights (classes_weigh n links mates set (next - low))
      unfolding nothing
      toward = record {
        listed = added.listed;
        weighs = λ s. omega (arith, added.weighs s, levels_next low next s g, ap (λ (u : ℕ). classes_weigh n links mates u (next - low) s) is);
        longer = added.longer;
        shores_size = added.shores_size;
        weights_size = added.weights_size;
        shores_rest = added.shores_rest;
        weights_rest = added.weights_rest;
      }

      -- there is room for the shores of the next value
      pub fits_next : (top : ℕ) → next ≤ top → Fits 0 shores weights (levels_weigh n links mates p top) → Fits filled now_shores now_weights (classes_weigh n links mates set (next - low))
      fits_next top l f = record {
        listed = added.listed;
        most = f.most;
        room = f.room;
        under = λ s. omega (arith, f.under s, toward.weighs s, levels_grow next top s l);
        long_shores = omega (arith, f.long_shores, added.shores_size);
        long_weights = omega (arith, f.long_weights, added.weights_size);
      }

      pub added_next : {count₂ : ℕ} {shores₂ weights₂ : List ℕ} → Added filled now_shores now_weights (classes_weigh n links mates set (next - low)) count₂ shores₂ weights₂
          → Added 0 shores weights (levels_weigh n links mates p next) count₂ shores₂ weights₂
      unfolding nothing
      added_next {count₂} {shores₂} {weights₂} more =
          adding_more 0 filled count₂ shores weights now_shores now_weights shores₂ weights₂ (levels_weigh n links mates p next)
          (classes_weigh n links mates set (next - low)) (classes_weigh n links mates set (next - low)) nothing (λ s. omega arith) toward more

    -- no value is over `low`
    pub added_all : {low next filled : ℕ} {now_shores now_weights : List ℕ} → NextValue n p low next → next ≡ low → Added 0 shores weights (levels_weigh n links mates p low) filled now_shores now_weights
        → (top : ℕ) → UnderTop n p top → Added 0 shores weights (levels_weigh n links mates p top) filled now_shores now_weights
    unfolding UnderTop
    added_all {low} {next} {filled} {now_shores} {now_weights} g e added top under =
        added_same 0 shores weights (levels_weigh n links mates p low) (levels_weigh n links mates p top) filled now_shores now_weights (λ s. levels_same low top s (g.none e) under) added
