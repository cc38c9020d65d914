-- Flags of rows: a list without a flagged row, place by place; what flags say of a hall whose marks they are; the opposite flags. Assumes nothing.
use mathlib.Core.Path.{◌≡◌, refl, sym, ap, ap₂, ◌∙◌}
use mathlib.Core.Bool.{Bool, true, false, ◌&&◌, not}
use mathlib.Core.List.{List, [], ◌∷◌}
use Prim.Native.Nat.{ℕ, suc, ◌+◌, ◌-◌, ◌<◌, ◌≤◌}
use native.Mathlib.Numerals.{add-one}
use native.Mathlib.Omega.{arith}
use lib.ListN.{length, get_or, drop, set, length-set, replicate, length-replicate, drop_of_length-le}
use lib.Seq.{drop-cons, get_or-set_same, get_or-set_other}
use borrow.Author.Count.{below_more}
use Rattle.laws.specs.Finite.{any_below}
use Rattle.laws.specs.Lists.{all_in}
use Rattle.laws.proofs.Booleans.{clash, not_true_false}
use Rattle.laws.proofs.Finite.{any_intro}
use Rattle.hall.specs.Hall.{Hall, count, ascends_from, none_fixed, is_choice}
use Rattle.dicuts.specs.Shores.{unfixed_row}
use Rattle.dicuts.proofs.Choices.{ascends_low, ascends_high, ascends_rest}
use Rattle.columns.specs.Columns.{flagged, Marks}

module _ (p : ℕ → Bool) (ns : List ℕ) where
  pub all_more : (k : ℕ) → k < length ns → p (get_or ns k 0) ≡ true → all_in p (drop k ns) ≡ all_in p (drop (k + 1) ns)
  unfolding all_in
  all_more k h e = rw (add-one k, drop-cons ns k 0 h, e)

  pub all_fail : (k : ℕ) → k < length ns → p (get_or ns k 0) ≡ false → all_in p (drop k ns) ≡ false
  unfolding all_in
  all_fail k h e = rw (drop-cons ns k 0 h, e)

  pub all_end : (k : ℕ) → length ns ≤ k → all_in p (drop k ns) ≡ true
  unfolding all_in
  all_end k h = rw (drop_of_length-le ns h)

-- where the flags are the marks of a hall
module _ (h : Hall) (fixed : List Bool) (marks : Marks h fixed) where
  -- of listed rows none is flagged exactly if none is fixed
  none_flagged-fixed : (a : ℕ) (ns : List ℕ) → 1 ≤ a → ascends_from a (count h) ns ≡ true → all_in (λ i. not (flagged fixed i)) ns ≡ none_fixed h ns
  unfolding all_in none_fixed
  none_flagged-fixed a [] one e = refl
  none_flagged-fixed a (i ∷ is) one e =
      let low = ascends_low a (count h) i is e in
      ap₂ ◌&&◌ (ap not (marks i (omega arith) (ascends_high a (count h) i is e)))
      (none_flagged-fixed (suc i) is (omega arith) (ascends_rest a (count h) i is e))

  -- a list that ascends is a choice exactly if none of its rows is flagged, any other is none
  module _ (m : ℕ) (rows : count h ≡ m) (ns : List ℕ) where
    pub ascending_choice : ascends_from 1 m ns ≡ true → is_choice h ns ≡ all_in (λ i. not (flagged fixed i)) ns
    unfolding is_choice
    ascending_choice e = let own : ascends_from 1 (count h) ns ≡ true = rw rows e in rw own (sym (none_flagged-fixed 1 ns (omega arith) own))

    pub unascending_choice : ascends_from 1 m ns ≡ false → is_choice h ns ≡ false
    unfolding is_choice
    unascending_choice e = rw (rows, e)

  module _ (few : count h ≤ 256) where
    -- where nothing is flagged, no row is fixed
    pub none_any_unfixed : any_below 256 (λ k. get_or fixed k false) ≡ false → (i : ℕ) → 1 ≤ i → i ≤ count h → unfixed_row h i ≡ true
    none_any_unfixed e i l m = ap not (sym (marks i l m) ∙ not_true_false (flagged fixed i) (λ t. clash (any_intro 256 (λ k. get_or fixed k false) (i - 1) (omega arith) t) e))

    -- the opposite flags are those of the rows that are not fixed
    pub opposite_unfixed : (others : List Bool) → ((k : ℕ) → k < 256 → get_or others k false ≡ not (get_or fixed k false))
        → (i : ℕ) → 1 ≤ i → i ≤ count h → flagged others i ≡ unfixed_row h i
    opposite_unfixed others f i l m = f (i - 1) (omega arith) ∙ ap not (marks i l m)

-- the first k places have the opposite flags
pub record Opposite (flags : List Bool) (k : ℕ) (others : List Bool) : Type 0 where
  pub len : length others ≡ 256
  pub at : (j : ℕ) → j < k → get_or others j false ≡ not (get_or flags j false)

pub opposite_none : (flags : List Bool) → Opposite flags 0 (replicate 256 false)
opposite_none flags = record { len = length-replicate 256 false; at = λ j h. absurd (omega arith) }

pub opposite_more : (flags : List Bool) (k : ℕ) (others : List Bool) → k < 256 → Opposite flags k others
    → Opposite flags (k + 1) (set others k (not (get_or flags k false)))
opposite_more flags k others h g = record {
  len = length-set others k (not (get_or flags k false)) ∙ g.len;
  at = below_more (λ (j : ℕ). get_or (set others k (not (get_or flags k false))) j false ≡ not (get_or flags j false)) k
      (λ j m. get_or-set_other others k j (not (get_or flags k false)) false (λ q. omega arith) ∙ g.at j m)
      (get_or-set_same others k (not (get_or flags k false)) false (omega (arith, g.len)));
}
