-- How far the pass over the rows has come: the rows before place i are stored and fine, the others are left. Assumes nothing.
use mathlib.Core.Path.{◌≡◌, sym, ap, ◌∙◌}
use mathlib.Core.Bool.{Bool, true, false}
use mathlib.Core.List.{List, [], ◌∷◌}
use mathlib.Core.Logic.{◌⊎◌, inl, inr, ⊎_elim}
use Prim.Native.Nat.{ℕ, suc, ◌+◌, ◌<◌, ◌≤◌}
use native.Mathlib.Numerals.{add-one}
use native.Mathlib.Omega.{arith}
use lib.Dec.{eqb}
use borrow.Author.Tests.{eqb-true, eqb-false}
use Rattle.laws.proofs.Booleans.{by_bool}
use lib.ListN.{length, get_or, set, take, drop, length-drop}
use lib.Seq.{drop-cons, take_all}
use Rattle.hall.specs.Hall.{Row, row_of}
use Rattle.hall.specs.File.{refusal, rows_refusal}
use Rattle.columns.specs.Columns.{Ends}
use Rattle.columns.specs.Prices.{PricesLow}
use Rattle.hallfile.specs.Record.{padded, column}
use Rattle.hallfile.specs.Shape.{row_refusal}
use Rattle.hallfile.proofs.Columns.{column-at, column_store}
use Rattle.hallfile.proofs.Refusals.{ends_good, fine_ends, fine_row, rows_refuse, rows_go_on}

-- no row is at a place past the last
abbrev none : Row
none = row_of 0 0 0

pub record Progress (rows left : List Row) (n : ℕ) (tails heads prices : List ℕ) (fixed : List Bool) (i : ℕ) : Type 0 where
  pub within : i ≤ length rows
  pub rest : left ≡ drop i rows
  pub tails_filled : tails ≡ column 0 (λ r. r.from) (take i rows)
  pub heads_filled : heads ≡ column 0 (λ r. r.to) (take i rows)
  pub prices_filled : prices ≡ column 0 (λ r. r.price) (take i rows)
  pub fixed_filled : fixed ≡ column false (λ r. r.fixed) (take i rows)
  pub fits : (k : ℕ) → k < i → (ends_good n (get_or rows k none) ≡ true) × ((get_or rows k none).price ≤ 1000000)
  pub fine : rows_refusal (suc i) n left ≡ rows_refusal 1 n rows

module _ (rows : List Row) (n : ℕ) where
  pub progress_none : (left : List Row) (zeros : List ℕ) (unmarked : List Bool) (i : ℕ) → i ≡ 0 → left ≡ rows → zeros ≡ padded 0 256 [] → unmarked ≡ padded false 256 []
      → Progress rows left n zeros zeros zeros unmarked i
  unfolding column
  progress_none left zeros unmarked i start all e f =
      rw start
      (record {
        within = omega arith;
        rest = all;
        tails_filled = e;
        heads_filled = e;
        prices_filled = e;
        fixed_filled = f;
        fits = λ k l. absurd (omega arith);
        fine = ap (rows_refusal 1 n) all;
      })

  module _ (left : List Row) (T H P : List ℕ) (X : List Bool) (i : ℕ) (so_far : Progress rows left n T H P X i) where
    module _ (r : Row) (later : List Row) (next : left ≡ r ∷ later) where
      -- the next row is refused
      pub progress_ends : eqb (row_refusal (i + 1) n r).number 0 ≡ false → rows_refusal 1 n rows ≡ row_refusal (i + 1) n r
      progress_ends u = rw (add-one i) (sym so_far.fine ∙ ap (rows_refusal (suc i) n) next ∙ rows_refuse (suc i) n r later (rw (add-one i) at u))

      pub row_left : i < length rows
      row_left = omega (arith, ap length next, ap length so_far.rest, length-drop i rows)

      both : get_or rows i none ∷ drop (suc i) rows ≡ r ∷ later
      both = sym (drop-cons rows i none row_left) ∙ sym so_far.rest ∙ next

      here : get_or rows i none ≡ r
      here = cc both

      -- it is not, and is stored
      pub progress_more : i < 256 → eqb (row_refusal (i + 1) n r).number 0 ≡ true
          → Progress rows later n (set T i r.from) (set H i r.to) (set P i r.price) (set X i r.fixed) (i + 1)
      progress_more few u =
          record {
            within = omega (arith, row_left);
            rest = rw (add-one i) (cc both);
            tails_filled = stored 0 (λ x. x.from) T so_far.tails_filled;
            heads_filled = stored 0 (λ x. x.to) H so_far.heads_filled;
            prices_filled = stored 0 (λ x. x.price) P so_far.prices_filled;
            fixed_filled = stored false (λ x. x.fixed) X so_far.fixed_filled;
            fits = λ k l.
                ⊎_elim (λ (e : k ≡ i). rw (e, here) (fine_row (i + 1) n r u)) (λ (m : k < i). so_far.fits k m) (last_or_before k l);
            fine = rw (add-one i) (sym (rows_go_on (suc i) n r later (rw (add-one i) at u)) ∙ sym (ap (rows_refusal (suc i) n) next) ∙ so_far.fine);
          }
        where
          stored : {A : Type 0} (d : A) (g : Row → A) (C : List A) → C ≡ column d g (take i rows) → set C i (g r) ≡ column d g (take (i + 1) rows)
          stored d g C e = rw e (column_store d g rows i (g r) none row_left few (ap g (sym here)))

          last_or_before : (k : ℕ) → k < i + 1 → (k ≡ i) ⊎ (k < i)
          last_or_before k l = by_bool (eqb k i) (λ t. inl (eqb-true k i t)) (λ t. let apart = eqb-false k i t in inr (omega arith))

    -- all rows are stored and fine
    module _ (through : left ≡ []) where
      all : length rows ≤ i
      all = omega (arith, ap length through, ap length so_far.rest, length-drop i rows)

      whole : take i rows ≡ rows
      whole = take_all i rows all

      pub progress_fine : rows_refusal 1 n rows ≡ refusal 0 0
      unfolding rows_refusal
      progress_fine = sym so_far.fine ∙ ap (rows_refusal (suc i) n) through

      pub progress_columns : (T ≡ column 0 (λ r. r.from) rows) × (H ≡ column 0 (λ r. r.to) rows) × (P ≡ column 0 (λ r. r.price) rows) × (X ≡ column false (λ r. r.fixed) rows)
      progress_columns = (
        so_far.tails_filled ∙ ap (column 0 (λ r. r.from)) whole,
        so_far.heads_filled ∙ ap (column 0 (λ r. r.to)) whole,
        so_far.prices_filled ∙ ap (column 0 (λ r. r.price)) whole,
        so_far.fixed_filled ∙ ap (column false (λ r. r.fixed)) whole,
      )

      module _ (m : ℕ) (count : length rows ≡ m) (few : m ≤ 256) where
        at_place : (C : List ℕ) (f : Row → ℕ) → C ≡ column 0 f rows → (k : ℕ) → k < m → get_or C k 0 ≡ f (get_or rows k none)
        at_place C f e k l = rw e (column-at 0 f rows k none (omega arith) (omega arith))

        inside : (k : ℕ) → k < m → (1 ≤ (get_or rows k none).from) × ((get_or rows k none).from ≤ n) × (1 ≤ (get_or rows k none).to) × ((get_or rows k none).to ≤ n)
        inside k l = fine_ends n (get_or rows k none) (so_far.fits k (omega (arith, all))).0

        pub progress_ends_fit : n ≤ 64 → Ends n m T H
        progress_ends_fit size =
            record {
              size = size;
              few = few;
              tail_low = λ k l. omega (arith, at_place T (λ r. r.from) progress_columns.0 k l, (inside k l).0);
              tail_high = λ k l. omega (arith, at_place T (λ r. r.from) progress_columns.0 k l, (inside k l).1);
              head_low = λ k l. omega (arith, at_place H (λ r. r.to) progress_columns.1 k l, (inside k l).2);
              head_high = λ k l. omega (arith, at_place H (λ r. r.to) progress_columns.1 k l, (inside k l).3);
            }

        pub progress_prices : PricesLow m P
        progress_prices k l = omega (arith, at_place P (λ r. r.price) progress_columns.2 k l, (so_far.fits k (omega (arith, all))).1)
