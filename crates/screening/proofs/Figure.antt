-- What rows cost from the front: more rows cost no less, so the rows read tell what all do. Assumes nothing.
use mathlib.Core.Path.{◌≡◌, refl, sym, ap, ◌∙◌}
use mathlib.Core.Bool.{true, false}
use mathlib.Core.List.{List}
use Prim.Native.Nat.{ℕ, ◌+◌, ◌≤◌, ◌<◌}
use native.Mathlib.Omega.{arith}
use lib.Dec.{ltb}
use lib.ListN.{length, get_or, take}
use lib.Seq.{take_all, take-take}
use borrow.Author.Tests.{lt-ltb, le-ltb, ltb-true, ltb-false}
use Rattle.std.specs.Prelude.{sum_by}
use Rattle.std.proofs.lemmas.List.Sums.{sum_by_more, sum_by-take-le}
use Rattle.std.proofs.lemmas.List.Recursion.{is_sum_by}
use Rattle.laws.proofs.Booleans.{by_bool, clash}
use Rattle.laws.specs.Lists.{at}
use Rattle.hall.specs.Hall.{Hall, row, count, is_choice}
use Rattle.hall.specs.Plan.{total}
use Rattle.dicuts.proofs.Choices.{choice_ascends}
use Rattle.choice.proofs.Ascent.{ascends_at}
use Rattle.hallfile.specs.declared.record.HallRecord.{HallRecord}
use Rattle.hallfile.specs.Record.{RecordOf}
use Rattle.hallfile.proofs.Records.{record_prices}
use Rattle.screening.specs.Figure.{Read, Screens, ReadAlone, ReadTells}

-- the prices of a record are those of the rows of a choice
pub chosen_price : (h : Hall) (x : HallRecord) → RecordOf h x → (c : List ℕ) → is_choice h c ≡ true → (k : ℕ) → k < length c
    → at x.prices (get_or c k 0) ≡ (row h (get_or c k 0)).price
chosen_price h x is c chosen k there =
    let inside = ascends_at 1 (count h) c k (choice_ascends h c chosen) there in record_prices h x is (get_or c k 0) inside.0 inside.1

module _ (h : Hall) where
  abbrev price : ℕ → ℕ
  price i = (row h i).price

  -- a total is a sum of the kit's
  total_sum : (c : List ℕ) → total h c ≡ sum_by price c
  unfolding total
  total_sum = is_sum_by (total h) price refl (λ i is. refl)

  -- the first rows cost no more than all, and than the first of more
  front_whole : (k : ℕ) (c : List ℕ) → total h (take k c) ≤ total h c
  front_whole k c = omega (arith, total_sum (take k c), total_sum c, sum_by-take-le price c k)

  front_longer : (j k : ℕ) (c : List ℕ) → j ≤ k → total h (take j c) ≤ total h (take k c)
  front_longer j k c l = omega (arith, ap (total h) (take-take j k c l), front_whole j (take k c))

  -- one row more
  pub front_next : (k : ℕ) (c : List ℕ) → k < length c → total h (take (k + 1) c) ≡ total h (take k c) + price (get_or c k 0)
  front_next k c l = omega (arith, total_sum (take (k + 1) c), total_sum (take k c), sum_by_more price c k 0 l)

  module _ (figure : ℕ) (c : List ℕ) where
    -- where the row at place k takes the sum past the figure, it is the last that is read
    pub screens_over : (k left : ℕ) → left + total h (take k c) ≡ figure → k < length c → left < price (get_or c k 0)
        → Screens h figure c (record { over = true; read = k + 1 })
    screens_over k left so_far there more =
        let past : figure < total h (take (k + 1) c) = omega (arith, so_far, more, front_next k c there) in record {
          over = sym (lt-ltb figure (total h c) (omega (arith, past, front_whole (k + 1) c)));
          read = record {
            most = omega arith;
            fewest = λ j l. le-ltb figure (total h (take j c)) (omega (arith, so_far, front_longer j k c (omega arith)));
            passed = λ l. lt-ltb figure (total h (take (k + 1) c)) past;
          };
        }

    -- where no row does, all are read
    pub screens_within : (k left : ℕ) → left + total h (take k c) ≡ figure → length c ≤ k → Screens h figure c (record { over = false; read = length c })
    screens_within k left so_far all =
        let whole : total h (take k c) ≡ total h c = ap (total h) (take_all k c all) in record {
          over = sym (le-ltb figure (total h c) (omega (arith, so_far, whole)));
          read = record {
            most = omega arith;
            fewest = λ j l. le-ltb figure (total h (take j c)) (omega (arith, so_far, whole, front_whole j c));
            passed = λ l. absurd (omega arith);
          };
        }

    -- of two numbers of rows read none is below the other: by the lesser its sum has passed, by the greater it has not
    no_fewer : (r s : ℕ) → Read h figure c r → Read h figure c s → s ≤ r
    no_fewer r s short long =
        by_bool (ltb r s)
        (λ t. let less = ltb-true r s t in clash (short.passed (omega (arith, less, long.most))) (long.fewest r less))
        (λ t. ltb-false r s t)

pub read_alone : ReadAlone
unfolding ReadAlone
read_alone h figure c r s read other = omega (arith, no_fewer h figure c r s read other, no_fewer h figure c s r other read)

pub read_tells : ReadTells
unfolding ReadTells
read_tells h figure c r read =
    by_bool (ltb r (length c))
    (λ t. let past = read.passed (ltb-true r (length c) t) in
    past ∙ sym (lt-ltb figure (total h c) (omega (arith, ltb-true figure (total h (take r c)) past, front_whole h r c))))
    (λ t. ap (λ (d : List ℕ). ltb figure (total h d)) (take_all r c (ltb-false r (length c) t)))
