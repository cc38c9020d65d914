-- THE STARRED HALLS, halls with loops and halls with fixed rows: each answers as expected. One computed test over each list, and a law that turns a passed test into the facts. Assumes nothing.
use mathlib.Core.Path.{◌≡◌, refl}
use mathlib.Core.Bool.{true, not, xor}
use mathlib.Core.List.{List}
use Prim.Native.Nat.{ℕ}
use lib.IntN.{ℤ}
use borrow.Author.Tests.{eqb-true, not-true}
use Rattle.laws.specs.Lists.{all_in, all_of, Each, same_list}
use Rattle.laws.proofs.Booleans.{and_l, and_r}
use Rattle.laws.proofs.Lists.{each_in, all_of-at}
use Rattle.junctions.specs.Sets.{holds, with_junction}
use Rattle.hall.specs.Hall.{Hall, row_of, fixed_row, hall, row, count, enters, leaves, any_leaves, is_cut, ascends_from, none_fixed, is_choice, unfixed_from, unfixed, entering, meets_from, meets_all, member, over_rows, spread, reached, first_short, missed, is_none, joins}
use Rattle.hall.specs.File.{value, field, blocks, offset, long_of, pairs_good, row_in, rows_at, all_rows, hall_in, refusal, or_else, row_number, rows_refusal, all_numbers, connected, openable, hall_refusal}
use Rattle.hall.specs.Plan.{total, earlier, goes_before, Cut, cut, crosses_from, cross, none_cross, cuts_good, load, loads_fit, weight_sum, most_cuts, level_sum, difference, levels_from, levels}
use Rattle.joining.specs.Promise.{all_bytes, accepted}
use Rattle.starred.specs.Layout.{bytes_of, price_field, rows_bytes, blocks_bytes, file_of}
use Rattle.starred.specs.Trying.{every_ascending, not_after, is_first, is_beside, same_row, same_hall, same_refusal, same_signed, is_some}
use Rattle.starred.specs.Cases.{StarredHold, LoopedHold, FixedHold, Expected, refused, opens, ties, misses, unchosen, Case, Accepted, PlannedAs, Ties, Misses, Answers, Says, accepted_tests, opens_tests, ties_tests, misses_tests, answered, case_tests, holds_of, drawn, junctions_of, printed_hall, printed_file, printed, square, half_open, starred, looped, fixed}
use Rattle.starred.proofs.Same.{hall_same, refusal_same, levels_same, some_same}
use Rattle.starred.proofs.Trying.{first_by_trying, beside_by_test}

accepted_by_tests : (bs : List ℕ) → all_of (accepted_tests bs) ≡ true → Accepted bs
unfolding accepted_tests
accepted_by_tests bs t =
    let found = all_of-at (accepted_tests bs) t in
    record { unrefused = refusal_same (hall_refusal bs) (refusal 0 0) (found 0); accepts = found 1 }

module _ (h : Hall) where
  opens_by_tests : (c : List ℕ) (t : ℕ) (ks : List Cut) (ls : List ℤ) → all_of (opens_tests h c t ks ls) ≡ true → PlannedAs h c t ks ls
  unfolding opens_tests
  opens_by_tests c t ks ls e =
      let found = all_of-at (opens_tests h c t ks ls) e in
      record {
        first = first_by_trying h c (found 0);
        costs = eqb-true (total h c) t (found 1);
        beside = beside_by_test h c ks (found 2);
        levelled = levels_same (levels h ks) ls (found 3);
      }

  ties_by_tests : (c d : List ℕ) → all_of (ties_tests h c d) ≡ true → Ties h c d
  unfolding ties_tests
  ties_by_tests c d e =
      let found = all_of-at (ties_tests h c d) e in
      record {
        choice = found 0;
        joining = found 1;
        choice_later = found 2;
        joining_later = found 3;
        same_total = eqb-true (total h c) (total h d) (found 4);
        later = found 5;
      }

  misses_by_tests : (c : List ℕ) (s : ℕ) → all_of (misses_tests h c s) ≡ true → Misses h c s
  unfolding misses_tests
  misses_by_tests c s e =
      let found = all_of-at (misses_tests h c s) e in
      record { choice = found 0; shore = some_same s (missed h c) (found 1) }

answers_by_test : (bs : List ℕ) (x : Expected) → answered bs x ≡ true → Answers bs x
unfolding answered Answers
answers_by_test bs (refused n p) e = refusal_same (hall_refusal bs) (refusal n p) e
answers_by_test bs (opens c t ks ls) e =
    let tests = all_of (opens_tests (hall_in bs) c t ks ls) in
    (accepted_by_tests bs (and_l (all_of (accepted_tests bs)) tests e), opens_by_tests (hall_in bs) c t ks ls (and_r (all_of (accepted_tests bs)) tests e))
answers_by_test bs (ties c d) e =
    let tests = all_of (ties_tests (hall_in bs) c d) in
    (accepted_by_tests bs (and_l (all_of (accepted_tests bs)) tests e), ties_by_tests (hall_in bs) c d (and_r (all_of (accepted_tests bs)) tests e))
answers_by_test bs (misses c s) e =
    let tests = all_of (misses_tests (hall_in bs) c s) in
    (accepted_by_tests bs (and_l (all_of (accepted_tests bs)) tests e), misses_by_tests (hall_in bs) c s (and_r (all_of (accepted_tests bs)) tests e))
answers_by_test bs (unchosen c) e =
    let test = not (is_choice (hall_in bs) c) in
    (accepted_by_tests bs (and_l (all_of (accepted_tests bs)) test e), not-true (is_choice (hall_in bs) c) (and_r (all_of (accepted_tests bs)) test e))

-- THE LAW: a case that passes its test says what it says
pub says_by_test : (k : Case) → holds_of k ≡ true → Says k
unfolding holds_of case_tests
says_by_test k e =
    let found = all_of-at (case_tests k) e in
    record {
      bytes = found 0;
      shown = hall_same (hall_in k.file) k.shows (found 1);
      answers = answers_by_test k.file k.expected (found 2);
    }

pub cases_by_test : (ks : List Case) → all_in holds_of ks ≡ true → Each Says ks
cases_by_test = each_in holds_of Says says_by_test

-- the test, computed over all three lists
cases_pass : (all_in holds_of starred ≡ true) × (all_in holds_of looped ≡ true) × (all_in holds_of fixed ≡ true)
unfolding xor all_in all_of same_list holds with_junction
    row_of fixed_row hall row count enters leaves any_leaves is_cut ascends_from none_fixed is_choice unfixed_from unfixed entering meets_from meets_all member over_rows spread reached first_short missed is_none joins
    value field blocks offset long_of pairs_good row_in rows_at all_rows hall_in refusal or_else row_number rows_refusal all_numbers connected openable hall_refusal
    total earlier goes_before cut crosses_from cross none_cross cuts_good load loads_fit weight_sum most_cuts level_sum difference levels_from levels
    all_bytes accepted bytes_of price_field rows_bytes blocks_bytes file_of
    every_ascending not_after is_first is_beside same_row same_hall same_refusal same_signed is_some
    accepted_tests opens_tests ties_tests misses_tests answered case_tests holds_of drawn junctions_of printed_hall printed_file printed square half_open starred looped fixed
cases_pass = (refl, refl, refl)

pub starred_hold : StarredHold
unfolding StarredHold
starred_hold = cases_by_test starred cases_pass.0

pub looped_hold : LoopedHold
unfolding LoopedHold
looped_hold = cases_by_test looped cases_pass.1

pub fixed_hold : FixedHold
unfolding FixedHold
fixed_hold = cases_by_test fixed cases_pass.2
